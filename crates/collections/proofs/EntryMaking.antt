-- A value of a map that was lent, or was made and lent.
use Rattle.std.proofs.Common.{Bool, Option, Some, None, Result, Ok, Err, ◌≡◌, refl, sym, ap, subst}
use Rattle.std.specs.Borrow.{MutBor}
use Rattle.std.specs.Option.{MatchOption}
use Rattle.std.specs.Prelude.{IfErr, IfOk, OnErr}
use Rattle.std.specs.declared.alloc.AllocFailed.{AllocFailed}
use Rattle.collections.specs.Changes.{Holds}
use Rattle.collections.specs.Loans.{AddsMatched, PutsMatched}
use Rattle.collections.specs.Maps.{MapView, get_by}
use Rattle.collections.proofs.Entries.{puts_held}

-- what is lent is what was present
pub same_as_held : {V : Type 0} (Q : Type 0) (held : Option V) (value : V) → Some value ≡ held → MatchOption held Q (λ v. value ≡ v)
same_as_held {V} Q held value is = subst (λ (o : Option V). MatchOption o Q (λ v. value ≡ v)) is refl

module _ {K V : Type 0} (P : V → Type 0) (value : V) (made : P value) (outcome : Result (MutBor V) (AllocFailed (K × V))) where
  -- what is lent is what was made
  pub made_lent : IfOk outcome (λ lent. lent.now ≡ value) → IfOk outcome (λ lent. P lent.now)
  made_lent is = from outcome is
    where
      from : (r : Result (MutBor V) (AllocFailed (K × V))) → IfOk r (λ lent. lent.now ≡ value) → IfOk r (λ lent. P lent.now)
      from (Ok lent) is = subst P (sym is) made
      from (Err back) is = tt

  -- and so is what is returned next to the key
  pub made_back : (key : K) → IfErr outcome (λ back. back.value ≡ (key, value))
      → IfErr outcome (λ back. (back.value.0 ≡ key) × P back.value.1)
  made_back key is = from outcome is
    where
      from : (r : Result (MutBor V) (AllocFailed (K × V))) → IfErr r (λ back. back.value ≡ (key, value))
          → IfErr r (λ back. (back.value.0 ≡ key) × P back.value.1)
      from (Ok lent) is = tt
      from (Err back) is = (ap (λ p. p.0) is, subst P (sym (ap (λ p. p.1) is)) made)

-- if nothing was present, what is lent was made
pub lent_vacant : {E V : Type 0} (P : V → Type 0) (held : Option V) → held ≡ None → (r : Result (MutBor V) E)
    → IfOk r (λ lent. P lent.now) → IfOk r (λ lent. MatchOption held (P lent.now) (λ v. lent.now ≡ v))
lent_vacant {E} {V} P held none (Ok lent) made =
    subst (λ (o : Option V). MatchOption o (P lent.now) (λ v. lent.now ≡ v)) (sym none) made
lent_vacant P held none (Err back) made = tt

module _ {K V : Type 0} (P : V → Type 0) (held : Option V) (none : held ≡ None) where
  -- and what is returned was
  pub back_vacant : (key : K) (r : Result (MutBor V) (AllocFailed (K × V))) → IfErr r (λ back. (back.value.0 ≡ key) × P back.value.1)
      → IfErr r (λ back. (back.value.0 ≡ key) × P back.value.1 × (held ≡ None))
  back_vacant key (Ok lent) back = tt
  back_vacant key (Err refused) back = (back.0, back.1, none)

-- if nothing was present, nothing was present when an error was returned
pub none_refused : {A E V : Type 0} (held : Option V) (none : held ≡ None) (r : Result A E) → OnErr r (held ≡ None)
none_refused held none (Ok x) = tt
none_refused held none (Err why) = none

module _ {V : Type 0} (P : V → Type 0) (value : V) (made : P value) (held : Option V) (none : held ≡ None) where
  -- if nothing was present, what is lent is what was made
  pub lent_new : (r : Result (MutBor V) (AllocFailed V)) → IfOk r (λ lent. lent.now ≡ value)
      → IfOk r (λ lent. MatchOption held (P lent.now) (λ v. lent.now ≡ v))
  lent_new (Ok lent) is =
      subst (λ (o : Option V). MatchOption o (P lent.now) (λ v. lent.now ≡ v)) (sym none) (subst P (sym is) made)
  lent_new (Err back) is = tt

  -- and so is what is returned
  pub back_new : (r : Result (MutBor V) (AllocFailed V)) → IfErr r (λ back. back.value ≡ value)
      → IfErr r (λ back. P back.value × (held ≡ None))
  back_new (Ok lent) is = tt
  back_new (Err back) is = (subst P (sym is) made, none)

module _ {K V H : Type 0} (eq : K → K → Bool) (old : MapView K V H) (matches : K → Bool) (value : V) (new : MapView K V H) where
  -- one more pair puts the value, if none of the keys was present
  pub puts_new : get_by matches old ≡ None → AddsMatched eq old matches value new → PutsMatched eq old matches value new
  puts_new none adds = record { cases = rw none adds; updates = adds.updates }

  -- and so does another value under the present key
  pub puts_over : (before : V) → get_by matches old ≡ Some before → Holds eq matches old before value new
      → PutsMatched eq old matches value new
  puts_over before is holds = record {
    cases = puts_held eq old new matches before value _ is holds;
    updates = holds.1.updates;
  }
