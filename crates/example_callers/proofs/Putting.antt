-- What a put after a look-up shows about the map before both.
use Rattle.std.proofs.Common.{◌≡◌, Bool, false, cond, Option, Some, None, is_some, IsSome, Result, Ok, Err, sym, ap, subst, ◌∙◌}
use Rattle.std.specs.Borrow.{Bor}
use Rattle.std.specs.Cmp.{IsEquivalence}
use Rattle.std.specs.Option.{option_copied, unwrap_or}
use Rattle.std.proofs.lemmas.Bool.{false≢true}
use Rattle.std.proofs.lemmas.List.Sorted.{IsPermutation-trans}
use Rattle.bucket_slots.specs.declared.not_inserted.NotInserted.{NotInserted}
use Rattle.collections.specs.Changes.{Puts, Stays}
use Rattle.collections.specs.Maps.{MapView, get}
use Rattle.example_callers.specs.Sessions.{HasSession}

-- a user of whom no session was found had none
pub none_had : {S : Type 0} (found : Option (Bor S)) (had : Option S) (some : Bool) → option_copied found ≡ had → some ≡ is_some found
    → some ≡ false → IsSome had → ⊥
none_had None had some copied tested fails there = false≢true (rw (← copied) at there)
none_had (Some session) had some copied tested fails there = false≢true (sym fails ∙ tested)

module _ {U S H : Type 0} (eq : U → U → Bool) (old between : MapView U S H) (kept : Stays eq old between) where
  -- what stays in two steps
  stays_joined : (new : MapView U S H) → Stays eq between new → Stays eq old new
  stays_joined new more = record {
    entries = IsPermutation-trans old.entries between.entries new.entries kept.entries more.entries;
    len = more.len ∙ kept.len;
    gets = λ key. more.gets key ∙ kept.gets key;
    kept = record {
      unique = more.kept.unique;
      hasher = more.kept.hasher ∙ kept.kept.hasher;
      minimum = more.kept.minimum ∙ kept.kept.minimum;
      maximum = more.kept.maximum ∙ kept.kept.maximum;
    };
  }

  -- what a put that fails leaves
  pub refused_stays : (user : U) (fresh : S) (put : Result (Option (U × S)) (NotInserted U S)) (why : NotInserted U S) (new : MapView U S H)
      → put ≡ Err why → Puts eq user fresh between put new → Stays eq old new
  refused_stays user fresh put why new is done = stays_joined new (subst (λ p. Puts eq user fresh between p new) is done).1

  -- what a put that succeeds gives
  pub put_session : IsEquivalence eq → (user : U) (fresh : S) (put : Result (Option (U × S)) (NotInserted U S)) (gone : Option (U × S))
      (new : MapView U S H) → put ≡ Ok gone → Puts eq user fresh between put new → HasSession eq user fresh gone old new
  put_session laws user fresh put gone new is done = from gone (subst (λ p. Puts eq user fresh between p new) is done)
    where
      fresh_own : get eq between user ≡ None → fresh ≡ unwrap_or (get eq old user) fresh
      fresh_own absent = ap (λ (o : Option S). unwrap_or o fresh) (sym absent ∙ kept.gets user)

      from : (left : Option (U × S)) → Puts eq user fresh between (Ok left) new → HasSession eq user fresh left old new
      from None adds = record {
        own = adds.updates user ∙ ap (λ (b : Bool). cond b (Some fresh) (get eq between user)) (laws.refl user)
            ∙ ap Some (fresh_own adds.absent);
        was = tt;
        others = λ other miss. adds.updates other ∙ ap (λ (b : Bool). cond b (Some fresh) (get eq between other)) miss ∙ kept.gets other;
      }
      from (Some pair) moves = record {
        own = moves.gets user
            ∙ ap (λ (b : Bool). cond b (Some fresh) (cond (eq pair.0 user) None (get eq between user))) (laws.refl user)
            ∙ ap Some (fresh_own moves.absent);
        was = sym (kept.gets pair.0) ∙ moves.went;
        others = λ other miss. moves.gets other
            ∙ ap (λ (b : Bool). cond b (Some fresh) (cond (eq pair.0 other) None (get eq between other))) miss
            ∙ ap (cond (eq pair.0 other) None) (kept.gets other);
      }
