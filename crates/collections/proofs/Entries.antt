-- A key's place in a map whose value was lent.
use Rattle.std.proofs.Common.{ℕ, Bool, Option, Some, ◌≡◌, ◌∙◌, cond, refl, sym, subst, ap}
use Rattle.std.specs.Borrow.{MutBor}
use Rattle.std.specs.Cmp.{IsEquivalence}
use Rattle.std.specs.Option.{IfSome, IsSome, MatchOption}
use Rattle.collections.specs.Changes.{Holds, Keeps, Replaces}
use Rattle.collections.specs.Hashes.{HaveHash}
use Rattle.collections.specs.Slots.{KeepsSlots}
use Rattle.collections.specs.Maps.{MapView, get, get_by}
use Rattle.collections.proofs.Lookups.{IsForm, form_of_key}

-- a hash that is known of keys stays the same if the hasher stays
pub hash_stays : {K V H : Type 0} (eq : K → K → Bool) (hash_of : H → K → ℕ) (key : K) (hash : ℕ) (old new : MapView K V H)
    → Keeps eq old new → hash ≡ hash_of old.hasher key → hash ≡ hash_of new.hasher key
hash_stays eq hash_of key hash old new keeps is = is ∙ ap (λ h. hash_of h key) (sym keeps.hasher)

pub hashes_stay : {K V H : Type 0} (eq : K → K → Bool) (hash_of : H → K → ℕ) (matches : K → Bool) (hash : ℕ) (old new : MapView K V H)
    → Keeps eq old new → HaveHash matches (hash_of old.hasher) hash → HaveHash matches (hash_of new.hasher) hash
hashes_stay eq hash_of matches hash old new keeps have = λ key wanted. ap (λ h. hash_of h key) keeps.hasher ∙ have key wanted

-- what is lent is what was present
pub same_as_lent : {V : Type 0} (P : V → Type 0) (held : Option V) (value : V) → Some value ≡ held
    → MatchOption held (P value) (λ v. value ≡ v)
same_as_lent P held value is = subst (λ (o : Option _). MatchOption o (P value) (λ v. value ≡ v)) is refl

-- a value that is lent in place is put, whatever a put does if no key matches
pub puts_held : {K V H : Type 0} (eq : K → K → Bool) (map new : MapView K V H) (matches : K → Bool) (before value : V) (P : Type 0)
    → get_by matches map ≡ Some before → Holds eq matches map before value new
    → MatchOption (get_by matches map) P (λ held. (own : K) × Replaces eq map matches (own, held) value new)
puts_held {K} {V} eq map new matches before value P is holds =
    subst (λ (o : Option V). MatchOption o P (λ held. (own : K) × Replaces eq map matches (own, held) value new)) (sym is) holds

module _ {K V H : Type 0} (eq : K → K → Bool) (map new : MapView K V H) (matches : K → Bool) (loan : Option (MutBor V)) (lent : MutBor V)
    (value : V) (is : loan ≡ Some lent) (holds : IfSome loan
    (λ l. (own : K) × Replaces eq map matches (own, l.now) value new × KeepsSlots map new)) where
  -- a loan of a present value replaces it
  pub replaces_there : (own : K) × Replaces eq map matches (own, lent.now) value new
  replaces_there = let both = rw is at holds in (both.0, both.1)

  -- and the slots stay
  pub slots_there : KeepsSlots map new
  slots_there = let both = rw is at holds in both.2

  -- and so the value is put, whatever a put does if no key matches
  pub puts_there : (P : Type 0)
      → MatchOption (get_by matches map) P (λ before. (own : K) × Replaces eq map matches (own, before) value new)
  puts_there P =
      subst (λ (held : Option V). MatchOption held P
      (λ before. (own : K) × Replaces eq map matches (own, before) value new)) (sym replaces_there.1.value) replaces_there

  -- and the map still contains the key
  pub still_there : IsEquivalence eq → IsForm eq matches → IsSome (get_by matches new)
  still_there laws alike =
      let own = replaces_there.0 in
      let with_value = replaces_there.1 in
      let found : get_by matches new ≡ Some value =
      form_of_key eq laws matches alike own new.entries with_value.same ∙ with_value.updates own
      ∙ ap (λ b. cond b (Some value) (get eq map own)) with_value.same in
      subst IsSome (sym found) refl
