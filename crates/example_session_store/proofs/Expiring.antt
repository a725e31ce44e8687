-- What is left if the sessions that have expired are dropped.
use Rattle.std.proofs.Common.{ℕ, ◌≡◌, ◌∙◌, Bool, true, false, if◌then◌else◌, not, nat_eq, Option, Some, None, List, [], ◌∷◌, inl, inr}
use Rattle.std.proofs.Common.{refl, ap}
use Rattle.std.specs.Borrow.{Bor, MutBor}
use Rattle.std.specs.List.{IsDistinct, filter}
use Rattle.std.specs.Map.{keys_of, lookup}
use Rattle.std.proofs.lemmas.Bool.{cases_Bool}
use Rattle.std.proofs.lemmas.Cmp.{nat_eq_equiv}
use Rattle.std.proofs.lemmas.Map.Entries.{lookup-filter-values, option_filter}
use Rattle.bucket_table.specs.Walking.Retains.{RetainsEach}
use Rattle.example_session_store.specs.Sessions.{alive, has_expired}
use Rattle.example_session_store.specs.declared.store.Session.{Session}

module _ {S K V : Type 0} (step : S → Bor K → MutBor V → Bool → MutBor V → S → Type 0) (IsKept : S → Type 0) (test : V → Bool)
    (says : (s : S) (own : Bor K) (before : MutBor V) (answer : Bool) (after : MutBor V) (t : S) → IsKept s
    → step s own before answer after t → IsKept t × (answer ≡ test before.now) × (after.now ≡ before.now))
  where
    abbrev left_of : List (K × V) → List (K × V)
    left_of = filter (λ pair. test pair.1)

    -- one pair more
    one_more : (answer : Bool) (pair : K × V) (kept rest : List (K × V)) → answer ≡ test pair.1 → kept ≡ left_of rest
        → (if answer then pair ∷ kept else kept) ≡ left_of (pair ∷ rest)
    one_more true pair kept rest same is = ap (λ l. pair ∷ l) is ∙ ap (λ (b : Bool). if b then pair ∷ left_of rest else left_of rest) same
    one_more false pair kept rest same is = is ∙ ap (λ (b : Bool). if b then pair ∷ left_of rest else left_of rest) same

    -- a function that returns the result of a test of the value, and leaves the value, keeps those that pass
    pub retained_by : (first : S) (pairs left : List (K × V)) (last : S) → IsKept first → RetainsEach step first pairs left last
        → left ≡ filter (λ pair. test pair.1) pairs
    retained_by first [] left last kept asked = asked.0
    retained_by first (pair ∷ pairs) left last kept asked =
        let said = says first asked.0 asked.1 asked.3 asked.2 asked.4 kept asked.7 in
        let rest = retained_by asked.4 pairs asked.5 last said.0 asked.9 in
        let same : (asked.0.now, asked.2.now) ≡ pair = (λ i. (asked.0.now, said.2 i)) ∙ asked.6 in
        let answer : asked.3 ≡ test pair.1 = said.1 ∙ (λ i. test ((asked.6 i).1)) in
        asked.8 ∙ (λ i. if (asked.3) then same i ∷ asked.5 else asked.5) ∙ one_more asked.3 pair asked.5 pairs answer rest

-- a session is left unless it has expired
left_alive : (now : ℕ) (session : Option Session) → option_filter (λ s. not (has_expired now s)) session ≡ alive now session
left_alive now None = refl
left_alive now (Some session) = elim (cases_Bool (has_expired now session)) [
  | inl hit ↦ rw hit refl
  | inr miss ↦ rw miss refl
]

-- so each token has what it had, unless that has expired
pub left_at : (now : ℕ) (old new : List (ℕ × Session)) → IsDistinct nat_eq (keys_of old)
    → new ≡ filter (λ pair. not (has_expired now pair.1)) old
    → (token : ℕ) → lookup (nat_eq token) new ≡ alive now (lookup (nat_eq token) old)
left_at now old new distinct left token =
    ap (lookup (nat_eq token)) left ∙ lookup-filter-values nat_eq_equiv (λ s. not (has_expired now s)) token old distinct
    ∙ left_alive now (lookup (nat_eq token) old)
