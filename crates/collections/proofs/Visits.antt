-- What a closure that calls a function of keys does, if it is called with each pair.
use Rattle.std.proofs.Common.{suc, ◌≡◌, ◌∙◌, Bool, true, false, if◌then◌else◌, List, [], ◌∷◌, length, refl, sym, ap, subst}
use denote.Param.Always.{always_mut, mut_next}
use Rattle.std.specs.Borrow.{Bor, MutBor}
use Rattle.std.specs.Fn.{CalledAt, Mut}
use Rattle.std.specs.List.{FoldsTo, items_where_true}
use Rattle.std.specs.List.Retain.{ReturnsInTurn}
use Rattle.std.specs.Map.{keys_of}
use Rattle.bucket_slots.specs.Walking.{CallsEach}
use Rattle.bucket_table.specs.Walking.Retains.{RetainsEach}
use Rattle.collections.specs.Changes.{Calls, Retains}
use Rattle.collections.specs.Keys.{CallsEachKey}
use Rattle.collections.specs.Maps.{MapView}

-- the key of a pair is left if the result is true
keys_left : {K V : Type 0} (answer : Bool) (key : K) (value : V) (kept : List (K × V)) (answers : List Bool) (keys : List K)
    → keys_of kept ≡ items_where_true answers keys
    → keys_of (if answer then (key, value) ∷ kept else kept) ≡ items_where_true (answer ∷ answers) (key ∷ keys)
keys_left true key value kept answers keys is = ap (λ ks. key ∷ ks) is
keys_left false key value kept answers keys is = is

module _ {S F K V : Type 0} (inside : S → F) (IsKept : S → Type 0) where
  -- the function that the closure borrows was called with the keys, and what each call keeps is kept
  pub keys_visited : (step : S → Bor K → Bor V → S → Type 0) (R : F → K → F → Type 0)
      → (says : (s : S) (own : Bor K) (value : Bor V) (t : S) → IsKept s → step s own value t → IsKept t × R (inside s) own.now (inside t))
      → (first : S) (pairs : List (K × V)) (last : S) → IsKept first → CallsEach step first pairs last
      → IsKept last × FoldsTo R (inside first) (keys_of pairs) (inside last)
  keys_visited step R says first [] last kept is = (subst IsKept (sym is) kept, λ i. inside (sym is i))
  keys_visited step R says first (pair ∷ pairs) last kept called =
      let between = called.3.0 in
      let one = says first called.0 called.1 between kept called.3.1 in
      let rest = keys_visited step R says between pairs last one.0 called.3.2 in
      let key : called.0.now ≡ pair.0 = λ i. (called.2 i).0 in
      (rest.0, (inside between, subst (λ k. R (inside first) k (inside between)) key one.1, rest.1))

  -- the same for pairs
  pub pairs_visited : (step : S → Bor K → Bor V → S → Type 0) (R : F → K × V → F → Type 0)
      → (says : (s : S) (own : Bor K) (value : Bor V) (t : S) → IsKept s → step s own value t
      → IsKept t × R (inside s) (own.now, value.now) (inside t))
      → (first : S) (pairs : List (K × V)) (last : S) → IsKept first → CallsEach step first pairs last
      → IsKept last × FoldsTo R (inside first) pairs (inside last)
  pairs_visited step R says first [] last kept is = (subst IsKept (sym is) kept, λ i. inside (sym is i))
  pairs_visited step R says first (pair ∷ pairs) last kept called =
      let between = called.3.0 in
      let one = says first called.0 called.1 between kept called.3.1 in
      let rest = pairs_visited step R says between pairs last one.0 called.3.2 in
      (rest.0, (inside between, subst (λ p. R (inside first) p (inside between)) called.2 one.1, rest.1))

  -- and it was called with each key
  pub keys_asked : (step : S → Bor K → MutBor V → Bool → MutBor V → S → Type 0) (R : F → K → Bool → F → Type 0)
      → (says : (s : S) (own : Bor K) (before : MutBor V) (answer : Bool) (after : MutBor V) (t : S)
      → IsKept s → step s own before answer after t
      → IsKept t × R (inside s) own.now answer (inside t))
      → (first : S) (pairs left : List (K × V)) (last : S) → IsKept first → RetainsEach step first pairs left last
      → IsKept last × ((answers : List Bool) × (length answers ≡ length (keys_of pairs))
      × ReturnsInTurn R (inside first) answers (keys_of pairs) (inside last)
      × (keys_of left ≡ items_where_true answers (keys_of pairs)))
  keys_asked step R says first [] left last kept is =
      (subst IsKept (sym is.1) kept, ([], refl, (λ i. inside (sym is.1 i)), ap keys_of is.0))
  keys_asked step R says first (pair ∷ pairs) left last kept asked =
      let between = asked.4 in
      let one = says first asked.0 asked.1 asked.3 asked.2 between kept asked.7 in
      let rest = keys_asked step R says between pairs asked.5 last one.0 asked.9 in
      let key : asked.0.now ≡ pair.0 = λ i. (asked.6 i).0 in
      let answers = asked.3 ∷ rest.1.0 in
      let now = ap keys_of asked.8 ∙ keys_left asked.3 asked.0.now asked.2.now asked.5 rest.1.0 (keys_of pairs) rest.1.3 in (
        rest.0,
        (
          answers,
          ap suc rest.1.1,
          (inside between, subst (λ k. R (inside first) k asked.3 (inside between)) key one.1, rest.1.2),
          now ∙ ap (λ k. items_where_true answers (k ∷ keys_of pairs)) key,
        ),
      )

  -- and it was lent each value
  pub pairs_lent : (step : S → Bor K → MutBor V → Bool → MutBor V → S → Type 0)
      (R : F → Bor K → MutBor V → Bool → MutBor V → F → Type 0)
      → (says : (s : S) (own : Bor K) (before : MutBor V) (answer : Bool) (after : MutBor V) (t : S)
      → IsKept s → step s own before answer after t
      → IsKept t × Calls (λ k b a. R (inside s) k b answer a (inside t)) own.now before.now after.now)
      → (first : S) (pairs left : List (K × V)) (last : S) → IsKept first → RetainsEach step first pairs left last
      → IsKept last × RetainsEach R (inside first) pairs left (inside last)
  pairs_lent step R says first [] left last kept is = (subst IsKept (sym is.1) kept, (is.0, λ i. inside (is.1 i)))
  pairs_lent step R says first (pair ∷ pairs) left last kept asked =
      let between = asked.4 in
      let one = says first asked.0 asked.1 asked.3 asked.2 between kept asked.7 in
      let call = one.1 in
      let rest = pairs_lent step R says between pairs asked.5 last one.0 asked.9 in
      let there : (call.0.now, call.1.now) ≡ pair = (λ i. (call.3 i, call.4 i)) ∙ asked.6 in
      let stays : left ≡ (if asked.3 then (call.0.now, call.2.now) ∷ asked.5 else asked.5) =
      asked.8 ∙ (λ i. if asked.3 then (sym call.3 i, sym call.5 i) ∷ asked.5 else asked.5) in
      (rest.0, (call.0, call.1, call.2, asked.3, inside between, asked.5, there, call.6, stays, rest.1))

  -- so the function that the closure borrows decided what is left of a map
  pub retains_lent : {H : Type 0} (eq : K → K → Bool) (step : S → Bor K → MutBor V → Bool → MutBor V → S → Type 0)
      (R : F → Bor K → MutBor V → Bool → MutBor V → F → Type 0)
      → (says : (s : S) (own : Bor K) (before : MutBor V) (answer : Bool) (after : MutBor V) (t : S)
      → IsKept s → step s own before answer after t
      → IsKept t × Calls (λ k b a. R (inside s) k b answer a (inside t)) own.now before.now after.now)
      → (first : S) (old new : MapView K V H) (last : S) → IsKept first → Retains eq step first old new last
      → IsKept last × Retains eq R (inside first) old new (inside last)
  retains_lent eq step R says first old new last kept retained =
      let all = pairs_lent step R says first old.entries new.entries last kept retained.asked in (
        all.0,
        record { asked = all.1; kept = retained.kept; slots = retained.slots; old_slots = retained.old_slots },
      )

-- pairs visited, if each call keeps what is fixed from the start on
pub pairs_visited_from : {S F K V A : Type 0} (inside : S → F) (fixed : S → A) (step : S → Bor K → Bor V → S → Type 0)
    (R : F → K × V → F → Type 0) (first : S) (pairs : List (K × V)) (last : S) → CallsEach step first pairs last
    → (says : (s : S) (own : Bor K) (value : Bor V) (t : S) → fixed s ≡ fixed first → step s own value t
    → (fixed t ≡ fixed s) × R (inside s) (own.now, value.now) (inside t))
    → (fixed last ≡ fixed first) × FoldsTo R (inside first) pairs (inside last)
pairs_visited_from inside fixed step R first pairs last called says =
    pairs_visited inside (λ s. fixed s ≡ fixed first) step R
    (λ s own value t kept e. let one = says s own value t kept e in (one.0 ∙ kept, one.1)) first pairs last refl called

module _ {F K : Type 0} (calls : Mut F (Bor K × Unit {0}) (Unit {0})) where
  -- a function that may always be called may also be called after the calls
  pub callable_after : (first : F) (keys : List K) (last : F) → CallsEachKey calls first keys last → always_mut calls first
      → always_mut calls last
  callable_after first [] last is may = subst (always_mut calls) is may
  callable_after first (key ∷ keys) last called may =
      callable_after called.0 keys last called.2 (mut_next calls first _ _ _ _ called.1.called refl may)

-- a test that may always be called may also be called after its results
pub askable_after : {F K : Type 0} (asks : Mut F (Bor K × Unit {0}) Bool) (first : F) (answers : List Bool) (keys : List K) (last : F)
    → ReturnsInTurn (CalledAt asks) first answers keys last → always_mut asks first → always_mut asks last
askable_after asks first [] keys last is may = subst (always_mut asks) is may
askable_after asks first (answer ∷ answers) [] last asked may = absurd asked
askable_after asks first (answer ∷ answers) (key ∷ keys) last asked may =
    askable_after asks asked.0 answers keys last asked.2 (mut_next asks first _ _ _ _ asked.1.called refl may)
