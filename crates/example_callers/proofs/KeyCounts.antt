-- What one more key does to a count.
use Rattle.std.proofs.Common.{length-take-le, ℕ, ◌≡◌, ◌+◌, ◌-◌, ◌^◌, ◌<◌, min, inl, inr, Bool, true, false, cond, List, [], length, take}
use Rattle.std.proofs.Common.{get_or, Option, Some, None, Result, Ok, Err, sym, ap, subst, ◌∙◌, rules, arith}
use Rattle.std.specs.Borrow.{Bor, MutBor}
use Rattle.std.specs.Cmp.{IsEquivalence}
use Rattle.std.specs.List.{IsDistinct, count_by}
use Rattle.std.specs.Map.{keys_of, lookup}
use Rattle.std.specs.Option.{is_some}
use Rattle.std.specs.Result.{is_err}
use Rattle.std.proofs.lemmas.Bool.{cases_Bool}
use Rattle.std.proofs.lemmas.List.Sums.{count_by-le-length, count_by_more_no, count_by_more_yes}
use Rattle.bucket_slots.specs.declared.not_inserted.NotInserted.{NotInserted}
use Rattle.collections.specs.Maps.{MapView, IsEmpty, IsUnique, get}
use Rattle.collections.specs.Changes.{Inserts, Rewrites, Updates}
use Rattle.example_callers.specs.Counts.{Counts, unless_zero}

-- something is counted
pub unless_zero-more : (n : ℕ) → unless_zero (n + 1) ≡ Some (n + 1)
unless_zero-more n = grind arith

-- a number that is present is the count
pub count_from_there : (n m : ℕ) → unless_zero n ≡ Some m → n ≡ m
count_from_there n m there = grind (arith, there)

-- if there is no number, nothing is counted
pub count_from_none : (n : ℕ) → unless_zero n ≡ None → n ≡ 0
count_from_none n none = grind (arith, none)

module _ {K : Type 0} (eq : K → K → Bool) (laws : IsEquivalence eq) where
  -- equal keys occur as often
  occurrences_same : (q key : K) (keys : List K) → eq q key ≡ true → count_by (eq q) keys ≡ count_by (eq key) keys
  occurrences_same q key keys same = λ i. count_by (λ other. laws.congr q key other same i) keys

module _ {K H : Type 0} (eq : K → K → Bool) (laws : IsEquivalence eq) where
  -- the key at a place is counted once more
  pub counts_more : (keys : List K) (place : ℕ) (key : K) (old new : MapView K ℕ H) → place < length keys
      → key ≡ get_or keys place key → Counts eq (take place keys) old
      → Updates eq old (eq key) (Some (count_by (eq key) (take place keys) + 1)) new → Counts eq (take (place + 1) keys) new
  counts_more keys place key old new below item counts updates q =
      let so_far = count_by (eq key) (take place keys) in
      let value = updates q in
      elim (cases_Bool (eq key q)) [
        | inl hit ↦
            let same : eq q key ≡ true = laws.symm q key ∙ hit in
            let more = count_by_more_yes (eq q) keys place key below (subst (λ (k : K). eq q k ≡ true) item same) in
            value ∙ ap (λ (b : Bool). cond b (Some (so_far + 1)) (get eq old q)) hit ∙ sym (unless_zero-more so_far)
            ∙ ap (λ (n : ℕ). unless_zero (n + 1)) (sym (occurrences_same eq laws q key (take place keys) same)) ∙ ap unless_zero (sym more)
        | inr miss ↦
            let other : eq q key ≡ false = laws.symm q key ∙ miss in
            let more = count_by_more_no (eq q) keys place key below (subst (λ (k : K). eq q k ≡ false) item other) in
            value ∙ ap (λ (b : Bool). cond b (Some (so_far + 1)) (get eq old q)) miss ∙ counts q ∙ ap unless_zero (sym more)
      ]

  -- an empty map counts the keys of no list
  pub counts_none : (counts : MapView K ℕ H) → IsEmpty counts → Counts eq [] counts × IsUnique eq counts
  unfolding IsDistinct
  counts_none counts empty =
      (λ key. ap (lookup (eq key)) empty, subst (λ (entries : List (K × ℕ)). IsDistinct eq (keys_of entries)) (sym empty) (search rules))

  module _ (keys : List K) (place : ℕ) (key : K) (old : MapView K ℕ H) (below : place < length keys) (item : key ≡ get_or keys place key)
      (counts : Counts eq (take place keys) old) (changes : Bor K → MutBor ℕ → Unit {0} → MutBor ℕ → Type 0) where
    -- a key that is present is counted once more
    pub counts_raised : length keys < 2 ^ 64
        → ((own : Bor K) (before after : MutBor ℕ) → changes own before tt after → after.now ≡ min (before.now + 1) (2 ^ 64 - 1))
        → (raised : Option (Unit {0})) (new : MapView K ℕ H) → is_some raised ≡ true → Rewrites eq (eq key) changes old raised new
        → Counts eq (take (place + 1) keys) new × IsUnique eq new
    counts_raised fits more None new some done = absurd cc
    counts_raised fits more (Some answer) new some done =
        let before = done.1.now in
        let so_far = count_by (eq key) (take place keys) in
        let is : so_far ≡ before = count_from_there so_far before (sym (counts key) ∙ done.4.value) in
        let few = count_by-le-length (eq key) (take place keys) in
        let short : length (take place keys) ≡ place = length-take-le place keys (omega arith) in
        let later : done.2.now ≡ so_far + 1 = omega (arith, more done.0 done.1 done.2 done.3, is, few, short, below, fits) in (
          counts_more keys place key old new below item counts
              (λ q. done.4.updates q ∙ ap (λ (n : ℕ). cond (eq key q) (Some n) (get eq old q)) later),
          done.4.kept.unique,
        )

    -- a key that is absent is put with the count 1
    pub counts_put : {A : Type 0} (raised : Option (Unit {0})) (between new : MapView K ℕ H) (put : Result A (NotInserted K ℕ))
        → is_some raised ≡ false → is_err put ≡ false → Rewrites eq (eq key) changes old raised between → Inserts eq key 1 between put new
        → Counts eq (take (place + 1) keys) new × IsUnique eq new
    counts_put (Some answer) between new put none ok done added = absurd cc
    counts_put None between new (Err why) none ok done added = absurd cc
    counts_put None between new (Ok x) none ok done added =
        let so_far = count_by (eq key) (take place keys) in
        let zero_so_far : so_far ≡ 0 = count_from_none so_far (sym (counts key) ∙ done.0) in (
          counts_more keys place key old new below item counts
              (λ q. added.updates q ∙ ap (λ (o : Option ℕ). cond (eq key q) (Some 1) o) (done.1.gets q)
              ∙ ap (λ (n : ℕ). cond (eq key q) (Some (n + 1)) (get eq old q)) (sym zero_so_far)),
          added.kept.unique,
        )
