-- A pair is put into a cache after a search that found none.
use Rattle.std.proofs.Common.{ℕ, ◌≡◌, ◌<◌, ◌%◌, Bool, true, Option, Result, Ok, Err, length, inl, inr, refl, ap, ◌∙◌}
use Rattle.std.specs.Cmp.{IsEquivalence}
use Rattle.std.specs.List.{IsDistinct}
use Rattle.std.specs.Map.{keys_of}
use Rattle.std.proofs.lemmas.List.Sorted.{IsPermutation-sym}
use Rattle.bucket_table.specs.Map.Splitting.{FindsOrSplitsThen, SplitsThen}
use Rattle.bucket_table.specs.Map.MapState.{MapState, state_of}
use Rattle.bucket_table.specs.Map.Preparing.{IsPrepared}
use Rattle.bucket_table.specs.Map.Putting as putting
use Rattle.bucket_table.specs.Views.ArraysView.{ArePlaced, TableView, pairs_of}
use Rattle.bucket_slots.specs.declared.not_inserted.NotInserted.{NotInserted}
use Rattle.bucket_slots.specs.declared.not_inserted.NotInserted.TheVariants.{Memory, Present}
use Rattle.bucket_table.proofs.CallerLemmas.{then_put}
use Rattle.collections.specs.CacheUpserts.{PutsVacant}
use Rattle.collections.specs.Changes.{Puts}
use Rattle.collections.specs.Crowding.{KeepsHome, LacksBucket}
use Rattle.collections.specs.Maps.{map_of}
use Rattle.collections.specs.Orders.{PutsOrKeeps}
use Rattle.collections.proofs.Crowding.{put_lacks}
use Rattle.collections.proofs.Lookups.{distinct_permuted}
use Rattle.collections.proofs.Orders.{puts_home, puts_split}
use Rattle.collections.proofs.Steps.{puts}

module _ {K V H : Type 0} (eq : K → K → Bool) (laws : IsEquivalence eq) (hash_of : H → K → ℕ) (key : K) (value : V) (hash : ℕ)
    (first b s : TableView K V H) (prepared : IsPrepared 67 hash first b) (own : hash ≡ hash_of b.hasher key)
    (distinct : IsDistinct eq (keys_of (pairs_of b.arrays))) (after : IsDistinct eq (keys_of (pairs_of s.arrays)))
    (r : Result (Option (K × V)) (NotInserted K V)) (done : putting.Puts eq key value (state_of 67 b) r (state_of 67 s))
    (finds : FindsOrSplitsThen 67 hash first (λ answer between. putting.PutsAt true (key, value) (hash % 256) between r answer s))
    (never : (k : K) (v : V) → r ≡ Err (Present k v) → ⊥) where
  before : IsDistinct eq (keys_of (pairs_of first.arrays))
  before = distinct_permuted eq laws (pairs_of b.arrays) (pairs_of first.arrays)
      (IsPermutation-sym (pairs_of first.arrays) (pairs_of b.arrays) prepared.map.pairs) distinct

  whole : putting.Puts eq key value (state_of 67 first) r (state_of 67 s)
  whole = then_put eq key value (state_of 67 first) (state_of 67 b) (state_of 67 s) r prepared.map done

  map : Puts eq key value (map_of first) r (map_of s)
  map = puts eq laws 67 first s before after key value r whole

  split_home : (a : Result (Option (K × V)) (NotInserted K V)) → r ≡ a
      → SplitsThen 67 hash first (λ answer between. putting.PutsAt true (key, value) (hash % 256) between a answer s)
      → PutsOrKeeps eq (key, value) hash first a s.arrays
  split_home (Ok went) is split = puts_split hash first s eq laws before (key, value) went split
  split_home (Err (Memory k v)) is split = absurd split.done
  split_home (Err (Present k v)) is split = absurd (never k v is)

  home : PutsOrKeeps eq (key, value) hash first r s.arrays
  home = elim finds [
    | inl here ↦ puts_home hash first s eq laws before (key, value) r here.answer here.between here.found here.done
    | inr split ↦ split_home r refl split
  ]

  module _ (placed : ArePlaced (hash_of s.hasher) s.arrays)
      (current : r ≡ Err (Memory key value) → 0 < length s.arrays.current → KeepsHome 67 (hash_of s.hasher key) s.arrays.current)
      (linked : r ≡ Err (Memory key value) → 0 < length s.arrays.linked → KeepsHome 67 (hash_of s.hasher key) s.arrays.linked) where
    same : hash ≡ hash_of first.hasher key
    same = own ∙ ap (λ (m : MapState K V H). hash_of m.hasher key) prepared.map.others

    lacks : r ≡ Err (Memory key value) → LacksBucket hash_of key (map_of first)
    lacks is = elim finds [
      | inl here ↦ put_lacks hash_of key first s placed (current is) (linked is) true value eq r key value whole (rw same at here) is
      | inr split ↦ absurd (rw is at split.done)
    ]

    answers : (a : Result (Option (K × V)) (NotInserted K V)) → r ≡ a → Puts eq key value (map_of first) a (map_of s)
        → PutsOrKeeps eq (key, value) hash first a s.arrays → PutsVacant eq hash_of key value hash first a s
    answers (Ok went) is puts home = (puts, home)
    answers (Err (Memory k v)) is kept home =
        (kept.0.0, kept.0.1, kept.0.2, kept.1, home, lacks (is ∙ rw (kept.0.0, kept.0.1) refl))
    answers (Err (Present k v)) is kept home = never k v is

    pub put_vacant : PutsVacant eq hash_of key value hash first r s
    put_vacant = answers r refl map home

-- the result of a put into a cache then
pub vacant_put : {K V H : Type 0} (eq : K → K → Bool) (hash_of : H → K → ℕ) (key : K) (value : V) (hash : ℕ) (first s : TableView K V H)
    (r : Result (Option (K × V)) (NotInserted K V)) → PutsVacant eq hash_of key value hash first r s
    → Puts eq key value (map_of first) r (map_of s) × PutsOrKeeps eq (key, value) hash first r s.arrays
    × (r ≡ Err (Memory key value) → LacksBucket hash_of key (map_of first))
vacant_put eq hash_of key value hash first s (Ok went) put = (put.0, put.1, λ is. absurd cc)
vacant_put eq hash_of key value hash first s (Err (Memory k v)) put = (((put.0, put.1, put.2), put.3), put.4, λ is. put.5)
vacant_put eq hash_of key value hash first s (Err (Present k v)) none = absurd none
