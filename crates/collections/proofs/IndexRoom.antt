-- An insertion into an index that ran out of memory lacked slots.
use Rattle.std.proofs.Common.{ℕ, ◌≡◌, ◌≤◌, ◌<◌, ◌+◌, ◌%◌, Bool, true, false, if◌then◌else◌, None, Result, Ok, Err, List, [], ◌∷◌}
use Rattle.std.proofs.Common.{length, map, inl, inr, refl, sym, subst, arith}
use Rattle.std.specs.List.{list_any}
use Rattle.std.proofs.lemmas.Bool.{cases_lt, true≢false}
use Rattle.std.proofs.lemmas.List.Sums.{sum_by-append, sum_by-cons}
use Rattle.bucket_slots.specs.BucketLaws.{IsBucketOf}
use Rattle.bucket_slots.specs.BucketView.{BucketView, first_place, flattened, pairs_in}
use Rattle.bucket_slots.specs.Clearing.{is_full_with_marks, slot_without_expired, slots_without_expired}
use Rattle.bucket_slots.specs.Homes.{IsHome}
use Rattle.bucket_slots.specs.Slots.{Slot, free, free_len, is_free, live, live_pairs, marked}
use Rattle.bucket_slots.proofs.CallerLemmas.{free_len_in-none, length-live_pairs-append, tally}
use Rattle.bucket_slots.specs.Digested.{HasNoSlot}
use Rattle.bucket_table.specs.Map.ByKey.{Inserts, InsertsAt}
use Rattle.bucket_table.specs.Map.Finding.{Finds, FindsThen}
use Rattle.bucket_table.specs.Map.MapState.{KeepsPairs, state_of}
use Rattle.bucket_table.specs.Views.ArraysView.{ArePlaced, TableView}
use Rattle.bucket_table.specs.Views.Sides.{bucket_on, buckets_on}
use Rattle.bucket_table.specs.declared.hash_table.ResizeRule.TheVariants.{Counted}
use Rattle.bucket_table.specs.declared.arrays.side.Side.{Side}
use Rattle.bucket_table.proofs.CallerLemmas.{hasher_kept}
use Rattle.bucket_slots.specs.declared.not_inserted.NotInserted.{NotInserted}
use Rattle.bucket_slots.specs.declared.not_inserted.NotInserted.TheVariants.{Memory}
use Rattle.collections.specs.Crowding.{KeepsHome, LacksSlots}
use Rattle.collections.proofs.Crowding.{found_len, found_none, found_some, laws_on, none_found}
use Rattle.collections.proofs.InsertedMarks.{none_kept}

module _ {K V : Type 0} where
  frees : (x : Slot K V) (slots : List (Slot K V)) → free_len (x ∷ slots) ≡ tally (is_free x) + free_len slots
  frees x slots = sum_by-cons (λ (y : Slot K V). tally (is_free y)) x slots

  none_free : (slots : List (Slot K V)) → free_len slots ≡ 0 → list_any is_free slots ≡ false
  none_free [] none = refl
  none_free (free ∷ slots) none = absurd (omega (arith, frees free slots, none))
  none_free (live pair byte ∷ slots) none = none_free slots (omega (arith, frees (live pair byte) slots, none))
  none_free (marked pair epoch ∷ slots) none = none_free slots (omega (arith, frees (marked pair epoch) slots, none))

  -- in a row without a free slot and without tombstones each slot is live
  all_live : (slots : List (Slot K V)) → free_len slots ≡ 0 → is_full_with_marks slots ≡ false
      → length (live_pairs slots) ≡ length slots
  all_live [] none unmarked = refl
  all_live (free ∷ slots) none unmarked = absurd (omega (arith, frees free slots, none))
  all_live (live pair byte ∷ slots) none unmarked =
      let rest = all_live slots (omega (arith, frees (live pair byte) slots, none)) unmarked in
      omega (arith, rest)
  all_live (marked pair epoch ∷ slots) none unmarked =
      let others = none_free slots (omega (arith, frees (marked pair epoch) slots, none)) in
      absurd (true≢false (rw others at unmarked))

  -- each slot is live, or free once the tombstones are dropped
  parted : (slots : List (Slot K V)) → length (live_pairs slots) + free_len (map (slot_without_expired none_kept) slots) ≡ length slots
  parted [] = refl
  parted (free ∷ slots) =
      let rest = parted slots in
      omega (arith, frees free (map (slot_without_expired none_kept) slots), rest)
  parted (live pair byte ∷ slots) =
      let rest = parted slots in
      omega (arith, frees (live pair byte) (map (slot_without_expired none_kept) slots), rest)
  parted (marked pair epoch ∷ slots) =
      let rest = parted slots in
      omega (arith, frees free (map (slot_without_expired none_kept) slots), rest)

  -- the own slots of a bucket that has no slot for an insertion
  own_full : (bucket : BucketView K V) (looks : Bool) → is_full_with_marks bucket.own ≡ looks
      → first_place is_free (if looks then slots_without_expired none_kept bucket else bucket) ≡ None
      → length bucket.own ≤ length (live_pairs bucket.own)
  own_full bucket true is none =
      let cleared = slots_without_expired none_kept bucket in
      let frees = sum_by-append (λ (y : Slot K V). tally (is_free y)) cleared.own (flattened cleared.chain) in
      omega (arith, parted bucket.own, frees, free_len_in-none cleared none)
  own_full bucket false is none =
      let frees = sum_by-append (λ (y : Slot K V). tally (is_free y)) bucket.own (flattened bucket.chain) in
      let none_own : free_len bucket.own ≡ 0 = omega (arith, frees, free_len_in-none bucket none) in
      omega (arith, all_live bucket.own none_own is)

  -- it has 32 pairs
  full : (bucket : BucketView K V) → IsBucketOf 79 bucket → HasNoSlot 79 none_kept bucket → 32 ≤ length (pairs_in bucket)
  full bucket laws none =
      let own = own_full bucket (is_full_with_marks bucket.own) refl none in
      let pairs = length-live_pairs-append bucket.own (flattened bucket.chain) in
      let long = laws.own_long in
      omega (arith, own, pairs, long)

module _ {K V H : Type 0} (hash_of : H → K → ℕ) (key : K) (old new : TableView K V H) (placed : ArePlaced (hash_of new.hasher) new.arrays)
    (current : 0 < length new.arrays.current → KeepsHome 79 (hash_of new.hasher key) new.arrays.current)
    (linked : 0 < length new.arrays.linked → KeepsHome 79 (hash_of new.hasher key) new.arrays.linked) (value : V) where
  inserted_by : (A : Type 0) (k : K) (v : V) (answer : Result (Side × ℕ) (Unit {0})) (between : TableView K V H)
      → KeepsPairs (state_of 79 old) (state_of 79 new) → Finds Counted 79 (hash_of old.hasher key) old answer between
      → InsertsAt {A = A} 79 none_kept (key, value) (hash_of old.hasher key % 256) between (Err (Memory k v)) answer new
      → LacksSlots hash_of key old new
  unfolding LacksSlots
  inserted_by A k v (Ok at) between holds finds done = elim (cases_lt 0 (length old.arrays.current)) [
    | inr empty ↦ inl (inl (inl (omega (arith, empty))))
    | inl stands ↦
        let found = found_some 79 hash_of key old between new holds done.1 at.0 at.1 finds in
        let full_there = full (bucket_on new.arrays at.0 at.1)
        (laws_on 79 hash_of key (hash_of new.hasher key) old new refl placed current linked at.0 at.1 found.home)
        (subst (λ (t : TableView K V H). HasNoSlot 79 none_kept (bucket_on t.arrays at.0 at.1)) (sym done.1) done.0) in
        inr (
          at.0,
          found_len Counted 79 (hash_of new.hasher key) old.arrays at.0 at.1 new.arrays found.found stands,
          record {
            index = at.1;
            home = subst (λ (h : H). IsHome (length (buckets_on new.arrays at.0)) (hash_of h key) at.1) (hasher_kept _ _ holds) found.home;
            many = full_there;
          },
        )
  ]
  inserted_by A k v (Err e) between holds refused done =
      inl (none_found 79 hash_of key (hash_of new.hasher key) old new refl placed current linked
      (found_none 79 hash_of key old between new holds done refused))

  -- a pair that an insertion returned because allocation failed
  pub index_lacks : {A : Type 0} (eq : K → K → Bool) (result : Result A (NotInserted K V)) (k : K) (v : V)
      → Inserts eq key value (state_of 79 old) result (state_of 79 new)
      → FindsThen Counted 79 (hash_of old.hasher key) old
      (λ answer between. InsertsAt 79 none_kept (key, value) (hash_of old.hasher key % 256) between result answer new)
      → result ≡ Err (Memory k v) → LacksSlots hash_of key old new
  index_lacks {A} eq result k v map finds is =
      inserted_by A k v finds.answer finds.between
      (subst (λ (r : Result A (NotInserted K V)). Inserts eq key value (state_of 79 old) r (state_of 79 new)) is map).1 finds.found
      (subst (λ (r : Result A (NotInserted K V)).
      InsertsAt 79 none_kept (key, value) (hash_of old.hasher key % 256) finds.between r finds.answer new) is finds.done)
