-- The tombstones of an index after a removal.
use Rattle.bucket_table.specs.declared.arrays.side.Side.{Side}
use Rattle.bucket_table.specs.declared.arrays.side.Side.TheVariants.{Current, Old}
use Rattle.std.proofs.Common.{ℕ, ◌≡◌, ◌<◌, ◌++◌, inl, inr, Bool, true, false, Some, List, [], ◌∷◌, length, replicate, zero, suc, refl}
use Rattle.std.proofs.Common.{Result, sym, ap, subst, ◌+◌, ◌-◌, ◌∙◌, append-nil}
use Rattle.std.proofs.lemmas.Bool.{cases_lt}
use Rattle.std.specs.List.Sorted.{IsPermutation}
use Rattle.std.proofs.lemmas.List.{nil_from_length}
use Rattle.std.proofs.lemmas.List.Sorted.{Contains-permutation, IsPermutation-append_right, IsPermutation-sym, IsPermutation-trans}
use Rattle.bucket_slots.specs.ArrayView.{IsNewArray}
use Rattle.bucket_slots.specs.BucketView.{BucketView, Place, block_at, empty_bucket, marks_in, slot_in, with_slot_at}
use Rattle.bucket_slots.specs.Marking.{slot_marked, slots_marked}
use Rattle.bucket_slots.specs.Slots.{Slot, free, is_live, live_pair, marked, marked_entry, slot_at}
use Rattle.bucket_slots.proofs.CallerLemmas.{flat_map-exchanged, live_inside, live_is, mark_of, no_new-same, no_new-trans, regrouped}
use Rattle.bucket_slots.proofs.CallerLemmas.{rotated, rows-exchanged}
use Rattle.bucket_table.specs.Map.ByKey.{ShrinksAt}
use Rattle.bucket_table.specs.Map.LookingUp.{IsThere}
use Rattle.bucket_table.specs.Map.Preparing.{IsPrepared}
use Rattle.bucket_table.specs.Rehash.Relocation.{marks_among}
use Rattle.bucket_table.specs.Resize.Resizing.{IsPushed, Releases, Reserves, TriesResize, with_minimum}
use Rattle.bucket_table.specs.Views.ArraysView.{ArraysView, TableView, tombstones_of, pairs_of}
use Rattle.bucket_table.specs.Views.Sides.{arrays_with, bucket_on, buckets_on}
use Rattle.collections.specs.Marks.{AddsMark, AreEarlierMarks, KeepsMarks, MarksRemoved}
use Rattle.collections.proofs.Shrinking.{none_left, removed_ends, tried}
use Rattle.collections.proofs.StayingMarks.{in_buckets, on_side}

module _ {K V : Type 0} where
  -- replacing a slot exchanges its tombstone for that of the new slot
  marks_in-with_slot : (s : BucketView K V) (block pos : ℕ) (x : Slot K V) → pos < length (block_at s block)
      → IsPermutation (mark_of x ++ marks_in s) (mark_of (slot_at (block_at s block) pos) ++ marks_in (with_slot_at s block pos x))
  marks_in-with_slot s zero pos x short = rows-exchanged marked_entry (s.own ∷ s.chain) zero pos x free short
  marks_in-with_slot s (suc i) pos x short = rows-exchanged marked_entry (s.own ∷ s.chain) (suc i) pos x free short

  -- a pair that becomes a tombstone adds one, among those of its bucket and among all
  marks_in-marked : (s : BucketView K V) (at : Place) (epoch : ℕ) (pair : K × V) → live_pair (slot_in s at) ≡ Some pair
      → IsPermutation ((pair, epoch) ∷ marks_in s) (marks_in (slots_marked s at epoch))
  marks_in-marked s at epoch pair here =
      let is = live_is (slot_in s at) pair here in
      let put = marks_in-with_slot s at.block at.pos (marked pair epoch) (live_inside (block_at s at.block) at.pos (ap is_live is.1)) in
      let went = rw is.1 at put in
      let same = ap (slot_marked epoch) (sym is.1) in
      subst (λ x. IsPermutation ((pair, epoch) ∷ marks_in s) (marks_in (with_slot_at s at.block at.pos x))) same went

  tombstones_of-marked : (arrays : ArraysView K V) (side : Side) (index : ℕ) (at : Place) (epoch : ℕ) (pair : K × V)
      → index < length (buckets_on arrays side) → live_pair (slot_in (bucket_on arrays side index) at) ≡ Some pair
      → IsPermutation ((pair, epoch) ∷ tombstones_of arrays)
      (tombstones_of (arrays_with arrays side index (slots_marked (bucket_on arrays side index) at epoch)))
  tombstones_of-marked arrays Current index at epoch pair within here =
      let one = (pair, epoch) ∷ [] in
      regrouped one [] (marks_among arrays.current) _ (marks_among arrays.linked)
      (flat_map-exchanged marks_in one [] arrays.current index _ empty_bucket within (marks_in-marked _ at epoch pair here))
  tombstones_of-marked arrays Old index at epoch pair within here =
      let one = (pair, epoch) ∷ [] in
      let front = marks_among arrays.current in
      IsPermutation-trans _ _ _ (rotated one front (marks_among arrays.linked)) (IsPermutation-append_right front _ _
      (flat_map-exchanged marks_in one [] arrays.linked index _ empty_bucket within (marks_in-marked _ at epoch pair here)))

  -- a new array has none, and so arrays that are pushed or made have the tombstones that they had
  new_marks : (n : ℕ) → marks_among (replicate n (empty_bucket {K = K} {V = V})) ≡ []
  new_marks zero = refl
  new_marks (suc n) = new_marks n

  fresh_marks : (capacity : ℕ) (fresh : List (BucketView K V)) → IsNewArray capacity fresh → marks_among fresh ≡ []
  fresh_marks capacity fresh is = ap (λ (bs : List (BucketView K V)). marks_among bs) is.empty ∙ new_marks (length fresh)

  tombstones_of-pushed : (capacity : ℕ) (old new : ArraysView K V) → IsPushed capacity old new → tombstones_of new ≡ tombstones_of old
  tombstones_of-pushed capacity old new pushed = rw (
    pushed.new_is,
    fresh_marks capacity pushed.fresh pushed.fresh_is,
    nil_from_length old.linked pushed.alone,
    append-nil (marks_among old.current),
  ) refl

  -- nothing becomes a tombstone
  pub none_marked : (arrays : ArraysView K V) → AreEarlierMarks arrays (tombstones_of arrays)
  none_marked arrays = record {
    earlier = no_new-same (tombstones_of arrays) (tombstones_of arrays) refl;
    current = (on_side arrays Current).stood;
    all = λ none. refl;
  }

module _ {K V H : Type 0} (matches : K → Bool) (hash : ℕ) (old between new : TableView K V H)
    (prepared : IsPrepared 79 hash old between) where
  earlier : AreEarlierMarks old.arrays (tombstones_of between.arrays)
  earlier = record {
    earlier = prepared.kept.keeps.marks;
    current = (no_new-trans _ _ _ (on_side between.arrays Current)
        (in_buckets old.arrays.current between.arrays.current prepared.kept.order.stay)).stood;
    all = λ none. ap (λ (t : TableView K V H). tombstones_of t.arrays) (prepared.alone none);
  }

  stood : (pair : K × V) → IsThere matches (pairs_of between.arrays) pair → IsThere matches (pairs_of old.arrays) pair
  stood pair there = (
    Contains-permutation (pairs_of between.arrays) (pairs_of old.arrays) pair
        (IsPermutation-sym (pairs_of old.arrays) (pairs_of between.arrays) prepared.map.pairs) there.0,
    there.1,
  )

  -- the table's removal, that may shrink it
  pub marks_removed : (pairs : ℕ) (removed : Bool)
      → ShrinksAt matches (λ bucket at. slots_marked bucket at 0) (Some pairs) removed between new
      → MarksRemoved matches removed old.arrays new.arrays
  marks_removed pairs false same = rw same earlier
  marks_removed pairs true (side, index, at, stands, shrinks) =
      let bucket = slots_marked (bucket_on between.arrays side index) at 0 in
      let mid = arrays_with between.arrays side index bucket in
      let marks = tombstones_of-marked between.arrays side index at 0 stands.pair stands.within stands.slot in
      let adds : tombstones_of new.arrays ≡ tombstones_of mid → AddsMark matches old.arrays new.arrays = λ same. record {
        pair = stands.pair;
        there = stood stands.pair stands.there;
        earlier = tombstones_of between.arrays;
        kept = earlier;
        marks = rw same marks;
      } in
      elim (removed_ends pairs between.arrays side index bucket new.arrays shrinks) [
        | inl is ↦ inl (adds (ap (λ (a : ArraysView K V). tombstones_of a) is))
        | inr (inl gone) ↦ inr (none_left mid new.arrays gone)
        | inr (inr (capacity, pushed)) ↦ inl (adds (tombstones_of-pushed capacity mid new.arrays pushed))
      ]

-- a resize keeps the tombstones, or leaves no array
module _ {K V : Type 0} where
  marks_tried : {E : Type 0} (old mid new : ArraysView K V) (answer : Result Bool E) → tombstones_of mid ≡ tombstones_of old
      → TriesResize mid answer new → KeepsMarks old new
  marks_tried old mid new answer same tries = elim (tried mid new answer tries) [
    | inl is ↦ inl (ap (λ (a : ArraysView K V). tombstones_of a) is ∙ same)
    | inr (inl gone) ↦ inr (none_left mid new gone)
    | inr (inr (capacity, pushed)) ↦ inl (tombstones_of-pushed capacity mid new pushed ∙ same)
  ]

  pub marks_reserved : (additional answer : ℕ) (old new : ArraysView K V) → Reserves additional old answer new → KeepsMarks old new
  marks_reserved additional answer old new reserves = elim (cases_lt (old.maximum - old.minimum) additional) [
    | inl much ↦ inl (ap (λ (a : ArraysView K V). tombstones_of a) (reserves.too_much much).1)
    | inr fits ↦
        let done = (reserves.raised fits).1 in
        marks_tried old (with_minimum old (old.minimum + additional)) new done.0 refl done.1
  ]

  pub marks_released : (released answer : ℕ) (old new : ArraysView K V) → Releases released old answer new → KeepsMarks old new
  marks_released released answer old new releases = elim (cases_lt old.minimum released) [
    | inl much ↦ inl (ap (λ (a : ArraysView K V). tombstones_of a) (releases.too_much much).1)
    | inr fits ↦
        let done = (releases.lowered fits).1 in
        marks_tried old (with_minimum old (old.minimum - released)) new done.0 refl done.1
  ]
