-- The tombstones of a current array stay if old pairs move, whatever else a call does.
use Rattle.std.proofs.Common.{ℕ, ◌≡◌, false, List, [], ◌∷◌, Some, inl, inr, refl, suc, zero, ap, ◌∙◌, arith}
use Rattle.std.specs.List.{Contains}
use Rattle.std.proofs.lemmas.List.Elements.{Contains-append_cases}
use Rattle.bucket_slots.specs.ArrayView.{bucket_at}
use Rattle.bucket_slots.specs.BucketView.{BucketView, Place, empty_bucket, marks_in, row_at, slot_in}
use Rattle.bucket_slots.specs.Marking.{HasNoNewMark}
use Rattle.bucket_slots.specs.Slots.{Slot, free, is_free, live, marked, marked_entry, slot_at}
use Rattle.bucket_slots.proofs.CallerLemmas.{no_new-at, no_new-front, no_new-rest}
use Rattle.bucket_table.specs.Rehash.Relocation.{KeepsPlaces, marks_among}
use Rattle.bucket_table.specs.Views.ArraysView.{ArraysView, tombstones_of}
use Rattle.bucket_table.specs.Views.Sides.{buckets_on}
use Rattle.bucket_table.specs.declared.arrays.side.Side.{Side}
use Rattle.bucket_table.specs.declared.arrays.side.Side.TheVariants.{Current, Old}
use Rattle.bucket_table.proofs.CallerLemmas.{from_row, in_row}

module _ {K V : Type 0} where
  mark_not_free : (slot : Slot K V) (mark : (K × V) × ℕ) → marked_entry slot ≡ Some mark → is_free slot ≡ false
  mark_not_free free mark here = cc
  mark_not_free (live pair byte) mark here = refl
  mark_not_free (marked pair epoch) mark here = refl

  -- a bucket whose occupied slots stay keeps its tombstones
  in_bucket : (b c : BucketView K V) → ((at : Place) → is_free (slot_in b at) ≡ false → slot_in c at ≡ slot_in b at)
      → HasNoNewMark (marks_in c) (marks_in b)
  in_bucket b c stay = record {
    stood = λ mark has.
        let (i, pos, here) = in_row marked_entry (b.own ∷ b.chain) mark has in
        still i pos mark here;
  }
    where
      still : (i pos : ℕ) (mark : (K × V) × ℕ) → marked_entry (slot_at (row_at (b.own ∷ b.chain) i) pos) ≡ Some mark
          → Contains (marks_in c) mark
      still zero pos mark here =
          let same = stay (record { block = 0; pos = pos }) (mark_not_free _ mark here) in
          from_row marked_entry refl (c.own ∷ c.chain) 0 pos mark (ap marked_entry same ∙ here)
      still (suc i) pos mark here =
          let same = stay (record { block = suc i; pos = pos }) (mark_not_free _ mark here) in
          from_row marked_entry refl (c.own ∷ c.chain) (suc i) pos mark (ap marked_entry same ∙ here)

  one_of : (buckets : List (BucketView K V)) (mark : (K × V) × ℕ) → Contains (marks_among buckets) mark
      → (i : ℕ) × Contains (marks_in (bucket_at buckets i)) mark
  one_of [] mark has = absurd (omega (arith, has.1))
  one_of (b ∷ buckets) mark has = elim (Contains-append_cases (marks_in b) (marks_among buckets) mark has) [
    | inl here ↦ (0, here)
    | inr there ↦ let (i, is) = one_of buckets mark there in (suc i, is)
  ]

  pub in_buckets : (old new : List (BucketView K V)) → KeepsPlaces old new → HasNoNewMark (marks_among new) (marks_among old)
  in_buckets old new stay = record {
    stood = λ mark has.
        let (i, here) = one_of old mark has in
        (no_new-at marks_in new i empty_bucket refl).stood mark ((in_bucket (bucket_at old i) (bucket_at new i) (stay i)).stood mark here);
  }

  -- the tombstones of one array are tombstones
  pub on_side : (arrays : ArraysView K V) (side : Side) → HasNoNewMark (tombstones_of arrays) (marks_among (buckets_on arrays side))
  on_side arrays Current = no_new-front (marks_among arrays.current) (marks_among arrays.linked)
  on_side arrays Old = no_new-rest (marks_among arrays.current) (marks_among arrays.linked)
