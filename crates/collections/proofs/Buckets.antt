-- The number of pairs in the buckets, and which of all pairs are those of one bucket.
use Rattle.std.proofs.Common.{ℕ, zero, suc, List, [], ◌∷◌, ◌++◌, ◌≡◌, ◌∙◌, ap, drop, length, map, refl, slice_set, sym, take}
use Rattle.std.specs.List.{sum}
use Rattle.std.specs.Prelude.{slice_index_or}
use Rattle.std.proofs.Math.Seq.{drop-append-add, map-set_same, take-append_seam}
use Rattle.std.proofs.lemmas.List.{length-map, map-append}
use Rattle.std.proofs.lemmas.List.Sums.{sum_by-cons}
use Rattle.bucket_slots.specs.ArrayView.{bucket_at}
use Rattle.bucket_slots.specs.BucketView.{BucketView, empty_bucket, pairs_in}
use Rattle.bucket_table.specs.Map.LookingUp.{pairs_in_all}
use Rattle.bucket_table.specs.Views.ArraysView.{ArraysView, TableView}
use Rattle.bucket_table.specs.Views.Sides.{arrays_with, bucket_on}
use Rattle.bucket_table.specs.Walking.Row.{row_of}
use Rattle.bucket_table.specs.declared.arrays.side.Side.{Side}
use Rattle.bucket_table.specs.declared.arrays.side.Side.TheVariants.{Current, Old}
use Rattle.bucket_table.proofs.CallerLemmas.{pairs_in_row}
use Rattle.collections.specs.Maps.{map_of, pairs_in_bucket}

module _ {K V : Type 0} where
  abbrev len_of : BucketView K V → ℕ
  len_of bucket = length (pairs_in bucket)

  abbrev lens_of : List (BucketView K V) → List ℕ
  lens_of buckets = map (λ bucket. length (pairs_in bucket)) buckets

  -- another bucket with as many pairs
  pub lens_same : (a : ArraysView K V) (side : Side) (i : ℕ) (new : BucketView K V) → len_of new ≡ len_of (bucket_on a side i)
      → lens_of (row_of (arrays_with a side i new)) ≡ lens_of (row_of a)
  lens_same a Current i new same =
      map-append len_of (slice_set a.current i new) a.linked
      ∙ ap (λ lens. lens ++ lens_of a.linked) (map-set_same len_of a.current i new empty_bucket same)
      ∙ sym (map-append len_of a.current a.linked)
  lens_same a Old i new same =
      map-append len_of a.current (slice_set a.linked i new)
      ∙ ap (λ lens. lens_of a.current ++ lens) (map-set_same len_of a.linked i new empty_bucket same)
      ∙ sym (map-append len_of a.current a.linked)

  pub buckets_len : {H : Type 0} (t : TableView K V H) → length (map_of t).bucket_lens ≡ length (row_of t.arrays)
  buckets_len t = length-map (row_of t.arrays) len_of

  -- the pairs of the buckets before a bucket come before its own
  pairs_at : (buckets : List (BucketView K V)) (index : ℕ)
      → take (slice_index_or (lens_of buckets) index 0) (drop (sum (take index (lens_of buckets))) (pairs_in_all buckets))
      ≡ pairs_in (bucket_at buckets index)
  pairs_at [] index = refl
  pairs_at (bucket ∷ buckets) zero = take-append_seam (pairs_in bucket) (pairs_in_all buckets)
  pairs_at (bucket ∷ buckets) (suc index) =
      let before = take index (lens_of buckets) in
      ap (λ count. take (slice_index_or (lens_of buckets) index 0) (drop count (pairs_in bucket ++ pairs_in_all buckets)))
      (sum_by-cons (λ len. len) (len_of bucket) before)
      ∙ ap (λ pairs. take (slice_index_or (lens_of buckets) index 0) pairs)
      (drop-append-add (pairs_in bucket) (pairs_in_all buckets) (sum before))
      ∙ pairs_at buckets index

  pub bucket_pairs : {H : Type 0} (t : TableView K V H) (index : ℕ)
      → pairs_in_bucket (map_of t) index ≡ pairs_in (bucket_at (row_of t.arrays) index)
  bucket_pairs t index =
      ap (λ pairs. take (slice_index_or (lens_of (row_of t.arrays)) index 0) (drop (sum (take index (lens_of (row_of t.arrays)))) pairs))
      (sym (pairs_in_row t.arrays))
      ∙ pairs_at (row_of t.arrays) index
