-- Killed buckets, and buckets without pairs.
use Rattle.bucket_table.proofs.Words.{All, BucketView, List, ℕ, [], ap, arith, bucket_at, empty_bucket, entries_among, entries_in, false}
use Rattle.bucket_table.proofs.Words.{get_or, get_or-map, killed_flags, length, length-map, live_counts, map, map-entries_in}
use Rattle.bucket_table.proofs.Words.{nil_from_length, pairs_in, refl, suc, true, ◌<◌, ◌∙◌, ◌∷◌, ◌≡◌}
use Rattle.bucket_table.specs.Rehash.Covered.{AreAllKilled}

module _ {K V : Type 0} where
  none_mapped : (es : List ((K × V) × ℕ)) → map (λ (e : (K × V) × ℕ). e.0) es ≡ [] → es ≡ []
  none_mapped [] e = refl
  none_mapped (x ∷ es) e = let f = ap (λ (ps : List (K × V)). length ps) e in absurd (omega arith)

  -- a bucket with no live pair has no entry
  pub no_entries : (b : BucketView K V) → pairs_in b ≡ [] → entries_in b ≡ []
  no_entries b e = none_mapped (entries_in b) (map-entries_in b ∙ e)

  pub length-killed_flags : (buckets : List (BucketView K V)) → length (killed_flags buckets) ≡ length buckets
  length-killed_flags buckets = length-map buckets (λ (bucket : BucketView K V). bucket.killed)

  -- which bucket is killed
  pub get_or-killed_flags : (buckets : List (BucketView K V)) (i : ℕ) → i < length buckets
      → get_or (killed_flags buckets) i false ≡ (bucket_at buckets i).killed
  get_or-killed_flags buckets i within = get_or-map (λ (bucket : BucketView K V). bucket.killed) buckets i empty_bucket false within

  -- an old array whose buckets are all killed has no pair
  pub no_pairs : (buckets : List (BucketView K V)) → AreAllKilled (killed_flags buckets)
      → All (λ (bucket : BucketView K V). bucket.killed ≡ true → pairs_in bucket ≡ []) buckets → entries_among buckets ≡ []
  no_pairs [] killed emptied = refl
  no_pairs (bucket ∷ buckets) killed emptied =
      let rest = no_pairs buckets (λ i below. killed (suc i) (omega arith)) (λ i d below. emptied (suc i) d (omega arith)) in
      rw (no_entries bucket (emptied 0 bucket (omega arith) (killed 0 (omega arith))), rest) refl

  -- nor has one of which no slot is live
  pub no_live : (buckets : List (BucketView K V)) → All (λ count. count ≡ 0) (live_counts buckets) → entries_among buckets ≡ []
  no_live [] all = refl
  no_live (bucket ∷ buckets) all =
      let here : entries_in bucket ≡ [] = no_entries bucket (nil_from_length (pairs_in bucket) (all 0 0 (omega arith))) in
      rw (here, no_live buckets (λ i d below. all (suc i) d (omega arith))) refl
