-- Sums over samples of buckets, and that samples are within an array.
use Rattle.bucket_table.proofs.Words.{BucketView, List, ℕ, ap, arith, bucket_at, counted, drop, empty_bucket, get_or, get_or-map, length}
use Rattle.bucket_table.proofs.Words.{length-map, live_counts, pairs_in, ◌+◌, ◌<◌, ◌∙◌, ◌≡◌}
use Rattle.std.proofs.lemmas.List.{get_or-drop, length-drop}
use Rattle.std.proofs.lemmas.List.Sums.{sum_by_more}

-- the number of live slots of a bucket
abbrev pub live_len : {K V : Type 0} → BucketView K V → ℕ
live_len bucket = length (pairs_in bucket)

-- one more bucket of a sample
pub counted_more : (counts : List ℕ) (start offset : ℕ) → start + offset < length counts
    → counted counts start (offset + 1) ≡ counted counts start offset + get_or counts (start + offset) 0
counted_more counts start offset within =
    let long = length-drop start counts in
    let more = sum_by_more (λ (x : ℕ). x) (drop start counts) offset 0 (omega arith) in
    more ∙ ap (λ (n : ℕ). counted counts start offset + n) (get_or-drop start counts offset 0)

pub length-live_counts : {K V : Type 0} (buckets : List (BucketView K V)) → length (live_counts buckets) ≡ length buckets
length-live_counts buckets = length-map buckets live_len

-- the count of one bucket
pub get_or-live_counts : {K V : Type 0} (buckets : List (BucketView K V)) (i d : ℕ) → i < length buckets
    → get_or (live_counts buckets) i d ≡ live_len (bucket_at buckets i)
get_or-live_counts buckets i d within = get_or-map live_len buckets i empty_bucket d within
