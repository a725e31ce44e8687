-- What a look-up in the arrays returns.
use Rattle.std.specs.Prelude.{ℕ, ◌≡◌, ◌+◌, ◌%◌, ◌++◌, Bool, true, false, Option, List, [], ◌∷◌, length}
use Rattle.std.specs.Borrow.{Bor}
use Rattle.std.specs.List.{All, Contains}
use Rattle.std.specs.Option.{option_copied, option_or, unwrap_or}
use Rattle.bucket_slots.specs.ArrayView.{bucket_at}
use Rattle.bucket_slots.specs.BucketView.{BucketView, pairs_in}
use Rattle.bucket_slots.specs.Searching.{matching_len, pair_matched}
use Rattle.bucket_table.specs.Rehash.Relocation.{home_of}

-- the live pairs of buckets, bucket by bucket
abbrev pub pairs_in_all : {K V : Type 0} → List (BucketView K V) → List (K × V)
pairs_in_all [] = []
pairs_in_all (bucket ∷ buckets) = pairs_in bucket ++ pairs_in_all buckets

-- no pair has a matching key
abbrev pub IsAbsent : {K V : Type 0} → (K → Bool) → List (K × V) → Type 0
IsAbsent matches pairs = All (λ pair. matches pair.0 ≡ false) pairs

-- the pair is one of the pairs, and its key matches
abbrev pub IsThere : {K V : Type 0} → (K → Bool) → List (K × V) → K × V → Type 0
IsThere matches pairs pair = Contains pairs pair × (matches pair.0 ≡ true)

-- the bucket that is a hash's home, or an empty one if there are no buckets
abbrev pub home_bucket : {K V : Type 0} → ℕ → List (BucketView K V) → BucketView K V
home_bucket hash buckets = bucket_at buckets (home_of (length buckets) hash)

-- the buckets of an array that is lent, or none if none is
abbrev pub lent_buckets : {K V : Type 0} → Option (Bor (List (BucketView K V))) → List (BucketView K V)
lent_buckets lent = unwrap_or (option_copied lent) []

-- the pair that a look-up of a hash finds: the first matching one of its old home, else of its current one
abbrev pub pair_looked_up : {K V : Type 0} → (K → Bool) → ℕ → List (BucketView K V) → List (BucketView K V) → Option (K × V)
pair_looked_up matches hash old current =
    option_or (pair_matched matches (hash % 256) (home_bucket hash old)) (pair_matched matches (hash % 256) (home_bucket hash current))

-- the number of live slots of both homes that have the hash's low byte
abbrev pub looked_up_len : {K V : Type 0} → ℕ → List (BucketView K V) → List (BucketView K V) → ℕ
looked_up_len hash old current = matching_len (hash % 256) (home_bucket hash old) + matching_len (hash % 256) (home_bucket hash current)
