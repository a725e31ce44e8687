-- Pairs that move one by one to their homes in an array, as the private calls of a relocation state it. No public clause cites this module.
use Rattle.std.specs.Prelude.{ℕ, ◌≡◌, ◌<◌, ◌≤◌, ◌%◌, ◌↔◌, false, Option, Some, List, length, slice_set}
use Rattle.std.specs.List.{All}
use Rattle.bucket_slots.specs.ArrayView.{bucket_at}
use Rattle.bucket_slots.specs.BucketLaws.{IsBucketOf}
use Rattle.bucket_slots.specs.BucketView.{BucketView, Place, entries_in, pairs_in, slot_in}
use Rattle.bucket_slots.specs.Homes.{IsInRange, Meets}
use Rattle.bucket_slots.specs.Moving.{slots_vacated}
use Rattle.bucket_slots.specs.Placing.{place_for_next, slots_with}
use Rattle.bucket_slots.specs.Sizing.{IsLength}
use Rattle.bucket_slots.specs.Slots.{live_pair}
use Rattle.bucket_table.specs.declared.arrays.relocate.Landing.{Landing}
use Rattle.bucket_table.specs.Layout.Landings.{landings_with}
use Rattle.bucket_table.specs.Rehash.Relocation.{AreHome, AreTwoArrays, HasRoomFor, IsVacant, IsWay, home_of}

-- the entry's byte is the low byte of its key's hash
abbrev pub HasOwnByte : {K V : Type 0} → (K → ℕ) → (K × V) × ℕ → Type 0
HasOwnByte hash entry = entry.1 ≡ hash entry.0.0 % 256

-- the pairs of a bucket can move into an array: each has its own byte and its home in a range of buckets, and there is room for all; the
-- array's pairs are at home, and none of its buckets is killed
pub record CanMoveInto {K V : Type 0} (hash : K → ℕ) (start end : ℕ)
    (bucket : BucketView K V) (buckets : List (BucketView K V)) : Type 0 where
  pub within : end ≤ length buckets
  pub in_range : All (λ pair. IsInRange start end (home_of (length buckets) (hash pair.0))) (pairs_in bucket)
  pub own_bytes : All (HasOwnByte hash) (entries_in bucket)
  pub homes : AreHome hash buckets
  pub room : HasRoomFor hash buckets (pairs_in bucket)
  pub alive : (j : ℕ) → j < length buckets → (bucket_at buckets j).killed ≡ false

-- old bucket `index`, and the current buckets from start up to but not including end, which are its targets
pub record AreTargets {K V : Type 0} (hash : K → ℕ) (current linked : List (BucketView K V)) (index start end : ℕ) : Type 0 where
  pub law : AreTwoArrays hash current linked
  pub within : index < length linked
  pub current_long : IsLength (length current)
  pub linked_long : IsLength (length linked)
  pub range : (j : ℕ) → IsInRange start end j ↔ Meets (length linked) index (length current) j
  pub ends : end ≤ length current

-- a bucket of an array of `from` buckets whose pairs can move into a range of buckets of another array, once these have room for all; if
-- that array isn't shorter, they are vacant
pub record IsBound {K V : Type 0} (hash : K → ℕ) (from start end : ℕ) (bucket : BucketView K V) (buckets : List (BucketView K V))
    : Type 0 where
  pub some : start < end
  pub within : end ≤ length buckets
  pub in_range : All (λ pair. IsInRange start end (home_of (length buckets) (hash pair.0))) (pairs_in bucket)
  pub own_bytes : All (HasOwnByte hash) (entries_in bucket)
  pub homes : AreHome hash buckets
  pub alive : (j : ℕ) → j < length buckets → (bucket_at buckets j).killed ≡ false
  pub vacant : from ≤ length buckets → (j : ℕ) → IsInRange start end j → IsVacant (bucket_at buckets j)

-- the pair at a place moves to its home in an array, a bucket of the same kind, and a table records where it landed
pub record MovesHome {K V : Type 0} (kind : ℕ) (hash : K → ℕ) (at : Place)
    (bucket : BucketView K V) (buckets : List (BucketView K V)) (landings : List (Option Landing))
    (left : BucketView K V) (after : List (BucketView K V)) (said : List (Option Landing)) : Type 0 where
  pub pair : K × V
  pub here : live_pair (slot_in bucket at) ≡ Some pair
  pub home : ℕ
  pub number : ℕ
  pub way : IsWay hash (length buckets) pair home number
  pub bucket_laws : IsBucketOf kind bucket
  pub home_laws : IsBucketOf kind (bucket_at buckets home)
  pub vacated : left ≡ slots_vacated bucket at
  pub placed : after ≡ slice_set buckets home (slots_with (bucket_at buckets home) pair (number % 256))
  pub landed : said ≡ landings_with landings at home (place_for_next (bucket_at buckets home))
