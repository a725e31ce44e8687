-- Two arrays during an incremental rehash: where their pairs are, and what happens to them when a bucket's pairs move.
use Rattle.std.specs.Prelude.{ℕ, ◌≡◌, ◌==◌, ◌<◌, ◌≤◌, ◌%◌, ◌/◌, ◌++◌, true, false, List, [], flat_map, length}
use Rattle.std.specs.List.{All, count_by}
use Rattle.std.specs.List.Sorted.{IsPermutation}
use Rattle.bucket_slots.specs.ArrayView.{bucket_at}
use Rattle.bucket_slots.specs.BucketView.{BucketView, Place, all_slots, entries_in, marks_in, pairs_in, slot_in}
use Rattle.bucket_slots.specs.Homes.{IsHome, IsInRange, Meets, interval_width}
use Rattle.bucket_slots.specs.Marking.{HasNoNewMark}
use Rattle.bucket_slots.specs.Reserving.{free_len_in}
use Rattle.bucket_slots.specs.Slots.{all_free, is_free}

-- the live pairs of some buckets with their bytes, bucket after bucket
abbrev pub entries_among : {K V : Type 0} → List (BucketView K V) → List ((K × V) × ℕ)
entries_among buckets = flat_map entries_in buckets

-- the pairs of some buckets' tombstones with their epochs, bucket after bucket
abbrev pub marks_among : {K V : Type 0} → List (BucketView K V) → List ((K × V) × ℕ)
marks_among buckets = flat_map marks_in buckets

-- the index of a hash's home: the number of interval widths that fit below the hash
abbrev pub home_of : ℕ → ℕ → ℕ
home_of len hash = hash / interval_width len

-- the entry is in its home, with the low byte of its key's hash
pub record IsEntryHome {K V : Type 0} (hash : K → ℕ) (len index : ℕ) (entry : (K × V) × ℕ) : Type 0 where
  pub home : IsHome len (hash entry.0.0) index
  pub own_byte : entry.1 ≡ hash entry.0.0 % 256

-- the destination of a pair in an array: its home's index, and a number with the low byte of its hash
pub record IsWay {K V : Type 0} (hash : K → ℕ) (len : ℕ) (pair : K × V) (index number : ℕ) : Type 0 where
  pub home : IsHome len (hash pair.0) index
  pub own_byte : number % 256 ≡ hash pair.0 % 256

-- each live pair of an array is in its home, with its byte
abbrev pub AreHome : {K V : Type 0} → (K → ℕ) → List (BucketView K V) → Type 0
AreHome hash buckets = (i : ℕ) → i < length buckets → All (IsEntryHome hash (length buckets) i) (entries_in (bucket_at buckets i))

-- the number of pairs that have their home in bucket `index` of an array of this length
abbrev pub homed_len : {K V : Type 0} → (K → ℕ) → ℕ → ℕ → List (K × V) → ℕ
homed_len hash len index pairs = count_by (λ pair. home_of len (hash pair.0) == index) pairs

-- each bucket has a free slot for each of the pairs whose home it is
abbrev pub HasRoomFor : {K V : Type 0} → (K → ℕ) → List (BucketView K V) → List (K × V) → Type 0
HasRoomFor hash buckets pairs =
    (i : ℕ) → i < length buckets → homed_len hash (length buckets) i pairs ≤ free_len_in (bucket_at buckets i)

-- pairs move from a bucket into an array: none is lost and none is new, only homes of the bucket's pairs change, the bucket's tombstones
-- stay, and no tombstone is new
pub record MovesInto {K V : Type 0} (hash : K → ℕ) (bucket : BucketView K V) (buckets : List (BucketView K V))
    (left : BucketView K V) (after : List (BucketView K V)) : Type 0 where
  pub entries : IsPermutation (entries_in bucket ++ entries_among buckets) (entries_in left ++ entries_among after)
  pub len : length after ≡ length buckets
  pub fewer : (i : ℕ) → homed_len hash (length buckets) i (pairs_in left) ≤ homed_len hash (length buckets) i (pairs_in bucket)
  pub others : (i : ℕ) → homed_len hash (length buckets) i (pairs_in bucket) ≡ 0 → bucket_at after i ≡ bucket_at buckets i
  pub alive : (i : ℕ) → (bucket_at after i).killed ≡ (bucket_at buckets i).killed
  pub as_alive : left.killed ≡ bucket.killed
  pub marks : HasNoNewMark (marks_in bucket ++ marks_among buckets) (marks_in left ++ marks_among after)
  pub same_marks : marks_in left ≡ marks_in bucket

-- every slot of a bucket is free, the 32 own ones among them
pub record IsVacant {K V : Type 0} (bucket : BucketView K V) : Type 0 where
  pub free : all_free (all_slots bucket) ≡ true
  pub own_long : length bucket.own ≡ 32

-- the law of two arrays during an incremental rehash
pub record AreTwoArrays {K V : Type 0} (hash : K → ℕ) (current linked : List (BucketView K V)) : Type 0 where
  pub current_home : AreHome hash current
  pub linked_home : AreHome hash linked
  pub alive : (j : ℕ) → j < length current → (bucket_at current j).killed ≡ false
  pub killed_empty : (i : ℕ) → i < length linked → (bucket_at linked i).killed ≡ true → pairs_in (bucket_at linked i) ≡ []
  pub empty_targets : length linked ≤ length current
      → (i j : ℕ) → i < length linked → j < length current → (bucket_at linked i).killed ≡ false
      → Meets (length linked) i (length current) j → IsVacant (bucket_at current j)

-- old bucket `index` was moved: it is killed, without a pair, and keeps its tombstones; its pairs are among the current ones, no tombstone
-- is new, and nothing else has changed; if it was killed already, it stays
pub record IsRelocated {K V : Type 0} (index : ℕ) (current linked new_current new_linked : List (BucketView K V)) : Type 0 where
  pub killed : (bucket_at new_linked index).killed ≡ true
  pub empty : pairs_in (bucket_at new_linked index) ≡ []
  pub entries : IsPermutation (entries_among current ++ entries_among linked) (entries_among new_current ++ entries_among new_linked)
  pub marks : HasNoNewMark (marks_among current ++ marks_among linked) (marks_among new_current ++ marks_among new_linked)
  pub same_marks : marks_in (bucket_at new_linked index) ≡ marks_in (bucket_at linked index)
  pub current_len : length new_current ≡ length current
  pub linked_len : length new_linked ≡ length linked
  pub other_linked : (i : ℕ) → (i ≡ index → ⊥) → bucket_at new_linked i ≡ bucket_at linked i
  pub other_current : (j : ℕ) → (Meets (length linked) index (length current) j → ⊥) → bucket_at new_current j ≡ bucket_at current j
  pub again : (bucket_at linked index).killed ≡ true → (new_current ≡ current) × (new_linked ≡ linked)

-- every occupied slot of every bucket is as it was, so no pair leaves its place
abbrev pub KeepsPlaces : {K V : Type 0} → List (BucketView K V) → List (BucketView K V) → Type 0
KeepsPlaces buckets after = (i : ℕ) (at : Place) → is_free (slot_in (bucket_at buckets i) at) ≡ false
    → slot_in (bucket_at after i) at ≡ slot_in (bucket_at buckets i) at

-- the live pairs of every bucket are the same, and so are its tombstones, its own slots, its LRU list and whether it is killed, and none
-- leaves its place; only free slots may be added
pub record KeepsEntries {K V : Type 0} (buckets after : List (BucketView K V)) : Type 0 where
  pub len : length after ≡ length buckets
  pub entries : (i : ℕ) → entries_in (bucket_at after i) ≡ entries_in (bucket_at buckets i)
  pub marks : (i : ℕ) → marks_in (bucket_at after i) ≡ marks_in (bucket_at buckets i)
  pub alive : (i : ℕ) → (bucket_at after i).killed ≡ (bucket_at buckets i).killed
  pub vacant : (i : ℕ) → IsVacant (bucket_at buckets i) → IsVacant (bucket_at after i)
  pub stay : KeepsPlaces buckets after
  pub own : (i : ℕ) → (bucket_at after i).own ≡ (bucket_at buckets i).own
  pub listed : (i : ℕ) → (bucket_at after i).listed ≡ (bucket_at buckets i).listed

-- every bucket outside a range of indices is the same
abbrev pub KeepsOthers : {K V : Type 0} → ℕ → ℕ → List (BucketView K V) → List (BucketView K V) → Type 0
KeepsOthers start end buckets after = (j : ℕ) → (IsInRange start end j → ⊥) → bucket_at after j ≡ bucket_at buckets j
