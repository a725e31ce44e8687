-- Where the pairs of a bucket's own slots land in an array, as the private calls of a relocation state it. No public clause cites this
-- module.
use Rattle.std.specs.Prelude.{ℕ, ◌≡◌, ◌==◌, ◌<◌, ◌&&◌, ◌++◌, Bool, true, false, if◌then◌else◌, Option, Some, None, List, [], ◌∷◌, length}
use Rattle.std.specs.Prelude.{◌⊎◌, flat_map, map, slice_index_or, slice_set}
use Rattle.std.specs.List.{All, Contains, filter}
use Rattle.bucket_slots.specs.ArrayView.{bucket_at}
use Rattle.bucket_slots.specs.BucketView.{BucketView, Place, listed_pairs, pairs_in}
use Rattle.bucket_slots.specs.Evicting.{slots_unlisted}
use Rattle.bucket_slots.specs.Recency.{IsRecencyOrder, is_listed}
use Rattle.bucket_slots.specs.Slots.{is_free, is_live, live_pair, live_pairs, slot_at}
use Rattle.bucket_slots.specs.declared.bucket.TheConstants.{CACHE}
use Rattle.bucket_table.specs.declared.arrays.relocate.Landing.{Landing}
use Rattle.bucket_table.specs.Rehash.Carrying.{WentInOrder, chained_pairs}
use Rattle.bucket_table.specs.Rehash.Relocation.{KeepsPlaces, MovesInto, homed_len}

-- the pair is in a bucket's chain
abbrev pub StandsInChain : {K V : Type 0} → BucketView K V → K × V → Type 0
StandsInChain bucket pair = Contains (chained_pairs bucket) pair

-- where a pair has landed in an array: in an own slot of this bucket, or in the chain of some bucket
abbrev pub HasLanded : {K V : Type 0} → List (BucketView K V) → K × V → Option ℕ → Type 0
HasLanded buckets pair (Some j) = Contains (live_pairs (bucket_at buckets j).own) pair
HasLanded buckets pair None = (j : ℕ) × StandsInChain (bucket_at buckets j) pair

-- whether it is an own slot of bucket j
abbrev pub is_own_of : ℕ → Option ℕ → Bool
is_own_of j None = false
is_own_of j (Some i) = i == j

-- the listed pairs of a bucket that landed in own slots of bucket j, in their order
abbrev pub carried_to : {K V : Type 0} → BucketView K V → (ℕ → Option ℕ) → ℕ → List (K × V)
carried_to source landing j =
    live_pairs (map (slot_at source.own) (filter (λ slot. is_own_of j (landing slot)) source.listed))

-- the LRU order is carried from a bucket into an array: each of its listed pairs has landed somewhere, its pairs moved in slot order, no
-- other pair moves, and every bucket lists its own pairs, followed by those of the source that landed in own slots there, in the source's
-- order
pub record CarriesRecency {K V : Type 0} (source : BucketView K V) (current new_current : List (BucketView K V)) : Type 0 where
  pub landing : ℕ → Option ℕ
  pub landed : (slot : ℕ) (pair : K × V) → is_listed source.listed slot ≡ true → live_pair (slot_at source.own slot) ≡ Some pair
      → HasLanded new_current pair (landing slot)
  pub in_order : WentInOrder new_current (pairs_in source)
  pub stay : KeepsPlaces current new_current
  pub order : (j : ℕ) → listed_pairs (bucket_at new_current j) ≡ listed_pairs (bucket_at current j) ++ carried_to source landing j

-- what a table records: the bucket and the own slot there in which the pair of an own slot landed, or nothing
abbrev pub landing_of : List (Option Landing) → ℕ → Option Landing
landing_of landings slot = slice_index_or landings slot None

-- the table after a pair has moved from a place to one of bucket `home`: it records only moves from own slots to own slots
abbrev pub landings_with : List (Option Landing) → Place → ℕ → Place → List (Option Landing)
landings_with landings from home to =
    if (from.block == 0) && (to.block == 0) then slice_set landings from.pos (Some (record { home = home; slot = to.pos })) else landings

-- the own slot of a landing has a live pair and isn't listed
pub record IsListable {K V : Type 0} (buckets : List (BucketView K V)) (at : Landing) : Type 0 where
  pub within : at.home < length buckets
  pub live : is_live (slot_at (bucket_at buckets at.home).own at.slot) ≡ true
  pub unlisted : is_listed (bucket_at buckets at.home).listed at.slot ≡ false

-- a table of listable own slots, none of them twice
pub record AreListable {K V : Type 0} (landings : List (Option Landing)) (buckets : List (BucketView K V)) : Type 0 where
  pub each : (slot : ℕ) (at : Landing) → landing_of landings slot ≡ Some at → IsListable buckets at
  pub once : (one two : ℕ) (at : Landing) → landing_of landings one ≡ Some at → landing_of landings two ≡ Some at → one ≡ two

-- the pairs of a bucket's own slots have landed as a table records, and those without a record in a chain, as far as the table reaches; no
-- other pair has moved, and no list has changed
pub record HaveLanded {K V : Type 0} (hash : K → ℕ) (source : BucketView K V) (current new_current : List (BucketView K V))
    (landings : List (Option Landing)) : Type 0 where
  pub table : AreListable landings new_current
  pub same_pair : (slot : ℕ) (at : Landing) → landing_of landings slot ≡ Some at
      → live_pair (slot_at (bucket_at new_current at.home).own at.slot) ≡ live_pair (slot_at source.own slot)
  pub homed : (slot : ℕ) (at : Landing) → landing_of landings slot ≡ Some at
      → homed_len hash (length current) at.home (pairs_in source) ≡ 0 → ⊥
  pub in_chain : (slot : ℕ) (pair : K × V) → slot < length landings → live_pair (slot_at source.own slot) ≡ Some pair
      → landing_of landings slot ≡ None → (j : ℕ) × StandsInChain (bucket_at new_current j) pair
  pub stay : KeepsPlaces current new_current
  pub same_lists : (j : ℕ) → listed_pairs (bucket_at new_current j) ≡ listed_pairs (bucket_at current j)

-- a pair has landed in an own slot, or in the chain of a bucket that has no free one
abbrev pub HasLandedFull : {K V : Type 0} → List (BucketView K V) → K × V → Type 0
HasLandedFull buckets pair =
    ((j : ℕ) × Contains (live_pairs (bucket_at buckets j).own) pair)
    ⊎ ((j : ℕ) × StandsInChain (bucket_at buckets j) pair
    × ((slot : ℕ) → slot < 32 → is_free (slot_at (bucket_at buckets j).own slot) ≡ false))

-- the first pairs of a bucket have moved, in slot order, and the others are left
pub record MoveInOrder {K V : Type 0} (source left : BucketView K V) (buckets : List (BucketView K V)) : Type 0 where
  pub gone : List (K × V)
  pub rest : pairs_in source ≡ gone ++ pairs_in left
  pub landed : All (HasLandedFull buckets) gone
  pub order : WentInOrder buckets gone

-- the own slots of bucket j in which the pairs of an order's slots landed, in that order
abbrev pub slot_there : ℕ → Option Landing → List ℕ
slot_there j None = []
slot_there j (Some at) = if at.home == j then at.slot ∷ [] else []

abbrev pub arrivals : List (Option Landing) → ℕ → List ℕ → List ℕ
arrivals landings j order = flat_map (λ slot. slot_there j (landing_of landings slot)) order

-- each bucket lists the slots in which an order's pairs landed, after its own ones, and nothing else has changed
pub record ListsArrivals {K V : Type 0} (landings : List (Option Landing)) (order : List ℕ)
    (current new_current : List (BucketView K V)) : Type 0 where
  pub len : length new_current ≡ length current
  pub each : (j : ℕ) → bucket_at new_current j
      ≡ record (bucket_at current j) { listed = (bucket_at current j).listed ++ arrivals landings j order }

-- an order of own slots that was taken from a bucket: if there are any, the bucket is a cache's and its list keeps slots
pub record IsTakenOrder (kind : ℕ) (keeps : Bool) (order : List ℕ) : Type 0 where
  pub once : IsRecencyOrder order
  pub cache : 0 < length order → kind ≡ CACHE
  pub keeps_slots : 0 < length order → keeps ≡ true

-- the list of a bucket was emptied, and its first pairs have moved into an array, but none if slots were listed
pub record HasBegun {K V : Type 0} (hash : K → ℕ) (source : BucketView K V) (current : List (BucketView K V))
    (left : BucketView K V) (new_current : List (BucketView K V)) : Type 0 where
  pub moved : MovesInto hash source current left new_current
  pub in_order : MoveInOrder source left new_current
  pub stay : KeepsPlaces current new_current
  pub same_lists : (j : ℕ) → listed_pairs (bucket_at new_current j) ≡ listed_pairs (bucket_at current j)
  pub only_emptied : 0 < length source.listed → (left ≡ slots_unlisted source) × (new_current ≡ current)
