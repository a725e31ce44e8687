-- What a put does to a cache: a pair is inserted if its key is absent, and if its home has no free own slot another one is evicted.
use Rattle.std.specs.Prelude.{ℕ, ◌≡◌, ◌⊎◌, Bool, Option, Some, None, Result, Ok, Err, List}
use Rattle.std.specs.Prelude.{◌∷◌, if◌then◌else◌, is_some, length, slice_set, unwrap_or}
use Rattle.std.specs.List.{Contains, position}
use Rattle.std.specs.List.Sorted.{IsPermutation}
use Rattle.bucket_slots.specs.BucketView.{BucketView, Place}
use Rattle.bucket_slots.specs.Recency.{order_after_touch}
use Rattle.bucket_slots.specs.Evicting.{slot_to_evict, slots_evicted}
use Rattle.bucket_slots.specs.Homes.{IsHome}
use Rattle.bucket_slots.specs.Searching.{place_matched}
use Rattle.bucket_slots.specs.Slots.{free, is_free, live, live_pair, slot_at}
use Rattle.bucket_table.specs.Views.ArraysView.{TableView}
use Rattle.bucket_table.specs.Map.ByKey.{ReturnsPair}
use Rattle.bucket_table.specs.Map.LookingUp.{IsAbsent}
use Rattle.bucket_table.specs.Map.Preparing.{IsReady}
use Rattle.bucket_table.specs.Map.MapState.{MapState, AddsPair, Becomes, KeepsPairs}
use Rattle.bucket_table.specs.Views.Sides.{bucket_on, with_bucket}
use Rattle.bucket_table.specs.declared.arrays.side.Side.TheVariants.{Current}
use Rattle.bucket_slots.specs.declared.not_inserted.NotInserted.{NotInserted}
use Rattle.bucket_slots.specs.declared.not_inserted.NotInserted.TheVariants.{Present, Memory}
use Rattle.bucket_table.specs.declared.arrays.side.Side.{Side}

-- one pair is removed and another inserted, and nothing else changes: the other pairs stay
pub record ReplacesPair {K V H : Type 0} (old : MapState K V H) (gone pair : K × V) (new : MapState K V H) : Type 0 where
  pub rest : List (K × V)
  pub before : IsPermutation old.pairs (gone ∷ rest)
  pub after : Becomes old (pair ∷ rest) new

-- a pair is inserted if its key is absent, and the pair that is evicted for it is returned; a pair that isn't inserted is returned, and
-- then nothing changes
abbrev pub Puts : {K V H : Type 0} → (K → K → Bool) → K → V → MapState K V H → Result (Option (K × V)) (NotInserted K V) → MapState K V H
    → Type 0
Puts eq key value old (Ok None) new = IsAbsent (λ own. eq own key) old.pairs × AddsPair old (key, value) new
Puts eq key value old (Ok (Some gone)) new = IsAbsent (λ own. eq own key) old.pairs × ReplacesPair old gone (key, value) new
Puts eq key value old (Err why) new = ReturnsPair eq key value old.pairs why × KeepsPairs old new

module _ {K V : Type 0} where
  -- the pair that is evicted for a new one: none if an own slot is free, else the one touched longest ago, or that of slot 0 if none is
  -- listed
  abbrev pub Goes : BucketView K V → Option (K × V) → Type 0
  Goes bucket None = Contains bucket.own free
  Goes bucket (Some gone) = (Contains bucket.own free → ⊥) × (live_pair (slot_at bucket.own (slot_to_evict bucket)) ≡ Some gone)

  -- the bucket without the evicted pair
  abbrev pub slots_left : BucketView K V → Option (K × V) → BucketView K V
  slots_left bucket gone = if is_some gone then slots_evicted bucket else bucket

  -- the first free own slot
  abbrev pub free_own : BucketView K V → ℕ
  free_own bucket = unwrap_or (position is_free bucket.own) 0

  -- the bucket with a pair in that slot, which becomes the newest of the list if that keeps slots
  abbrev pub slots_put : Bool → BucketView K V → K × V → ℕ → BucketView K V
  slots_put keeps bucket pair byte = record bucket {
    own = slice_set bucket.own (free_own bucket) (live pair byte);
    listed = if keeps then order_after_touch bucket.listed (free_own bucket) else bucket.listed;
  }

  -- a put into a bucket: the pair is inserted if no live slot has an equal key, after an eviction for it; nothing is allocated
  abbrev pub PutsIn : (K → K → Bool) → Bool → K → V → ℕ → BucketView K V → Result (Option (K × V)) (NotInserted K V) → BucketView K V
      → Type 0
  PutsIn eq keeps key value byte old (Ok gone) new =
      (place_matched (λ own. eq own key) byte old ≡ None) × Goes old gone × (new ≡ slots_put keeps (slots_left old gone) (key, value) byte)
  PutsIn eq keeps key value byte old (Err (Present k v)) new =
      (k ≡ key) × (v ≡ value) × ((at : Place) × (place_matched (λ own. eq own key) byte old ≡ Some at)) × (new ≡ old)
  PutsIn eq keeps key value byte old (Err (Memory k v)) new = ⊥

-- the pair that is evicted from a hash's home, once that is ready, is removed; without an array there is none, and if the call fails, the
-- home isn't ready: then nothing changes
abbrev pub EvictsAt : {K V H E : Type 0} → ℕ → TableView K V H → Result (Option (K × V)) E → TableView K V H → Type 0
EvictsAt hash old (Ok gone) new = ((length old.arrays.current ≡ 0) × (gone ≡ None) × (new ≡ old))
    ⊎ (IsReady old.arrays hash × (index : ℕ) × IsHome (length old.arrays.current) hash index
    × Goes (bucket_on old.arrays Current index) gone
    × (new ≡ with_bucket old Current index (slots_left (bucket_on old.arrays Current index) gone)))
EvictsAt hash old (Err refused) new = (IsReady old.arrays hash → ⊥) × (new ≡ old)

-- the pair is inserted into the bucket that was found, after an eviction for it; otherwise nothing changes, and allocation fails only if
-- none was found
abbrev pub PutsAt : {K V H : Type 0} → Bool → K × V → ℕ → TableView K V H → Result (Option (K × V)) (NotInserted K V)
    → Result (Side × ℕ) (Unit {0}) → TableView K V H → Type 0
PutsAt keeps pair byte old (Ok gone) (Ok found) new =
    Goes (bucket_on old.arrays found.0 found.1) gone
    × (new ≡ with_bucket old found.0 found.1 (slots_put keeps (slots_left (bucket_on old.arrays found.0 found.1) gone) pair byte))
PutsAt keeps pair byte old (Err (Present k v)) answer new = new ≡ old
PutsAt keeps pair byte old (Err (Memory k v)) (Err refused) new = new ≡ old
PutsAt keeps pair byte old result answer new = ⊥
