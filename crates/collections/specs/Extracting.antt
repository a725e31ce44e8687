-- What an iterator that removes what a function picks does to a map or a set.
use Rattle.std.specs.Prelude.{◌≡◌, Bool, List, Option, option_map}
use Rattle.std.specs.Borrow.{Bor, MutBor}
use Rattle.std.specs.Fn.{CalledAt, Mut}
use Rattle.bucket_slots.specs.declared.bucket.TheConstants.{MAP}
use Rattle.bucket_table.specs.Walking.Extracting.{AsksPair, ExtractView, Extracts}
use Rattle.collections.specs.Changes.{Keeps}
use Rattle.collections.specs.Maps.{MapView, map_of}
use Rattle.collections.specs.declared.extracting.Extraction.{Extraction}
use Rattle.collections.specs.declared.extracting.PutBack as put_back

module _ {K V H F : Type 0} {puts : put_back.Ghosts (ExtractView K V) (MapView K V H)} where
  -- the map or the set after the iterator ends
  abbrev pub extract_map : Extraction (MapView K V H) F (ExtractView K V) puts → MapView K V H
  extract_map it = map_of (record { hasher = it.from.now.hasher; arrays = it.taken.arrays })

  -- the pairs that it hasn't reached yet
  abbrev pub extract_left : Extraction (MapView K V H) F (ExtractView K V) puts → List (K × V)
  extract_left it = it.taken.left

-- what else stays: the hasher, the capacities and the slots, also the old ones; and no two keys are equal
pub record KeepsSlots {K V H : Type 0} (eq : K → K → Bool) (old new : MapView K V H) : Type 0 where
  pub kept : Keeps eq old new
  pub slots : new.slots ≡ old.slots
  pub old_slots : new.old_slots ≡ old.old_slots

module _ {K V H F : Type 0} {puts : put_back.Ghosts (ExtractView K V) (MapView K V H)} (eq : K → K → Bool) where
  -- a step of a map's iterator, which still holds the same map
  pub record ExtractsIf (step : F → Bor K → MutBor V → Bool → MutBor V → F → Type 0)
      (old : Extraction (MapView K V H) F (ExtractView K V) puts) (picked : Option (K × V))
      (new : Extraction (MapView K V H) F (ExtractView K V) puts) : Type 0 where
    pub same_map : new.from.ghost_name ≡ old.from.ghost_name
    pub extracted : Extracts MAP (AsksPair step) old.test old.taken picked new.taken new.test
    pub keeps : KeepsSlots eq (extract_map old) (extract_map new)

-- a function is called with a set's key, and returns; the key is unchanged
abbrev pub AsksKey : {K F : Type 0} → Mut F (Bor K × Unit {0}) Bool → F → K × Unit {0} → Bool → F → K × Unit {0} → Type 0
AsksKey asks first pair answer last later = CalledAt asks first pair.0 answer last × (later ≡ pair)

module _ {K H F : Type 0} {puts : put_back.Ghosts (ExtractView K (Unit {0})) (MapView K (Unit {0}) H)} (eq : K → K → Bool) where
  -- a step of a set's iterator, which still holds the same set
  pub record ExtractsKeyIf (asks : Mut F (Bor K × Unit {0}) Bool)
      (old : Extraction (MapView K (Unit {0}) H) F (ExtractView K (Unit {0})) puts) (picked : Option K)
      (new : Extraction (MapView K (Unit {0}) H) F (ExtractView K (Unit {0})) puts) : Type 0 where
    pub same_set : new.from.ghost_name ≡ old.from.ghost_name
    pub gone : Option (K × Unit {0})
    pub picked_is : picked ≡ option_map (λ pair. pair.0) gone
    pub extracted : Extracts MAP (AsksKey asks) old.test old.taken gone new.taken new.test
    pub keeps : KeepsSlots eq (extract_map old) (extract_map new)
