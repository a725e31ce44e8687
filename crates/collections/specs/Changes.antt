-- What calls do to a map.
use Rattle.std.specs.Prelude.{ℕ, ◌≡◌, ◌+◌, ◌-◌, Bool, true, false, cond, if◌then◌else◌, nat_le, List, ◌∷◌, Option, Some, None, Result, Ok}
use Rattle.std.specs.Prelude.{Err, IsSome}
use Rattle.std.specs.Borrow.{Bor, MutBor}
use Rattle.std.specs.List.Sorted.{IsPermutation}
use Rattle.std.specs.declared.alloc.AllocFailed.{AllocFailed}
use Rattle.collections.specs.Maps.{MapView, IsUnique, get, get_by, map_len}
use Rattle.bucket_table.specs.Walking.Retains.{RetainsEach}
use Rattle.bucket_slots.specs.declared.not_inserted.NotInserted.{NotInserted}
use Rattle.bucket_slots.specs.declared.not_inserted.NotInserted.TheVariants.{Present, Memory}

module _ {K V H : Type 0} (eq : K → K → Bool) where
  -- no two keys of the new map are equal, and the hasher and the two capacities stay
  pub record Keeps (old new : MapView K V H) : Type 0 where
    pub unique : IsUnique eq new
    pub hasher : new.hasher ≡ old.hasher
    pub minimum : new.minimum ≡ old.minimum
    pub maximum : new.maximum ≡ old.maximum

  -- each matching key has the value (`None`: the map does not contain the key), and each other key has what it had
  abbrev pub Updates : MapView K V H → (K → Bool) → Option V → MapView K V H → Type 0
  Updates old matches value new = (other : K) → get eq new other ≡ cond (matches other) value (get eq old other)

  -- the pairs stay, in some order, and so each key has the value that it had
  pub record Stays (old new : MapView K V H) : Type 0 where
    pub entries : IsPermutation old.entries new.entries
    pub len : map_len new ≡ map_len old
    pub gets : (key : K) → get eq new key ≡ get eq old key
    pub kept : Keeps old new

  -- a pair more, whose key was absent
  pub record Adds (old : MapView K V H) (key : K) (value : V) (new : MapView K V H) : Type 0 where
    pub absent : get eq old key ≡ None
    pub entries : IsPermutation ((key, value) ∷ old.entries) new.entries
    pub len : map_len new ≡ map_len old + 1
    pub updates : Updates old (eq key) (Some value) new
    pub kept : Keeps old new

  -- the pair whose key matches is removed
  pub record Takes (old : MapView K V H) (matches : K → Bool) (pair : K × V) (new : MapView K V H) : Type 0 where
    pub same : matches pair.0 ≡ true
    pub value : get_by matches old ≡ Some pair.1
    pub entries : IsPermutation old.entries (pair ∷ new.entries)
    pub len : map_len new + 1 ≡ map_len old
    pub updates : Updates old matches None new
    pub kept : Keeps old new

  -- the value of the matching key is another one, and the key stays
  pub record Replaces (old : MapView K V H) (matches : K → Bool) (pair : K × V) (later : V) (new : MapView K V H) : Type 0 where
    pub same : matches pair.0 ≡ true
    pub value : get_by matches old ≡ Some pair.1
    pub rest : List (K × V)
    pub before : IsPermutation old.entries (pair ∷ rest)
    pub after : IsPermutation ((pair.0, later) ∷ rest) new.entries
    pub len : map_len new ≡ map_len old
    pub updates : Updates old matches (Some later) new
    pub kept : Keeps old new

  -- the value of some matching key is another one
  abbrev pub Holds : (K → Bool) → MapView K V H → V → V → MapView K V H → Type 0
  Holds matches old before later new = (own : K) × Replaces old matches (own, before) later new

  -- a pair is inserted, whose key was absent, and another is removed
  pub record Displaces (old : MapView K V H) (gone : K × V) (key : K) (value : V) (new : MapView K V H) : Type 0 where
    pub absent : get eq old key ≡ None
    pub went : get eq old gone.0 ≡ Some gone.1
    pub rest : List (K × V)
    pub before : IsPermutation old.entries (gone ∷ rest)
    pub after : IsPermutation ((key, value) ∷ rest) new.entries
    pub len : map_len new ≡ map_len old
    pub gets : (other : K) → get eq new other ≡ cond (eq key other) (Some value) (cond (eq gone.0 other) None (get eq old other))
    pub kept : Keeps old new

module _ {K V H : Type 0} (eq : K → K → Bool) (key : K) where
  -- why a pair that wasn't inserted is returned: an equal key is present, or allocation failed and none is present
  abbrev pub ReturnsPair : V → MapView K V H → NotInserted K V → Type 0
  ReturnsPair value map (Present k v) = (k ≡ key) × (v ≡ value) × IsSome (get eq map key)
  ReturnsPair value map (Memory k v) = (k ≡ key) × (v ≡ value) × (get eq map key ≡ None)

  -- a pair is inserted if its key is absent; else, and if allocation fails, it is returned and nothing changes
  abbrev pub Inserts : {A : Type 0} → V → MapView K V H → Result A (NotInserted K V) → MapView K V H → Type 0
  Inserts value old (Ok done) new = Adds eq old key value new
  Inserts value old (Err why) new = ReturnsPair value old why × Stays eq old new

  -- a pair is inserted if its key is absent, and the evicted pair, if any, is returned; else, and if allocation fails, the pair itself is
  -- returned and nothing changes
  abbrev pub Puts : V → MapView K V H → Result (Option (K × V)) (NotInserted K V) → MapView K V H → Type 0
  Puts value old (Ok None) new = Adds eq old key value new
  Puts value old (Ok (Some gone)) new = Displaces eq old gone key value new
  Puts value old (Err why) new = ReturnsPair value old why × Stays eq old new

  -- a pair is inserted, or its value replaces that of the present key, and the earlier value is returned; if allocation fails, the pair is
  -- returned and its key is absent
  abbrev pub Upserts : V → MapView K V H → Result (Option V) (AllocFailed (K × V)) → MapView K V H → Type 0
  Upserts value old (Ok None) new = Adds eq old key value new
  Upserts value old (Ok (Some earlier)) new = (own : K) × Replaces eq old (eq key) (own, earlier) value new
  Upserts value old (Err back) new = (back.value ≡ (key, value)) × (get eq old key ≡ None) × Stays eq old new

module _ {K V H : Type 0} (eq : K → K → Bool) (matches : K → Bool) where
  -- the pair whose key matches is removed and returned; `None` exactly if no key matches
  abbrev pub Removes : MapView K V H → Option (K × V) → MapView K V H → Type 0
  Removes old (Some pair) new = Takes eq old matches pair new
  Removes old None new = (get_by matches old ≡ None) × Stays eq old new

  -- the pair whose key matches is removed, and the result is whether there was one
  abbrev pub TakesOut : MapView K V H → Bool → MapView K V H → Type 0
  TakesOut old true new = (pair : K × V) × Takes eq old matches pair new
  TakesOut old false new = (get_by matches old ≡ None) × Stays eq old new

  -- the pair whose key matches is read and then removed; the result is `None` exactly if no key matches
  abbrev pub ReadsOut : {R : Type 0} → (Bor K → Bor V → R → Type 0) → MapView K V H → Option R → MapView K V H → Type 0
  ReadsOut reads old (Some answer) new =
      (own : Bor K) × (value : Bor V) × reads own value answer × Takes eq old matches (own.now, value.now) new
  ReadsOut reads old None new = (get_by matches old ≡ None) × Stays eq old new

  -- the value of the matching key is lent to a call, and is what the call leaves; the result is `None` exactly if no key matches
  abbrev pub Rewrites : {R : Type 0} → (Bor K → MutBor V → R → MutBor V → Type 0) → MapView K V H → Option R → MapView K V H → Type 0
  Rewrites changes old (Some answer) new = (own : Bor K) × (before : MutBor V) × (after : MutBor V) × changes own before answer after
      × Replaces eq old matches (own.now, before.now) after.now new
  Rewrites changes old None new = (get_by matches old ≡ None) × Stays eq old new

-- the matching key of a set is removed and returned; `None` exactly if no key matches
abbrev pub SetRemoves : {K H : Type 0} → (K → K → Bool) → (K → Bool) → MapView K (Unit {0}) H → Option K → MapView K (Unit {0}) H → Type 0
SetRemoves eq matches old (Some own) new = Takes eq old matches (own, tt) new
SetRemoves eq matches old None new = (get_by matches old ≡ None) × Stays eq old new

-- a function is called with a key, and with a value lent for writing, which the call may change. No public clause cites it
abbrev pub Calls : {K V : Type 0} → (Bor K → MutBor V → MutBor V → Type 0) → K → V → V → Type 0
Calls {K} {V} step key value later = (own : Bor K) × (before : MutBor V) × (after : MutBor V)
    × (own.now ≡ key) × (before.now ≡ value) × (after.now ≡ later) × step own before after

module _ {K V H : Type 0} (eq : K → K → Bool) where
  -- the minimum is raised by the result: the requested number, or 0 if the minimum would exceed the maximum
  pub record Reserves (additional : ℕ) (old : MapView K V H) (answer : ℕ) (new : MapView K V H) : Type 0 where
    pub granted : answer ≡ (if nat_le additional (old.maximum - old.minimum) then additional else 0)
    pub stays : Stays eq (record old { minimum = old.minimum + answer }) new

  -- a function is called with each pair in turn, from one state to the next: those that it keeps are left, with the values last written,
  -- and the slots stay, also the old ones
  pub record Retains {S : Type 0} (step : S → Bor K → MutBor V → Bool → MutBor V → S → Type 0) (first : S)
      (old new : MapView K V H) (last : S) : Type 0 where
    pub asked : RetainsEach step first old.entries new.entries last
    pub kept : Keeps eq old new
    pub slots : new.slots ≡ old.slots
    pub old_slots : new.old_slots ≡ old.old_slots

-- an error was made from a pair that wasn't inserted because allocation may fail for it: the key, and the value made
pub record FailsToAdd {K V E : Type 0} (gives : AllocFailed (K × V) → E → Type 0) (IsMade : V → Type 0) (key : K) (Lacks : Type 0) (why : E)
    : Type 0 where
  pub lacks : Lacks
  pub back : AllocFailed (K × V)
  pub same_key : back.value.0 ≡ key
  pub made : IsMade back.value.1
  pub given : gives back why
