-- What a table is after the pair in a live slot was touched, made a tombstone or removed.
use Rattle.bucket_table.proofs.Words.{ArePlaced, ArraysView, Bool, BucketView, ChangesValue, IsEquivalence, IsOneMap, Keeps, KeepsPairs}
use Rattle.bucket_table.proofs.Words.{MapState, Place, Side, Some, TakesPair, ℕ, arrays_with, bucket_on, bucket_with_value, buckets_on}
use Rattle.bucket_table.proofs.Words.{length, live_pair, slot_in, slots_marked, slots_touched, slots_without, ◌<◌, ◌≡◌}
use Rattle.bucket_table.specs.Map.MapState.{state_of}
use Rattle.bucket_table.proofs.Map.LockedSteps.{taken_through}
use Rattle.bucket_table.proofs.Map.MapKept.{one_map_kept}
use Rattle.bucket_table.proofs.Map.MapSteps.{Leaves, marked, removed, touched, wrote, wrote_touching}
use Rattle.bucket_table.proofs.Views.Keeping.{keeps_same}
use Rattle.bucket_table.proofs.Views.SideChanges.{IsChangeable, changeable_holding}

module _ {K V H : Type 0} {eq : K → K → Bool} (laws : IsEquivalence eq) (hash : H → K → ℕ) (kind : ℕ) {hasher : H} {a : ArraysView K V}
    (side : Side) (i : ℕ) (one : IsOneMap eq (hash hasher) a) (within : i < length (buckets_on a side)) (at : Place) (p : K × V)
    (here : live_pair (slot_in (bucket_on a side i) at) ≡ Some p) where
  abbrev state : ArraysView K V → MapState K V H
  state b = state_of kind (record { hasher = hasher; arrays = b })

  pub held : IsChangeable a side i
  held = changeable_holding (hash hasher) a side i at p one.placed within here

  -- with these arrays the table is one map, and no longer has the pair
  pub record Lacks (new : ArraysView K V) : Type 0 where
    pub one_map : IsOneMap eq (hash hasher) new
    pub map : TakesPair (state a) p (state new)

  lacks : (b : BucketView K V) (new : ArraysView K V) → Leaves laws hash kind side i one held (TakesPair (state a) p) b
      → Keeps (arrays_with a side i b) new → ((h : K → ℕ) → ArePlaced h (arrays_with a side i b) → ArePlaced h new) → Lacks new
  lacks b new x kept placed = record {
    one_map = one_map_kept eq laws (hash hasher) (arrays_with a side i b) new x.one_map kept (placed (hash hasher) x.one_map.placed);
    map = taken_through kind (state a) hasher (arrays_with a side i b) new p x.map kept;
  }

  pub takes : (new : ArraysView K V) → Keeps (arrays_with a side i (slots_without (bucket_on a side i) at)) new
      → ((h : K → ℕ) → ArePlaced h (arrays_with a side i (slots_without (bucket_on a side i) at)) → ArePlaced h new) → Lacks new
  takes new kept placed = lacks _ new (removed laws hash kind side i one held p at here) kept placed

  pub marks : (epoch : ℕ) (new : ArraysView K V) → Keeps (arrays_with a side i (slots_marked (bucket_on a side i) at epoch)) new
      → ((h : K → ℕ) → ArePlaced h (arrays_with a side i (slots_marked (bucket_on a side i) at epoch)) → ArePlaced h new) → Lacks new
  marks epoch new kept placed = lacks _ new (marked laws hash kind side i one held p at epoch here) kept placed

  -- and if nothing else changed
  pub takes_only : Lacks (arrays_with a side i (slots_without (bucket_on a side i) at))
  takes_only = takes _ (keeps_same _) (λ h law. law)

  pub marks_only : (epoch : ℕ) → Lacks (arrays_with a side i (slots_marked (bucket_on a side i) at epoch))
  marks_only epoch = marks epoch _ (keeps_same _) (λ h law. law)

  -- it was only touched
  pub touches : (keeps : Bool) → Leaves laws hash kind side i one held (KeepsPairs (state a)) (slots_touched keeps (bucket_on a side i) at)
  touches keeps = touched laws hash kind side i one held keeps at

  -- its value is replaced
  pub writes : (value : V)
      → Leaves laws hash kind side i one held (ChangesValue (state a) p value) (bucket_with_value (bucket_on a side i) at value)
  writes value = wrote laws hash kind side i one held p value at here

  -- and it was touched or not
  pub writes_touching : (touches : Bool) (value : V) → Leaves laws hash kind side i one held (ChangesValue (state a) p value)
      (bucket_with_value (slots_touched touches (bucket_on a side i) at) at value)
  writes_touching touches value = wrote_touching laws hash kind side i one held touches p value at here
