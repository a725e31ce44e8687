-- The contents of a copy of a map, and what a copy is if allocation may fail.
use Rattle.std.specs.Prelude.{◌^◌, Bool, min, Option, Some, None, ⊤}
use Rattle.collections.specs.Changes.{Stays}
use Rattle.collections.specs.Maps.{MapView}

module _ {K V H : Type 0} where
  -- another map has the pairs of a map, in some order, with its hasher and its capacities: its maximum is 2^63, which its minimum doesn't
  -- exceed
  abbrev pub IsCopy : (K → K → Bool) → MapView K V H → MapView K V H → Type 0
  IsCopy eq own copy = Stays eq (record own { minimum = min own.minimum (2 ^ 63); maximum = 2 ^ 63 }) copy

  -- a map follows from another by a relation, or it is dropped; once dropped, it stays dropped
  abbrev pub BecomesOrGoes : (MapView K V H → MapView K V H → Type 0) → Option (MapView K V H) → Option (MapView K V H) → Type 0
  BecomesOrGoes Becomes (Some old) (Some new) = Becomes old new
  BecomesOrGoes Becomes None (Some new) = ⊥
  BecomesOrGoes Becomes before None = ⊤
