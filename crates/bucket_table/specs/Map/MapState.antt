-- The map that a table represents, apart from its layout, and what a call may do to it.
use Rattle.std.specs.Prelude.{ℕ, ◌+◌, ◌-◌, ◌≡◌, List, ◌∷◌, if◌then◌else◌, nat_le}
use Rattle.std.specs.List.Sorted.{IsPermutation}
use Rattle.bucket_table.specs.Views.ArraysView.{TableView, pairs_of}

-- the kind, the hasher, the two capacities, and the pairs in any order
pub record MapState (K V H : Type 0) : Type 0 where
  pub kind : ℕ
  pub hasher : H
  pub minimum : ℕ
  pub maximum : ℕ
  pub pairs : List (K × V)

-- the map that the table represents
abbrev pub state_of : {K V H : Type 0} → ℕ → TableView K V H → MapState K V H
state_of kind view =
    record { kind = kind; hasher = view.hasher; minimum = view.arrays.minimum; maximum = view.arrays.maximum; pairs = pairs_of view.arrays }

-- the pairs are these, in any order, and nothing else changes
pub record Becomes {K V H : Type 0} (old : MapState K V H) (those : List (K × V)) (new : MapState K V H) : Type 0 where
  pub pairs : IsPermutation those new.pairs
  pub others : new ≡ record old { pairs = new.pairs }

-- everything but the order of the pairs stays
abbrev pub KeepsPairs : {K V H : Type 0} → MapState K V H → MapState K V H → Type 0
KeepsPairs old new = Becomes old old.pairs new

-- the minimum is raised by the result: the number given, or 0 if it would exceed the maximum; nothing else changes
pub record RaisesMinimum {K V H : Type 0} (additional : ℕ) (old : MapState K V H) (answer : ℕ) (new : MapState K V H) : Type 0 where
  pub granted : answer ≡ (if nat_le additional (old.maximum - old.minimum) then additional else 0)
  pub kept : KeepsPairs (record old { minimum = old.minimum + answer }) new

-- the minimum is lowered by the result: the number given, or 0 if that exceeds the minimum; nothing else changes
pub record LowersMinimum {K V H : Type 0} (released : ℕ) (old : MapState K V H) (answer : ℕ) (new : MapState K V H) : Type 0 where
  pub granted : answer ≡ (if nat_le released old.minimum then released else 0)
  pub kept : KeepsPairs (record old { minimum = old.minimum - answer }) new

-- there is one more pair, and nothing else changes
abbrev pub AddsPair : {K V H : Type 0} → MapState K V H → K × V → MapState K V H → Type 0
AddsPair old pair new = Becomes old (pair ∷ old.pairs) new

-- there is one pair less, and nothing else changes
pub record TakesPair {K V H : Type 0} (old : MapState K V H) (pair : K × V) (new : MapState K V H) : Type 0 where
  pub pairs : IsPermutation old.pairs (pair ∷ new.pairs)
  pub others : new ≡ record old { pairs = new.pairs }

-- the value of one pair changes, and nothing else: the other pairs stay
pub record ChangesValue {K V H : Type 0} (old : MapState K V H) (pair : K × V) (value : V) (new : MapState K V H) : Type 0 where
  pub rest : List (K × V)
  pub before : IsPermutation old.pairs (pair ∷ rest)
  pub after : Becomes old ((pair.0, value) ∷ rest) new
