-- The map of arrays after a call that keeps the pairs.
use Rattle.bucket_table.proofs.Words.{ArePlaced, ArraysView, Bool, Err, IsDistinct-IsPermutation, IsEquivalence, IsOneMap, IsPermutation}
use Rattle.bucket_table.proofs.Words.{IsPermutation-map, IsUnmoved, Keeps, KeepsArrays, KeepsPairs, List, MapState, Ok, OnErr, OnOk}
use Rattle.bucket_table.proofs.Words.{RelocatesAt, Result, TableView, ℕ, [], ap, arith, entries_of, first_tickets, map, pairs_of, refl, ◌≡◌}
use Rattle.std.specs.List.{IsDistinct}
use Rattle.bucket_table.specs.Map.MapState.{state_of}
use Rattle.bucket_table.proofs.Views.Laws.{loses_none}

module _ {K V : Type 0} where
  pub pairs_kept : (xs ys : List ((K × V) × ℕ)) → IsPermutation xs ys
      → IsPermutation (map (λ (e : (K × V) × ℕ). e.0) xs) (map (λ (e : (K × V) × ℕ). e.0) ys)
  pairs_kept xs ys moved = IsPermutation-map (λ (e : (K × V) × ℕ). e.0) xs ys moved

  pub keeps_pairs : (old new : ArraysView K V) → Keeps old new → IsPermutation (pairs_of old) (pairs_of new)
  keeps_pairs old new kept = pairs_kept (entries_of old) (entries_of new) kept.pairs

  -- the arrays are still one map
  pub one_map_kept : (eq : K → K → Bool) → IsEquivalence eq → (hash : K → ℕ) (old new : ArraysView K V) → IsOneMap eq hash old
      → Keeps old new
      → ArePlaced hash new → IsOneMap eq hash new
  one_map_kept eq laws hash old new one kept placed = record {
    distinct = IsDistinct-IsPermutation eq laws.symm _ _ (IsPermutation-map (λ (p : K × V). p.0) _ _ (keeps_pairs old new kept))
        one.distinct;
    placed = placed;
  }

  -- whether it is done or fails, a move keeps the map
  pub kept_of : {A E : Type 0} (r : Result A E) (index : ℕ) (old new : ArraysView K V) → OnOk r (RelocatesAt index old new)
      → OnErr r (IsUnmoved old new) → KeepsArrays old new
  kept_of (Ok x) index old new done refused = done.kept
  kept_of (Err e) index old new done refused = refused.kept

  -- without an array no pair is anywhere
  pub nothing_kept : (eq : K → K → Bool) (hash : K → ℕ) (minimum maximum : ℕ)
      → IsOneMap {V = V} eq hash (record { minimum = minimum; maximum = maximum; current = []; linked = []; tickets = first_tickets 0 })
  unfolding IsDistinct
  nothing_kept eq hash minimum maximum = record {
    distinct = tt;
    placed = record {
      homes = record {
        current_home = λ i below. absurd (omega arith);
        linked_home = λ i below. absurd (omega arith);
        alive = λ j below. absurd (omega arith);
        killed_empty = λ i below. absurd (omega arith);
        empty_targets = λ longer i j below. absurd (omega arith);
      };
      rehashed = loses_none;
    };
  }

module _ {K V H : Type 0} where
  -- what stays besides the pairs
  pub hasher_kept : (a b : MapState K V H) → KeepsPairs a b → b.hasher ≡ a.hasher
  hasher_kept a b keeps = ap (λ (m : MapState K V H). m.hasher) keeps.others

  -- what stays if the capacities do
  pub others_than_pairs : (kind : ℕ) (t s : TableView K V H) → s.hasher ≡ t.hasher → s.arrays.minimum ≡ t.arrays.minimum
      → s.arrays.maximum ≡ t.arrays.maximum → state_of kind s ≡ record (state_of kind t) { pairs = pairs_of s.arrays }
  others_than_pairs kind t s hasher minimum maximum = rw (hasher, minimum, maximum) refl

  -- a table whose arrays keep their pairs keeps its map
  pub state_kept : (kind : ℕ) (t s : TableView K V H) → s.hasher ≡ t.hasher → Keeps t.arrays s.arrays
      → KeepsPairs (state_of kind t) (state_of kind s)
  state_kept kind t s hasher kept =
      record { pairs = keeps_pairs t.arrays s.arrays kept; others = others_than_pairs kind t s hasher kept.minimum kept.maximum }

  pub state_found : (kind : ℕ) (hasher : H) (a b : ArraysView K V) → Keeps a b
      → KeepsPairs (state_of kind (record { hasher = hasher; arrays = a })) (state_of kind (record { hasher = hasher; arrays = b }))
  state_found kind hasher a b kept = state_kept kind (record { hasher = hasher; arrays = a }) (record { hasher = hasher; arrays = b }) refl
      kept
