-- A cache's new array, and what it is after all pairs are in it.
use Rattle.bucket_table.proofs.Words.{ArraysView, Bool, IsDistinct, IsDistinct-IsPermutation, IsEquivalence, IsLengthFor, IsNewArray}
use Rattle.bucket_table.proofs.Words.{IsPermutation, IsPermutation-map, IsPermutation-trans, List, TableView, ℕ, [], ap}
use Rattle.bucket_table.proofs.Words.{append-nil, arith, first_tickets, length, length_permutation, map, nil_from_length, pairs_of, refl}
use Rattle.bucket_table.proofs.Words.{subst, sym, ◌*◌, ◌++◌, ◌<◌, ◌^◌, ◌∙◌, ◌≡◌, ◌≤◌}
use Rattle.bucket_table.specs.Resize.Renewing.{Awaits, Pours, Renews, arrays_by_age}
use Rattle.std.specs.Int.{IsPowerOfTwo}
use Rattle.bucket_slots.specs.Sizing.{IsPowerIn}
use Rattle.bucket_slots.proofs.Doublings.{double_fits}
use Rattle.bucket_slots.proofs.PowersOfTwo.{exponent_le, power_parts}
use Rattle.bucket_table.specs.Resize.Resizing.{MakesArray}
use Rattle.bucket_table.specs.Map.Counting.{IsCountedMap}
use Rattle.bucket_table.proofs.Map.Counted.{map_kept, nothing_counted}
use Rattle.bucket_table.proofs.Map.MapKept.{keeps_pairs}
use Rattle.bucket_table.proofs.Resize.ByAge.{each_by_age}
use Rattle.bucket_table.proofs.Resize.Growing.{kept_made, placed_made}

-- an array for a power of two has that many slots
pub full_length : (capacity len : ℕ) → IsPowerIn 64 (2 ^ 63) capacity → capacity ≤ 2 ^ 62 → IsLengthFor capacity len → 32 * len ≡ capacity
full_length capacity len is fits (power, least, len_is) =
    let (k, capacity_is) = is.power in
    let parts = power_parts 5 k (exponent_le 5 k (omega (arith, capacity_is, is.at_least))) in
    omega (arith, len_is, capacity_is ∙ parts, least.least capacity is.power (omega arith), least.at_least, is.at_least, fits)

-- a power of two that fits in 64 bits is at most 2^63
pub power_in : (capacity : ℕ) → IsPowerOfTwo capacity → 64 ≤ capacity → capacity < 2 ^ 64 → IsPowerIn 64 (2 ^ 63) capacity
power_in capacity power large fits =
    record { power = power; at_least = large; at_most = omega (arith, double_fits capacity (2 ^ 64) power (64, refl) fits) }

-- arrays of which the only one is new
pub record IsFresh {K V : Type 0} (capacity : ℕ) (arrays : ArraysView K V) : Type 0 where
  pub array : IsNewArray capacity arrays.current
  pub full : 32 * length arrays.current ≡ capacity
  pub others : arrays ≡ record { minimum = capacity; maximum = capacity; current = arrays.current; linked = []; tickets = first_tickets 0 }

module _ {K V : Type 0} (capacity : ℕ) (fresh : ArraysView K V) (is : IsFresh capacity fresh) where
  abbrev nothing : ArraysView K V
  nothing = record { minimum = capacity; maximum = capacity; current = []; linked = []; tickets = first_tickets 0 }

  made : MakesArray nothing fresh
  made = (λ stands. absurd (omega arith), λ none. record { none = refl; fresh = fresh.current; fresh_is = is.array; new_is = is.others })

  pub fresh_counted : (eq : K → K → Bool) → IsEquivalence eq → (hash : K → ℕ) → IsCountedMap eq hash fresh 0
  fresh_counted eq laws hash =
      let none = nothing_counted eq hash capacity capacity in
      map_kept eq laws hash nothing fresh none (kept_made nothing fresh made) (placed_made hash nothing fresh made none.one_map.placed)

  pub fresh_empty : pairs_of fresh ≡ []
  fresh_empty =
      let same = length_permutation _ _ (keeps_pairs nothing fresh (kept_made nothing fresh made)) in
      nil_from_length (pairs_of fresh) (omega (arith, same))

module _ {K V H : Type 0} {eq : K → K → Bool} (laws : IsEquivalence eq) (hash : H → K → ℕ) (capacity : ℕ) (hasher : H)
    (old fresh : ArraysView K V) (is : IsFresh capacity fresh) where
  abbrev first : TableView K V H
  first = record { hasher = hasher; arrays = fresh }

  -- the table awaits all pairs
  pub awaits_all : 64 ≤ capacity → IsDistinct eq (map (λ (pair : K × V). pair.0) (pairs_of old)) → Awaits eq first (arrays_by_age old)
  awaits_all large distinct =
      let full = is.full in
      record {
        stands = omega (arith, full, large);
        alone = ap (λ (a : ArraysView K V). length a.linked) is.others;
        full = full ∙ sym (ap (λ (a : ArraysView K V). a.maximum) is.others);
        distinct = rw (fresh_empty capacity fresh is, append-nil (arrays_by_age old))
            (IsDistinct-IsPermutation eq laws.symm _ _ (IsPermutation-map (λ (pair : K × V). pair.0) _ _ (each_by_age old)) distinct);
      }

  -- in the end all are in
  pub renewed : (new : TableView K V H) → Pours hash first (arrays_by_age old) new → Renews (hash hasher) capacity old new.arrays
  renewed new all =
      let arrays = ap (λ (t : TableView K V H). t.arrays) all.others in
      let none = ap (λ (pairs : List (K × V)). arrays_by_age old ++ pairs) (fresh_empty capacity fresh is)
      ∙ append-nil (arrays_by_age old) in
      let parts = subst (λ (pairs : List (K × V)). IsPermutation pairs (all.gone ++ pairs_of new.arrays)) none all.parts in
      record {
        fresh = fresh.current;
        fresh_is = is.array;
        put = all.each;
        others = arrays ∙ ap (λ (a : ArraysView K V). record a { current = new.arrays.current }) is.others;
        gone = all.gone;
        parts = IsPermutation-trans _ _ _ (each_by_age old) parts;
      }
