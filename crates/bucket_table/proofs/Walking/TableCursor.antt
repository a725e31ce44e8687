-- Cursors, as the table sees them.
use Rattle.bucket_table.proofs.Words.{ArraysView, Bool, Current, Err, IsEquivalence, IsLocked, IsOneMap, KeepsArrays, Ok, Place, Result, []}
use Rattle.bucket_table.proofs.Words.{ap, arith, bucket_on, entries_of, length, length_permutation, nil_from_length, pairs_of, ℕ, ◌≡◌}
use Rattle.bucket_table.proofs.Words.{◌≤◌}
use Rattle.bucket_table.specs.Walking.Cursors.{IsFoundFrom, Passes, SetsOut}
use Rattle.bucket_table.specs.Walking.Sweeps.{RetainsAt}
use Rattle.bucket_table.specs.declared.arrays.Missing.{Missing}
use Rattle.bucket_table.specs.declared.arrays.Missing.TheVariants.{Nothing}
use Rattle.bucket_table.proofs.Walking.CursorSteps.{goes_later}
use Rattle.bucket_table.proofs.Walking.Leaving.{keys_parted, one_map_losing_on}
use Rattle.bucket_table.proofs.Map.MapKept.{pairs_kept, state_found}
use Rattle.bucket_table.proofs.Views.SideChanges.{changeable_locked}
use Rattle.bucket_table.proofs.Walking.Each.{none_in}

module _ {K V H : Type 0} where
  -- a cursor that starts in the arrays starts in the table
  pub sets_out : (kind : ℕ) (hash : H → K → ℕ) (hasher : H) (a : ArraysView K V) (bound : ℕ) (r : Result ℕ Missing) (new : ArraysView K V)
      (at : Place)
      → bound ≤ 0 → KeepsArrays a new → IsFoundFrom (hash hasher) bound r new at → Passes (λ i. i) 0 a r new
      → SetsOut kind hash (record { hasher = hasher; arrays = a }) r at (record { hasher = hasher; arrays = new })
  sets_out kind hash hasher a bound r new at less kept found passes = record {
    map = state_found kind hasher a new kept.keeps;
    bag = kept.keeps.open_tickets;
    marks = kept.keeps.marks;
    found = goes_later (hash hasher) r new 0 bound at less found;
    passes = passes;
  }

module _ {K V : Type 0} where
  -- a bucket of the table was swept
  pub left_of : {kind epoch : ℕ} (eq : K → K → Bool) → IsEquivalence eq → (hash : K → ℕ) (a : ArraysView K V)
      (index count : ℕ) (IsTest : (K × V → Bool) → Type 0) (new : ArraysView K V)
      → IsOneMap eq hash a → IsLocked a Current index → RetainsAt IsTest kind epoch a index count new → IsOneMap eq hash new
  left_of eq laws hash a index count IsTest new one locked r =
      rw r.new_is (one_map_losing_on eq laws hash a Current index r.left one (changeable_locked a Current index locked)
      (keys_parted (bucket_on a Current index) r.left r.retains.gone r.retains.alive r.retains.parts))

  -- if a cursor finds nothing at all, there was nothing
  pub nothing_there : (hash : K → ℕ) (a : ArraysView K V) (bound : ℕ) (r : Result ℕ Missing) (new : ArraysView K V) (at : Place)
      → bound ≡ 0 → KeepsArrays a new → IsFoundFrom hash bound r new at → r ≡ Err Nothing → pairs_of a ≡ []
  nothing_there hash a bound (Ok index) new at zero_bound kept h found = absurd cc
  nothing_there hash a bound (Err e) new at zero_bound kept h found =
      let nothing_left : e ≡ Nothing = cc in
      let none : pairs_of new ≡ [] = none_in (λ pair less. omega (arith, zero_bound, less)) (h.none nothing_left) in
      let len = length_permutation _ _ (pairs_kept (entries_of a) (entries_of new) kept.keeps.pairs) in
      let no_len = ap (λ ps. length ps) none in
      nil_from_length (pairs_of a) (omega (arith, len, no_len))
