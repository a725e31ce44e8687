-- A locked bucket that a cursor leaves for the next one.
use Rattle.bucket_table.proofs.Words.{ArraysView, AsksShrinking, Err, HasNoneFrom, IsLocked, IsPermutation-sym, Keeps, List, Ok, Place}
use Rattle.bucket_table.proofs.Words.{Result, Side, TableView, [], ap, bound_of, bucket_on, buckets_on, inl, inr, length, null_place}
use Rattle.bucket_table.proofs.Words.{pairs_ahead, pairs_in, pairs_of, refl, subst, sym, ℕ, ◌+◌, ◌∙◌, ◌∷◌, ◌≡◌, ◌≢◌, ◌⊎◌}
use Rattle.bucket_table.specs.Walking.Cursors.{Advances, LeavesTo, ShrinksThenPasses}
use Rattle.bucket_table.specs.declared.arrays.Missing.{Missing}
use Rattle.bucket_table.specs.declared.arrays.Missing.TheVariants.{Memory, Nothing}
use Rattle.bucket_table.proofs.Walking.Each.{all_permuted}
use Rattle.bucket_table.proofs.Walking.PassingUnits.{passes_alone}
use Rattle.bucket_table.proofs.Resize.Settling.{not_asked}
use Rattle.bucket_table.proofs.Map.MapKept.{state_found}
use Rattle.bucket_slots.specs.Walking.{MovesToNext}

some_or_none : {A : Type 0} (xs : List A) → (xs ≡ []) ⊎ (xs ≢ [])
some_or_none [] = inl refl
some_or_none (x ∷ xs) = inr (λ e. cc)

module _ {K V H : Type 0} (kind : ℕ) (hash : H → K → ℕ) (side : Side) (index : ℕ) (from to : Place) where
  -- what a cursor does in the arrays is what it does in the table
  pub advances : (hasher : H) (a : ArraysView K V) (r : Result (Side × ℕ) Missing) (new : ArraysView K V) → Keeps a new
      → (pairs_ahead (bucket_on a side index) from ≢ [] → (r ≡ Ok (side, index)) × (new ≡ a) × MovesToNext (bucket_on a side index) from to)
      → (pairs_ahead (bucket_on a side index) from ≡ []
      → LeavesTo (hash hasher) (bound_of (length (buckets_on a side)) (index + 1)) r new to)
      → (pairs_ahead (bucket_on a side index) from ≡ [] → ShrinksThenPasses (λ to. to.1) side index a r new)
      → Advances kind hash (record { hasher = hasher; arrays = a }) side index from r to (record { hasher = hasher; arrays = new })
  advances hasher a r new kept stays leaves departs = record {
    map = state_found kind hasher a new kept;
    bag = kept.open_tickets;
    marks = kept.marks;
    stays = stays;
    leaves = leaves;
    departs = departs;
  }

  -- the next bucket is locked
  pub next_locked : (old new : TableView K V H) (found : Side × ℕ) → IsLocked old.arrays side index
      → Advances kind hash old side index from (Ok found) to new → IsLocked new.arrays found.0 found.1
  next_locked old new found locked a = elim (some_or_none (pairs_ahead (bucket_on old.arrays side index) from)) [
    | inl none ↦
        let h = a.leaves none in
        subst (λ (s : Side). IsLocked new.arrays s found.1) (sym h.0) h.1.locked
    | inr some ↦
        let s = a.stays some in
        let answer = s.0 in
        let same : found ≡ (side, index) = cc in
        subst (λ (p : ArraysView K V). IsLocked p found.0 found.1) (sym s.1)
        (subst (λ (p : Side × ℕ). IsLocked old.arrays p.0 p.1) (sym same) locked)
  ]

  module _ (old new : TableView K V H) (missing : Missing) (a : Advances kind hash old side index from (Err missing) to new) where
    -- if something is ahead, the cursor stays
    pub not_held : pairs_ahead (bucket_on old.arrays side index) from ≢ [] → ⊥
    not_held some = let answer = (a.stays some).0 in absurd cc

    -- without a next one, the pointer is null
    pub none_null : to ≡ null_place
    none_null = elim (some_or_none (pairs_ahead (bucket_on old.arrays side index) from)) [
      | inl none ↦ (a.leaves none).null
      | inr some ↦ absurd (not_held some)
    ]

    -- and no earlier pair has a hash from there on
    pub none_before : missing ≡ Nothing
        → HasNoneFrom (hash old.hasher) (bound_of (length (buckets_on old.arrays side)) (index + 1)) (pairs_of old.arrays)
    none_before nothing = elim (some_or_none (pairs_ahead (bucket_on old.arrays side index) from)) [
      | inl none ↦
          all_permuted _ (IsPermutation-sym _ _ a.map.pairs) ((a.leaves none).none nothing)
      | inr some ↦ absurd (not_held some)
    ]

    -- it doesn't fail if there is no old array and no shrink is due
    pub refused_beside : length old.arrays.linked ≡ 0
        → (pairs_in (bucket_on old.arrays side index) ≡ [] → AsksShrinking old.arrays index → ⊥) → missing ≡ Memory → ⊥
    refused_beside alone quiet memory = elim (some_or_none (pairs_ahead (bucket_on old.arrays side index) from)) [
      | inl none ↦
          let d = a.departs none in
          passes_alone (λ (to : Side × ℕ). to.1) (Err missing) _ d.between new.arrays d.passes
          (ap (λ (p : ArraysView K V). length p.linked) (not_asked (λ asked. quiet asked.0 asked.1) d.asked) ∙ alone) memory
      | inr some ↦ absurd (not_held some)
    ]
