-- Sources that are killed stay so.
use Rattle.bucket_table.proofs.Words.{AreSourcesKilled, ArraysView, WorksUnits, ℕ, arith, length, ◌≡◌}
use Rattle.bucket_table.proofs.Rehash.UnitRuns.{units_still}

module _ {K V : Type 0} where
  pub sources_still : {A : ℕ → Type 0} (steps : ℕ) (old new : ArraysView K V) (index : ℕ) → WorksUnits steps A old new
      → length new.current ≡ length old.current
      → AreSourcesKilled old index → AreSourcesKilled new index
  sources_still steps old new index units len dead = λ i below meets.
      let kept = units_still steps old new units (omega (arith, below)) in
      kept.still i (dead i (omega (arith, below, kept.len)) (rw (kept.len, len) at meets))
