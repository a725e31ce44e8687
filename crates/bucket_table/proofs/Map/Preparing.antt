-- What moving the sources of a bucket leaves.
use Rattle.bucket_table.proofs.Words.{AreSourcesKilled, ArraysView, Bool, IsHome, IsInRange, Meets, ℕ, arith, false≢true, length, sym, true}
use Rattle.bucket_table.proofs.Words.{◌↔◌, ◌∙◌, ◌≡◌}
use Rattle.bucket_table.specs.Map.Preparing.{HomeNeedsMemory, IsReady}
use Rattle.bucket_table.specs.Rehash.Units.{WorksRange}

module _ {K V : Type 0} where
  -- if the range of the sources was moved, none is left
  pub sources_worked : (start end to from index : ℕ) (success : Bool) (old new : ArraysView K V) → WorksRange start end success old new
      → success ≡ true
      → to ≡ length old.current → from ≡ length old.linked → ((i : ℕ) → IsInRange start end i ↔ Meets to index from i)
      → AreSourcesKilled new index
  sources_worked start end to from index success old new (some, killed) done to_is from_is range = λ i below meets.
      let same = rw (some.killed.len, some.kept.current_len, ← to_is, ← from_is) at meets in
      let inside = (range i).1 (same.0, same.2, same.1) in
      killed done i inside.0 inside.1

  -- a home whose sources are killed is ready
  pub ready_at : (index hash : ℕ) (arrays : ArraysView K V) → IsHome (length arrays.current) hash index → AreSourcesKilled arrays index
      → IsReady arrays hash
  ready_at index hash arrays home dead = record {
    stands = let within = home.within in omega (arith, within);
    killed = λ j other. rw (home.the_one j other.own) dead;
  }

  -- a home for which memory is needed isn't ready
  pub wanting_unready : (hash : ℕ) (old new : ArraysView K V) → HomeNeedsMemory hash old new → IsReady new hash → ⊥
  wanting_unready hash old new (index, home, matches) ready =
      false≢true (sym matches.alive ∙ ready.killed index home matches.index matches.within matches.one)
