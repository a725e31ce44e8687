use Rattle.bucket_table.proofs.Words.{ArePlaced, KeepsArrays, WorksUnits, [], length, ◌+◌, ◌≡◌}
use Rattle.bucket_table.specs.Rehash.Finishing.{units_left}
use Rattle.bucket_table.proofs.arrays.Arrays.finish_rehash.Given as goal

-- the units worked so far and the remaining ones are those at entry
abbrev pub invariant-loop-success : goal.invariant-loop-success
invariant-loop-success g l = ArePlaced (g.H.KeyHash.hash_of l.hasher) l.self × KeepsArrays l.fn.self l.self ×
    (l.self.tickets.open_units ≡ [])
    × (l.count + units_left l.self ≡ units_left l.fn.self) × (length l.fn.self.linked ≡ 0 → l.self ≡ l.fn.self)
    × WorksUnits l.count (λ index. ⊥) l.fn.self l.self

abbrev pub decreases-loop-success : goal.decreases-loop-success
decreases-loop-success g l = units_left l.self
