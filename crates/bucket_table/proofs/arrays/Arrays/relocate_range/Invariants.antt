use Rattle.bucket_table.proofs.Words.{ArePlaced, IsInRange, KillsOnly, SpendsSome}
use Rattle.bucket_table.proofs.Rehash.UnitSteps.{RelocatesRange}
use Rattle.bucket_table.proofs.arrays.Arrays.relocate_range.Given as goal

abbrev pub invariant-buckets : goal.invariant-buckets
invariant-buckets g l = RelocatesRange l.start l.index l.initial.self l.self × ArePlaced (g.H.KeyHash.hash_of l.hasher) l.self
    × SpendsSome l.initial.self.linked l.self.linked × KillsOnly (IsInRange l.start l.end) l.initial.self.linked l.self.linked
