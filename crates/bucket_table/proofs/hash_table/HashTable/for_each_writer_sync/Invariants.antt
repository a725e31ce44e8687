use Rattle.bucket_table.proofs.Words.{length, ◌-◌, ◌≡◌}
use Rattle.bucket_table.proofs.Walking.Visiting.{WalkStands}
use Rattle.bucket_table.proofs.hash_table.HashTable.for_each_writer_sync.Given as goal

abbrev pub invariant-loop-more : goal.invariant-loop-more
invariant-loop-more g l = g.F.Visit.may_visit l.visitor × (l.self.hasher ≡ l.fn.self.hasher)
    × WalkStands g.F.Visit.visits (g.H.KeyHash.hash_of l.fn.self.hasher) l.fn.visitor l.visitor
    l.fn.self.arrays l.initial.index l.index l.flag l.more l.self.arrays

abbrev pub decreases-loop-more : goal.decreases-loop-more
decreases-loop-more g l = length l.fn.self.arrays.current - l.index
