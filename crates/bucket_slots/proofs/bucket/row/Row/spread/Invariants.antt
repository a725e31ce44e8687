use Rattle.bucket_slots.proofs.Words.{[], CACHE, ◌≡◌, ◌≢◌}
use Rattle.bucket_slots.specs.Spreading.{IsShifted}
use Rattle.bucket_slots.proofs.OwnSpreading.{IsSpreading}
use Rattle.bucket_slots.proofs.bucket.row.Row.spread.Given as goal

-- some pairs have moved, and the tail belongs to the list
abbrev pub invariant-loop-left : goal.invariant-loop-left
invariant-loop-left g l =
    IsSpreading g.row.TYPE (λ key answer. goal.F-post g l.hash_of key answer) (IsShifted l.shift) l.start g.row.LEN l.fn.self
    (g.L.LruList.listed l.fn.lru l.fn.tail) l.fn.targets l.self-inside.bytes l.self-inside.marks l.self-inside.block l.left
    (g.L.LruList.listed l.lru l.tail) l.targets
    × g.L.LruList.IsTail l.lru l.tail
    × (g.row.TYPE ≢ CACHE → g.L.LruList.listed l.lru l.tail ≡ [])

abbrev pub decreases-loop-left : goal.decreases-loop-left
decreases-loop-left g l = l.left
