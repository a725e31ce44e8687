use Rattle.bucket_table.proofs.Words.{length, ◌-◌}
use Rattle.std.proofs.Common.{drop}
use Rattle.bucket_table.specs.Resize.Renewing.{all_by_age, arrays_by_age}
use Rattle.bucket_table.specs.Walking.Row.{row_of}
use Rattle.bucket_table.proofs.Resize.Pouring.{IsPouring}
use Rattle.bucket_table.proofs.hash_table.renew.HashTable+K+V+H+DoublyLinkedList+TYPE.pour_all.Given as goal

-- the pairs of the buckets from the index on are left
abbrev pub invariant-buckets : goal.invariant-buckets
invariant-buckets g l =
    IsPouring g.K.PartialEq.eq g.H.KeyHash.hash_of l.fn.self (arrays_by_age l.fn.source) l.self
    (all_by_age (drop l.index (row_of l.source)))

abbrev pub decreases-buckets : goal.decreases-buckets
decreases-buckets g l = length (row_of l.source) - l.index
