use Rattle.bucket_table.proofs.Words.{take, ◌≡◌, ◌≤◌}
use Rattle.bucket_slots.specs.ByUse.{slots_by_use}
use Rattle.bucket_table.specs.Resize.Renewing.{own_backwards, own_by_age}
use Rattle.bucket_table.proofs.Resize.Pouring.{IsPouring}
use Rattle.bucket_table.proofs.hash_table.renew.HashTable+K+V+H+DoublyLinkedList+TYPE.pour_own.Given as goal

-- the pairs of the slots below are left
abbrev pub invariant-slots : goal.invariant-slots
invariant-slots g l =
    IsPouring g.K.PartialEq.eq g.H.KeyHash.hash_of l.fn.self (own_by_age l.fn.bucket) l.self (own_backwards l.bucket (take l.left l.slots))
    × (l.slots ≡ slots_by_use 32 l.fn.bucket.listed) × (l.left ≤ 32)

abbrev pub decreases-slots : goal.decreases-slots
decreases-slots g l = l.left
