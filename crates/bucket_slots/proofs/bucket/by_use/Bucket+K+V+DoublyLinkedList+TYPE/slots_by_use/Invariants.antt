use Rattle.bucket_slots.proofs.Words.{◌-◌}
use Rattle.bucket_slots.specs.ByUse.{slots_by_use}
use Rattle.bucket_slots.proofs.Recency.ByUse.{AddsOthers}
use Rattle.bucket_slots.proofs.bucket.by_use.Bucket+K+V+DoublyLinkedList+TYPE.slots_by_use.Given as goal

-- the slots before this one are in the order
abbrev pub invariant-others : goal.invariant-others
invariant-others g l = AddsOthers (slots_by_use 32 l.fn.self.listed) l.slots l.len l.slot

abbrev pub decreases-others : goal.decreases-others
decreases-others g l = 32 - l.slot
