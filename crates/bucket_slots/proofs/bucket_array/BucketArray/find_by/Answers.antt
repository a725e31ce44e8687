use Rattle.bucket_slots.proofs.Words.{sym}
use Rattle.bucket_slots.proofs.Digests.{null_at}
use Rattle.bucket_slots.proofs.bucket_array.BucketArray.find_by.Goals as goal

pub returns-then-is_valid-clause-place : goal.returns-then-is_valid-clause-place
returns-then-is_valid-clause-place g c =
    sym (rw c.bucket.ensures at (c.get_entry_ptr_by-at.ensures.found (c.is_valid.ensures.0 c.if-is_valid.true)))

pub returns-else-is_valid-clause-place : goal.returns-else-is_valid-clause-place
returns-else-is_valid-clause-place g c =
    sym (rw c.bucket.ensures at (c.get_entry_ptr_by-at.ensures.absent (null_at _ _ c.is_valid.ensures.1 c.if-is_valid.false)))

pub returns-in_err-at-clause-place : goal.returns-in_err-at-clause-place
returns-in_err-at-clause-place g c = rw c.from_residual.ensures (rw c.self.view_is at c.in_err-at.ensures.place)

pub returns-clause-place : goal.returns-clause-place
returns-clause-place g c = rw c.self.view_is at c.in_ok-at.ensures.place
