use Rattle.bucket_slots.proofs.Words.{is_marked, sym}
use Rattle.bucket_slots.proofs.Masks.{any-mask}
use Rattle.bucket_slots.proofs.RowMasks.{mark_mask}
use Rattle.bucket_slots.proofs.bucket.row.Row.has_marks.Goals as goal

pub returns : goal.returns
returns g c = sym (any-mask is_marked c.args.self.now _ (mark_mask _ _ _ _ _ _ c.self.invariant c.self.view_is))
