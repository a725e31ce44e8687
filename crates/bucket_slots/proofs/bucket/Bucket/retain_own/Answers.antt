use Rattle.bucket_slots.proofs.Words.{refl}
use Rattle.bucket_slots.proofs.AskingSlots.{bucket_asked}
use Rattle.bucket_slots.proofs.bucket.Bucket.retain_own.Goals as goal

pub invariant_of-self : goal.invariant_of-self
invariant_of-self g c = (
  c.self.invariant.0,
  bucket_asked (goal.F-step g) g.row.TYPE _ c.self.inside.chained c.retain.new.self c.args.keep.now c.retain.new.keep c.requires.not_cache
      c.self.invariant.1 c.retain.ensures.asked,
)

pub returns-clause-asked : goal.returns-clause-asked
returns-clause-asked g c = rw (← c.self.view_is) (record { own = c.retain.new.self; asked = c.retain.ensures.asked; new_is = refl })
