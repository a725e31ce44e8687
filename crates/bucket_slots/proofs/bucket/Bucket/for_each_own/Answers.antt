use Rattle.bucket_slots.proofs.Words.{ap}
use Rattle.bucket_slots.proofs.CallingEach.{own_alone}
use Rattle.bucket_slots.proofs.bucket.Bucket.for_each_own.Goals as goal

pub returns-clause-calls : goal.returns-clause-calls
returns-clause-calls g c =
    own_alone _ c.args.f.now c.for_each_of.new.f c.args.self.now _ (ap (λ b. b.own) c.self.view_is)
    c.requires.own.chainless
    c.for_each_of.ensures.calls
