use Rattle.bucket_slots.proofs.Words.{ap, pairs_in, refl, sym}
use Rattle.bucket_slots.specs.ArrayView.{bucket_at}
use Rattle.bucket_slots.proofs.CallingEach.{calls_same}
use Rattle.bucket_slots.proofs.OwnWalks.{no_pairs}
use Rattle.bucket_slots.proofs.bucket_array.BucketArray.for_each_in.Goals as goal

pub returns-in_default-clause-calls : goal.returns-in_default-clause-calls
returns-in_default-clause-calls g c =
    calls_same _ c.args.f.now c.for_each.new.f _ _ (ap pairs_in c.bucket.ensures) c.for_each.ensures.calls

pub returns-then-live-ne0-clause-calls : goal.returns-then-live-ne0-clause-calls
returns-then-live-ne0-clause-calls g c =
    calls_same _ c.args.f.now c.for_each_own.new.f _ _ (ap pairs_in c.bucket-then-live-ne0.ensures)
    c.for_each_own.ensures.calls

pub returns-else-live-ne0-clause-calls : goal.returns-else-live-ne0-clause-calls
returns-else-live-ne0-clause-calls g c =
    let none = no_pairs (bucket_at c.args.self.now c.args.index) _ c.in-Some.ensures c.if-live-ne0.false in
    calls_same _ c.args.f.now c.args.f.now _ _ (sym none) refl
