use Rattle.bucket_slots.proofs.Words.{ap, sym, ◌∙◌}
use Rattle.bucket_slots.proofs.BucketRecency.{IsBucket-unlisted}
use Rattle.bucket_slots.proofs.bucket.Bucket.take_lru.Goals as goal

pub invariant_of-self : goal.invariant_of-self
invariant_of-self g c = (
  c.take_order-taken.ensures.tail,
  IsBucket-unlisted g.row.TYPE _ c.self.inside.chained _ c.self.invariant.1 c.take_order-taken.ensures.emptied,
)

pub returns-clause-not_kept : goal.returns-clause-not_kept
returns-clause-not_kept g c = λ off. ap (λ s. s.listed) (sym c.self.view_is) ∙ g.met.L.LruList.empty _ _ off c.self.invariant.0
