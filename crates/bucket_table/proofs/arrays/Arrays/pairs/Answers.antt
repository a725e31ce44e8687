use Rattle.bucket_table.proofs.Walking.Row.{begins}
use Rattle.bucket_table.proofs.Words.{refl}
use Rattle.bucket_table.proofs.Map.Rests.{rest_counted}
use Rattle.bucket_table.proofs.arrays.Arrays.pairs.Goals as goal

pub returns : goal.returns
returns g c = begins c.args.self.now c.null.result c.null.ensures

pub invariant_of-result : goal.invariant_of-result
invariant_of-result g c = (
  λ some. absurd (some refl),
  rest_counted _ _ c.is_exact.result c.args.count c.is_exact.ensures c.requires
      (begins c.args.self.now c.null.result c.null.ensures),
)
