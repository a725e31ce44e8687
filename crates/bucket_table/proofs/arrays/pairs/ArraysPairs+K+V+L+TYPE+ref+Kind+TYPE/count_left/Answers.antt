use Rattle.bucket_table.proofs.Words.{◌+◌, ◌≡◌, ap, arith, length, refl, suc}
use Rattle.bucket_table.proofs.arrays.pairs.ArraysPairs+K+V+L+TYPE+ref+Kind+TYPE.count_left.Goals as goal

pub pairs-init : goal.pairs-init
pairs-init g c = (0, omega (arith, ap length c.again-rest.ensures), refl)

pub pairs-preserved : goal.pairs-preserved
pairs-preserved g c =
    let inv = c.pairs.invariant in
    let less : length c.pairs.rest ≡ suc (length c.next.new.self) = ap length c.in-Some.ensures.steps in
    let more = c.saturating_add-count.ensures in
    (inv.0 + 1, omega (arith, inv.1, less), omega (arith, inv.2, more))
