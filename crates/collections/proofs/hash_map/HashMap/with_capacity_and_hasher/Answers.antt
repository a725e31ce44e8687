use Rattle.std.proofs.Common.{arith}
use Rattle.collections.proofs.hash_map.HashMap.with_capacity_and_hasher.Goals as goal

pub returns-clause-minimum : goal.returns-clause-minimum
returns-clause-minimum g c =
    let is = c.minimum_for.ensures in
    rw c.with_minimum.ensures.minimum (record {
      none = λ none. omega (arith, is.none none);
      some = λ some slots fits. omega (arith, is.some some slots fits, fits.holds.power.at_most);
      beyond = λ many. omega (arith, is.beyond many);
    })
