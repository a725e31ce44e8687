use Rattle.std.proofs.Common.{arith}
use Rattle.bhtable.proofs.PowersOfTwo.{next_is_same, at_most_half, refused}
use Rattle.bhtable.proofs.request.limits_of.Goals.{then-maximum-lt64-via-then-maximum-lt64}
use Rattle.bhtable.proofs.request.limits_of.Goals.{then-maximum-lt64-via-else-maximum-lt64+then-maximum-gt-MAXIMUM_CAPACITY_LIMIT}
use Rattle.bhtable.proofs.request.limits_of.Goals.{
  then-maximum-lt64-via-else-maximum-lt64+else-maximum-gt-MAXIMUM_CAPACITY_LIMIT+then-minimum-maximum,
}
use Rattle.bhtable.proofs.request.limits_of.Goals as goal

pub returns-then-maximum-lt64-clause-accepted : goal.returns-then-maximum-lt64-clause-accepted
returns-then-maximum-lt64-clause-accepted c = refused (λ limits.
    elim c.then-maximum-lt64.branch [
      | then-maximum-lt64-via-then-maximum-lt64 w ↦ omega (arith, limits.1, w.if-maximum-lt64.true)
      | then-maximum-lt64-via-else-maximum-lt64+then-maximum-gt-MAXIMUM_CAPACITY_LIMIT w ↦
          omega (arith, at_most_half _ limits.0 c.ranges.maximum.fits, w.if-maximum-gt-MAXIMUM_CAPACITY_LIMIT.true)
      | then-maximum-lt64-via-else-maximum-lt64+else-maximum-gt-MAXIMUM_CAPACITY_LIMIT+then-minimum-maximum w ↦
          omega (arith, limits.2, w.if-minimum-maximum.true)
    ])

pub returns-then-next_power_of_two-maximum-clause-accepted : goal.returns-then-next_power_of_two-maximum-clause-accepted
returns-then-next_power_of_two-maximum-clause-accepted c =
    let n = c.next_power_of_two in
    refused (λ limits. c.if-next_power_of_two-maximum.true
    (next_is_same _ _ limits.0 n.ensures.power n.ensures.lower_bound n.ensures.upper_bound))
