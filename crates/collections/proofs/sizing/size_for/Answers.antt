use Rattle.std.proofs.Common.{max, min, rules, subst, ℕ, ◌^◌, ◌≡◌}
use Rattle.bucket_slots.proofs.CallerLemmas.{least_from_half}
use Rattle.bucket_slots.specs.Sizing.{IsLeastPowerOfTwo}
use Rattle.collections.proofs.sizing.size_for.Goals as goal

pub returns-clause-least : goal.returns-clause-least
returns-clause-least c =
    let e = c.next_power_of_two.ensures in
    let least = least_from_half _ c.next_power_of_two.result e.power e.lower_bound e.upper_bound in
    let is : c.min.result ≡ min (max c.args.slots 64) (2 ^ 63) = search rules in
    subst (λ (n : ℕ). IsLeastPowerOfTwo n c.next_power_of_two.result) is least
