use Rattle.std.proofs.Common.{max, rules, subst, ℕ, ◌*◌, ◌+◌, ◌/◌, ◌^◌, ◌≡◌}
use Rattle.bucket_slots.proofs.CallerLemmas.{least_from_half}
use Rattle.bucket_slots.specs.Sizing.{IsLeastPowerOfTwo}
use Rattle.collections.proofs.Capacity.{not_full, slots_found}
use Rattle.collections.proofs.sizing.slots_for.Goals as goal

pub returns : goal.returns
returns c =
    let power = c.next_power_of_two.result in
    let found = c.next_power_of_two.ensures in
    let least = least_from_half _ power found.power found.lower_bound found.upper_bound in
    let is : c.max.result ≡ max ((c.args.pairs + 12) / 13 * 16) 64 = search rules in
    slots_found c.args.pairs power (not_full (2 ^ 62) c.args.pairs c.is_too_full.result c.is_too_full.ensures c.if-is_too_full.false)
    (subst (λ (n : ℕ). IsLeastPowerOfTwo n power) is least)
