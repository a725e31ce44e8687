use Rattle.std.proofs.Common.{max, min, rules, subst, ℕ, ◌^◌, ◌≡◌}
use Rattle.bucket_slots.proofs.CallerLemmas.{least_from_half}
use Rattle.bucket_slots.specs.Sizing.{IsLeastPowerOfTwo}
use Rattle.collections.proofs.hash_cache.HashCache.with_capacity.Goals as goal

pub returns-clause-maximum : goal.returns-clause-maximum
returns-clause-maximum g c =
    let power = c.next_power_of_two-greatest.result in
    let e = c.next_power_of_two-greatest.ensures in
    let least = least_from_half _ power e.power e.lower_bound e.upper_bound in
    let is : c.min.result ≡ min (max (max c.args.maximum c.args.minimum) 64) (2 ^ 63) = search rules in
    rw c.new.ensures.arrays (subst (λ (n : ℕ). IsLeastPowerOfTwo n power) is least)
