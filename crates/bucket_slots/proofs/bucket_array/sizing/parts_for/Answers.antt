use Rattle.bucket_slots.proofs.Words.{rules, subst, sym, ℕ, ◌*◌, ◌/◌, ◌^◌, ◌≡◌, ◌≤◌}
use Rattle.bucket_slots.proofs.PowersOfTwo.{log_is, power_divides}
use Rattle.bucket_slots.proofs.bucket_array.sizing.parts_for.Goals as goal

pub returns-clause-whole : goal.returns-clause-whole
returns-clause-whole c =
    let log = c.ilog2-bits.ensures in
    let bits : ℕ = c.min-part_bits.result in
    let few : bits ≤ c.ilog2-bits.result = search rules in
    let is = log_is c.args.len c.ilog2-bits.result c.requires.power log.power_le log.next_power_gt in
    subst (λ (n : ℕ). n ≡ n / 2 ^ bits * 2 ^ bits) (sym is) (power_divides bits c.ilog2-bits.result few)
