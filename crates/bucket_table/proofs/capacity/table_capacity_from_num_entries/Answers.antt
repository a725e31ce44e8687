use Rattle.bucket_table.proofs.Words.{IsLeastPowerOfTwo, ℕ, min, rules, subst, ◌*◌, ◌/◌, ◌^◌, ◌≡◌}
use Rattle.bucket_slots.proofs.ArrayNumbers.{least_from_half}
use Rattle.bucket_table.proofs.capacity.table_capacity_from_num_entries.Goals as goal

pub returns : goal.returns
returns c =
    let found = c.next_power_of_two.ensures in
    let least = least_from_half _ c.next_power_of_two.result found.power found.lower_bound found.upper_bound in
    let cut : c.min.result ≡ min c.args.num_entries (2 ^ 62) = search rules in (
      c.next_power_of_two.result,
      subst (λ (n : ℕ). IsLeastPowerOfTwo (n / 4 * 5) c.next_power_of_two.result) cut least,
      search rules,
    )
