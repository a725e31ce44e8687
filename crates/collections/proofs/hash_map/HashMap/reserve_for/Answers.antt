use Rattle.std.proofs.Common.{arith, inr, ◌≤◌}
use Rattle.collections.proofs.hash_map.HashMap.reserve_for.Goals as goal
use Rattle.collections.proofs.hash_map.HashMap.reserve_for.Goals.{then-is_empty, else-is_empty}

pub returns : goal.returns
returns g c =
    let within : c.if-is_empty.expected ≤ c.args.coming = elim c.if-is_empty.branch [
      | then-is_empty w ↦ omega (arith, w.expected-is)
      | else-is_empty w ↦ omega (arith, w.expected-is, w.div_ceil-expected.ensures, c.if-coming-eq0.false)
    ] in
    let made = c.try_reserve.ensures in
    record {
      stays = made.stays;
      no_fewer = made.no_fewer;
      more = c.if-is_empty.expected;
      within = within;
      made = inr (c.try_reserve.result, made);
    }
