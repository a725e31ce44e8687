use Rattle.std.proofs.Common.{Ok, arith, refl, true}
use Rattle.bucket_table.proofs.Rehash.Ending.{ended_entries, ended_gone}
use Rattle.bucket_table.proofs.arrays.Arrays.end_incremental_rehash.Goals as goal

pub returns-in-Ok-true-clause-rehash : goal.returns-in-Ok-true-clause-rehash
returns-in-Ok-true-clause-rehash g c = rw c.none.ensures (
    ended_gone c.args.self.now _ _ c.args.ticket _ _ _ c.end.new.self.tickets _ c.args.success c.in-Ok-true.field-0
    c.is_unit_killed-is_done.result
    c.in-Ok-true.field-0-test c.is_unit_killed-is_done.ensures c.in-Ok-true.ensures.tickets c.self.view_is refl c.requires)

pub returns-in-Ok-true-clause-same_pairs : goal.returns-in-Ok-true-clause-same_pairs
returns-in-Ok-true-clause-same_pairs g c = rw c.none.ensures (
    ended_entries c.args.self.now _ c.args.ticket c.args.success (Ok true) c.requires (
    ended_gone c.args.self.now _ _ c.args.ticket _ _ _ c.end.new.self.tickets _ c.args.success c.in-Ok-true.field-0
    c.is_unit_killed-is_done.result
    c.in-Ok-true.field-0-test c.is_unit_killed-is_done.ensures c.in-Ok-true.ensures.tickets c.self.view_is refl c.requires))

pub invariant_of-self : goal.invariant_of-self
invariant_of-self g c = rw c.none.ensures (record {
  maximum_power = c.self.invariant.maximum_power;
  bounded = c.self.invariant.bounded;
  within = c.self.invariant.within;
  long = c.self.invariant.long;
  beside = λ some. absurd (omega arith);
  tickets_len = refl;
})
