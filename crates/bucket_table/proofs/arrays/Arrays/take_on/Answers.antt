use Rattle.bucket_table.proofs.Words.{buckets_on, length-set, refl, rules, ◌%◌}
use Rattle.bucket_table.proofs.Map.KeySteps.{none_at_home, stands_found}
use Rattle.bucket_table.proofs.Map.LockedSteps.{put_there, shrinks_after}
use Rattle.bucket_table.proofs.Views.SideChanges.{buckets_on-arrays_with}
use Rattle.bucket_table.proofs.arrays.Arrays.take_on.Goals as goal

pub returns-in_default-clause-taken : goal.returns-in_default-clause-taken
returns-in_default-clause-taken g c =
    let home = rw c.array_of.ensures at c.bucket_index-index.ensures in
    let none = c.in_default.ensures.taken in (
      none.0,
      none_at_home (g.P.KeyProbe.matches c.args.probe.now) c.args.self.now c.args.side (buckets_on c.args.self.now c.args.side) _
          c.args.hash
          c.bucket_index-index.result refl refl home none.1,
    )

pub shrink_left-requires : goal.shrink_left-requires
shrink_left-requires g c =
    let within = (rw c.array_of.ensures at c.bucket_index-index.ensures).within in
    let taken = c.in-Some.ensures.taken in (
      search rules,
      (
        rw (taken.changed, buckets_on-arrays_with c.args.self.now c.args.side c.bucket_index-index.result _) (simp length-set within),
        rw (taken.changed, put_there c.args.self.now c.args.side c.bucket_index-index.result _ within) taken.left_is,
      ),
    )

pub returns-clause-taken : goal.returns-clause-taken
returns-clause-taken g c =
    let within = (rw c.array_of.ensures at c.bucket_index-index.ensures).within in
    let taken = c.in-Some.ensures.taken in
    let asked = rw taken.changed at c.shrink_left.ensures in
    record {
      index = c.bucket_index-index.result;
      at = taken.at;
      stands = stands_found (g.P.KeyProbe.matches c.args.probe.now) c.args.self.now c.args.side
          (buckets_on c.args.self.now c.args.side) _ (c.args.hash % 256) c.bucket_index-index.result _ refl refl within taken.found;
      taken = taken.taken;
      asked = shrinks_after c.args.pairs c.args.self.now c.args.side c.bucket_index-index.result _ c.shrink_left.new.self within
          asked.asked;
      kept = asked.kept;
      placed = asked.placed;
    }
