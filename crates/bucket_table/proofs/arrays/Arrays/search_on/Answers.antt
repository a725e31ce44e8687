use Rattle.bucket_table.proofs.Words.{◌%◌}
use Rattle.bucket_table.proofs.Map.KeySteps.{none_at_home, stands_found}
use Rattle.bucket_table.proofs.Map.LookUps.{null_is}
use Rattle.bucket_table.proofs.arrays.Arrays.search_on.Goals as goal

pub returns-then-not-is_valid-clause-absent : goal.returns-then-not-is_valid-clause-absent
returns-then-not-is_valid-clause-absent g c =
    none_at_home (g.P.KeyProbe.matches c.args.probe.now) c.args.self.now c.args.side c.array_of-array.result.now
    c.bucket.result.now c.args.hash c.bucket_index-index.result
    c.array_of-array.ensures c.bucket.ensures c.bucket_index-index.ensures
    (c.get_entry_ptr_by-at.ensures.absent (null_is _ _ c.is_valid.ensures.1 c.if-not-is_valid.true))

pub returns-clause-found : goal.returns-clause-found
returns-clause-found g c =
    stands_found (g.P.KeyProbe.matches c.args.probe.now) c.args.self.now c.args.side c.array_of-array.result.now
    c.bucket.result.now (c.args.hash % 256) c.bucket_index-index.result _
    c.array_of-array.ensures c.bucket.ensures c.bucket_index-index.ensures.within
    (c.get_entry_ptr_by-at.ensures.found (c.is_valid.ensures.0 c.if-not-is_valid.false))
