use Rattle.bucket_table.specs.Map.MapState.{state_of}
use Rattle.bucket_table.proofs.Map.TakeSteps.{there_before}
use Rattle.bucket_table.proofs.hash_table.HashTable.reader_sync.Goals as goal

pub reader-requires : goal.reader-requires
reader-requires g c =
    c.requires.callable _ _ (there_before (λ own. g.K.PartialEq.eq own c.args.key.now) (state_of g.row.TYPE c.args.self.now)
    (state_of g.row.TYPE c.fetch_home.new.self) _ c.fetch_home.ensures.prepared.map (rw c.new.ensures.key at c.in-Some.ensures.found))

pub returns-in-Some-clause-found : goal.returns-in-Some-clause-found
returns-in-Some-clause-found g c =
    (c.in-Some.own, c.in-Some.value, rw c.new.ensures.key at c.in-Some.ensures.found, c.reader.ensures)
