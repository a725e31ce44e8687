use Rattle.bucket_table.proofs.Words.{refl, rules}
use Rattle.bucket_table.specs.Map.MapState.{state_of}
use Rattle.bucket_table.proofs.Scripts.CallSteps.{none_before}
use Rattle.bucket_table.proofs.hash_table.HashTable.optional_writer_sync.Goals as goal

pub returns-in-Err : goal.returns-in-Err
returns-in-Err g c =
    let e = c.in-Err.ensures in (
      (refl, λ x. tt, (e.prepared, λ memory. e.wanted (search (rules, memory)))),
      record {
        rests = tt;
        same_table = tt;
        prepared = tt;
        home = tt;
        side = tt;
        missing = e.missing;
        empty = λ same. none_before (state_of g.row.TYPE c.args.self.now) (state_of g.row.TYPE c.fetch_home.new.self) e.prepared.map
            (e.empty cc);
      },
    )
