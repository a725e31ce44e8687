use Rattle.bucket_table.proofs.Words.{Ok, ap, inr}
use Rattle.bucket_table.specs.Map.MapState.{state_of}
use Rattle.bucket_table.proofs.Scripts.CallSteps.{then_kept}
use Rattle.bucket_table.proofs.Resize.Splitting.{split_ready}
use Rattle.bucket_table.proofs.hash_table.HashTable.split_home.Goals as goal

pub returns-clause-ready : goal.returns-clause-ready
returns-clause-ready g c =
    let e = c.in-Ok-true.ensures in
    let splits = rw c.in-Ok-true.field-0-test at e.split in
    let long = e.long (ap Ok c.in-Ok-true.field-0-test) in
    let done = c.fetch_home.ensures.prepared in
    split_ready c.args.hash c.args.self.now.arrays c.try_split.new.self.arrays splits c.fetch_home.new.self.arrays long.0 long.1
    done.kept done.units done.home

pub returns-clause-map : goal.returns-clause-map
returns-clause-map g c =
    then_kept (state_of g.row.TYPE c.args.self.now) (state_of g.row.TYPE c.try_split.new.self)
    (state_of g.row.TYPE c.fetch_home.new.self) c.try_split.ensures.map c.fetch_home.ensures.prepared.map

pub returns-clause-split : goal.returns-clause-split
returns-clause-split g c = inr (
  c.try_split.new.self,
  rw c.in-Ok-true.field-0-test at c.in-Ok-true.ensures.split,
  c.try_split.ensures.map,
  c.fetch_home.ensures.prepared,
)
