use Rattle.bucket_table.proofs.Words.{refl}
use Rattle.bucket_table.specs.Map.MapState.{state_of}
use Rattle.bucket_table.proofs.Map.Inserting.{unfound}
use Rattle.bucket_table.proofs.Map.Putting.{found_put, refused_put, then_put}
use Rattle.bucket_table.proofs.hash_table.HashTable.put_hashed.Goals as goal

pub returns-in_default-clause-map : goal.returns-in_default-clause-map
returns-in_default-clause-map g c =
    unfound g.K.PartialEq.eq c.args.key c.args.value (state_of g.row.TYPE c.args.self.now) (state_of g.row.TYPE c.find.new.self)
    c.not_inserted.result c.in_default.ensures.prepared.map c.not_inserted.ensures

pub returns-in_default-clause-arrays : goal.returns-in_default-clause-arrays
returns-in_default-clause-arrays g c =
    refused_put g.row.TYPE _ g.L.LruList.KEEPS (c.args.key, c.args.value) c.args.self.now c.find.new.self c.not_inserted.result
    c.in_default.ensures

pub returns-clause-map : goal.returns-clause-map
returns-clause-map g c =
    then_put g.K.PartialEq.eq c.args.key c.args.value (state_of g.row.TYPE c.args.self.now) (state_of g.row.TYPE c.find.new.self) _
    c.put_at.result c.in-Ok.ensures.map c.put_at.ensures.map

pub returns-clause-arrays : goal.returns-clause-arrays
returns-clause-arrays g c =
    let (left, put, is) = c.put_at.ensures.bucket in
    found_put g.K.PartialEq.eq g.row.TYPE c.args.hash c.args.hash g.L.LruList.KEEPS
    c.args.key c.args.value c.args.self.now c.find.new.self c.put_at.new.self c.in-Ok.side c.in-Ok.index c.put_at.result left
    refl c.in-Ok.ensures put is
