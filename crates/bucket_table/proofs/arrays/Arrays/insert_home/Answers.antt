use Rattle.bucket_table.proofs.Words.{◌%◌}
use Rattle.bucket_table.proofs.Map.Inserting.{inserted_in}
use Rattle.bucket_table.proofs.arrays.Arrays.insert_home.Goals as goal

pub returns-in-Current : goal.returns-in-Current
returns-in-Current g c =
    let done = c.insert_absent.ensures in
    let put = inserted_in g.K.PartialEq.eq c.args.pair.0 c.args.pair.1 (c.args.hash % 256) g.row.TYPE
    (g.G.Generation.keeps c.args.generation.now) c.current_in-array.result.now c.insert_absent.new.self c.args.index
    c.insert_absent.result done.answer done.put done.unchanged in
    let (left, answer, filled, same, is) = rw c.current_in-array.ensures.array at put in
    rw (c.in-Current.is, ← c.self.view_is) (left, answer, filled, same, cc)

pub returns-in-Old : goal.returns-in-Old
returns-in-Old g c =
    let done = c.insert_absent-in-Old.ensures in
    let put = inserted_in g.K.PartialEq.eq c.args.pair.0 c.args.pair.1 (c.args.hash % 256) g.row.TYPE
    (g.G.Generation.keeps c.args.generation.now) c.array_mut-array.result.now c.insert_absent-in-Old.new.self c.args.index
    c.insert_absent-in-Old.result done.answer done.put done.unchanged in
    let (left, answer, filled, same, is) = rw c.array_mut-array.ensures.array at put in
    rw (c.in-Old.is, ← c.self.view_is) (left, answer, filled, same, cc)
