use Rattle.bucket_table.specs.declared.arrays.side.Side.TheVariants.{Current}
use Rattle.bucket_table.proofs.Map.Inserting.{found_then}
use Rattle.bucket_table.proofs.hash_table.HashTable.insert_pair.Goals as goal

pub returns-in-Some-clause-arrays : goal.returns-in-Some-clause-arrays
returns-in-Some-clause-arrays g c =
    found_then g.K.PartialEq.eq g.row.TYPE c.hash-hash.result (g.H.KeyHash.hash_of c.args.self.now.hasher c.args.key)
    (g.G.Generation.keeps c.args.generation.now) c.args.key c.args.value c.args.self.now c.args.self.now c.insert_at.new.self
    Current c.in-Some.index c.insert_at.result c.hash-hash.ensures (c.in-Some.ensures.found c.args.rule) c.insert_at.ensures.answer
    c.insert_at.ensures.put c.insert_at.ensures.unchanged

pub returns-in-Some-short_home-clause-arrays : goal.returns-in-Some-short_home-clause-arrays
returns-in-Some-short_home-clause-arrays g c =
    let done = c.insert_at-in-Some-short_home in
    found_then g.K.PartialEq.eq g.row.TYPE c.hash-hash.result (g.H.KeyHash.hash_of c.args.self.now.hasher c.args.key)
    (g.G.Generation.keeps c.args.generation.now) c.args.key c.args.value c.args.self.now c.args.self.now done.new.self
    Current c.in-Some-short_home.index done.result c.hash-hash.ensures (c.in-Some-short_home.ensures.found c.args.rule)
    done.ensures.answer done.ensures.put done.ensures.unchanged
