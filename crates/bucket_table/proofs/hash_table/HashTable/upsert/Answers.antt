use Rattle.bucket_table.specs.declared.arrays.side.Side.TheVariants.{Current}
use Rattle.bucket_table.proofs.Map.Upserting.{found_upserted}
use Rattle.bucket_table.proofs.hash_table.HashTable.upsert.Goals as goal

pub returns-in-Some-clause-arrays : goal.returns-in-Some-clause-arrays
returns-in-Some-clause-arrays g c =
    let (left, put, is) = c.upsert_at.ensures.bucket in
    found_upserted g.K.PartialEq.eq g.row.TYPE c.hash-hash.result (g.H.KeyHash.hash_of c.args.self.now.hasher c.args.key)
    (g.G.Generation.keeps c.args.generation.now) c.args.key c.args.value c.args.self.now c.args.self.now c.upsert_at.new.self
    Current c.in-Some.index c.upsert_at.result left c.hash-hash.ensures (c.in-Some.ensures.found c.args.rule) put is

pub returns-in-Some-short_home-clause-arrays : goal.returns-in-Some-short_home-clause-arrays
returns-in-Some-short_home-clause-arrays g c =
    let done = c.upsert_at-in-Some-short_home in
    let (left, put, is) = done.ensures.bucket in
    found_upserted g.K.PartialEq.eq g.row.TYPE c.hash-hash.result (g.H.KeyHash.hash_of c.args.self.now.hasher c.args.key)
    (g.G.Generation.keeps c.args.generation.now) c.args.key c.args.value c.args.self.now c.args.self.now done.new.self
    Current c.in-Some-short_home.index done.result left c.hash-hash.ensures (c.in-Some-short_home.ensures.found c.args.rule) put is
