use Rattle.collections.proofs.homes.fact_home.Goals as goal

pub returns : goal.returns
returns g c = rw c.in-Some.is (record {
  index = c.bucket_index-index.result;
  home = c.bucket_index-index.ensures;
  long = c.fact_room.ensures.length;
  laws = rw c.bucket.ensures at c.fact_sound.ensures;
})
