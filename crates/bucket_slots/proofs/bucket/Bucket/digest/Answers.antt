use Rattle.bucket_slots.proofs.bucket.Bucket.digest.Goals as goal

pub returns-then-is_empty : goal.returns-then-is_empty
returns-then-is_empty g c = λ known. rw (← c.self.view_is) (record {
  mask = c.live.ensures.mask;
  bytes = c.bytes.ensures.bytes;
  bytes_long = c.bytes.ensures.long;
  own_long = c.self.invariant.1.own_long;
  chainless = c.is_empty.ensures c.if-is_empty.true;
})
