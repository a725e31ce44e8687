use Rattle.bucket_slots.proofs.Words.{arith, ◌-◌}
use Rattle.std.proofs.lemmas.Nat.{and_le_r}
use Rattle.bucket_slots.proofs.Bitmaps.{clears_lowest}
use Rattle.bucket_slots.proofs.bucket.bits.without_lowest.Goals as goal

pub returns : goal.returns
returns c = record {
  bits = λ pos low. clears_lowest c.args.bits pos low;
  less = omega (arith, c.requires, and_le_r c.args.bits (c.args.bits - 1));
}
