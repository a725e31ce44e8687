use Rattle.bucket_table.proofs.Map.LookUps.{home_bucket-is}
use Rattle.bucket_table.proofs.arrays.lookup.peek_home.Goals as goal

pub returns : goal.returns
returns g c =
    let home = home_bucket-is c.args.array.now c.args.hash c.bucket_index.result c.bucket_index.ensures in record {
      pair = rw (← home) c.peek_by.ensures.pair;
      few = rw (← home) c.peek_by.ensures.few;
      fixed = c.peek_by.ensures.fixed;
    }
