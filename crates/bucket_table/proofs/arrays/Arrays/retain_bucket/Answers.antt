use Rattle.bucket_table.proofs.Walking.Leaving.{gone_changed}
use Rattle.bucket_table.proofs.arrays.Arrays.retain_bucket.Goals as goal

pub returns : goal.returns
returns g c =
    let retained = rw c.bucket_of_mut.ensures.bucket at c.retain_in-gone.ensures.retained in
    let slots = rw c.bucket_of_mut.ensures.bucket at c.retain_in-gone.ensures.left in
    record {
      retained = record {
        left = c.retain_in-gone.new.bucket;
        retains = retained;
        slots = slots;
        marks = (gone_changed g.row.TYPE _ slots.0 _ _ slots.1).1;
        new_is = c.refresh_on.ensures;
      };
    }
