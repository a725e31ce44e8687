use Rattle.bucket_table.proofs.arrays.Arrays.len_at.Goals as goal

pub returns : goal.returns
returns g c = rw c.bucket_of.ensures at c.len.ensures
