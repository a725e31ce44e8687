use Rattle.bucket_table.proofs.Words.{arith, length}
use Rattle.bucket_table.proofs.Resize.Renewing.{full_length}
use Rattle.bucket_table.proofs.arrays.Arrays.fresh.Goals as goal

pub returns-clause-full : goal.returns-clause-full
returns-clause-full g c =
    let few = c.if-capacity.false in
    full_length c.args.capacity (length c.make_first_array.new.self.current) c.requires.power (omega (arith, few))
    c.in_ok-make_first_array.ensures.fresh.len
