use Rattle.collections.proofs.hash_set.collect.HashSetExtend.extend.Goals as goal

pub returns-in-Ok : goal.returns-in-Ok
returns-in-Ok g c =
    let put = c.in-Ok.ensures in
    record { ran = (c.into_iter-keys.result, put.0, c.into_iter-keys.ensures.into_iter_gives, put.2, (_, put.1)) }

pub returns : goal.returns
returns g c =
    let put = c.in-Err.ensures in
    record { ran = (c.into_iter-keys.result, put.0, c.into_iter-keys.ensures.into_iter_gives, put.2, (put.1.0, put.1.1)) }
