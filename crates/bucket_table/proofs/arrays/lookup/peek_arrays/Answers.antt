use Rattle.bucket_table.proofs.Words.{refl}
use Rattle.bucket_table.proofs.Map.LookUps.{second_home}
use Rattle.bucket_table.proofs.arrays.lookup.peek_arrays.Goals as goal

pub returns-in-None-clause-first : goal.returns-in-None-clause-first
returns-in-None-clause-first g c =
    second_home (g.P.KeyProbe.matches c.args.probe.now) c.args.hash _ c.args.old c.in-Some.array c.args.current.now
    c.peek_home-in-None.result
    c.in-Some.is c.peek_home-2.ensures.fixed c.in-None.ensures.pair c.peek_home-in-None.ensures.pair

pub returns-in_default-clause-first : goal.returns-in_default-clause-first
returns-in_default-clause-first g c = rw c.in_default.is c.peek_home.ensures.pair

pub returns-in-Some-peek_home-clause-first : goal.returns-in-Some-peek_home-clause-first
returns-in-Some-peek_home-clause-first g c = rw c.in-Some.is (rw (← c.in-Some-peek_home.ensures.pair) refl)
