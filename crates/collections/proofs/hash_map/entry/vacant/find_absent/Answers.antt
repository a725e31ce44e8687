use Rattle.std.proofs.Common.{ap, ◌∙◌}
use Rattle.collections.proofs.Adding.{found_absent, found_hasher}
use Rattle.collections.proofs.hash_map.entry.vacant.find_absent.Goals as goal

pub returns-clause-hashed : goal.returns-clause-hashed
returns-clause-hashed g c =
    c.requires.hashed
    ∙ ap (λ hasher. g.H.KeyHash.hash_of hasher c.args.key.now)
    (found_hasher c.args.hash c.args.table.now c.find.new.self c.find.result c.find.ensures)

pub returns-clause-absent : goal.returns-clause-absent
returns-clause-absent g c =
    found_absent g.K.PartialEq.eq g.met.K.Eq.laws c.args.key.now c.args.hash c.args.table.now c.find.new.self c.find.result
    c.requires.absent c.find.ensures
