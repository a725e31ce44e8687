use Rattle.collections.proofs.SetClones.{puts_into_new}
use Rattle.collections.proofs.hash_set.HashSet.clones_of.Goals as goal

pub returns-clause-clones : goal.returns-clause-clones
returns-clause-clones g c =
    puts_into_new g.K.PartialEq.eq g.met.K.Eq.laws g.K.Clone.is_clone g.I.Iterator.next_gives c.args.keys.now c.in_ok-made.made _
    c.put_clones.new.self
    c.in_ok-made.ensures.empty c.try_reserve.ensures.stays c.in_ok-put_clones.ensures
