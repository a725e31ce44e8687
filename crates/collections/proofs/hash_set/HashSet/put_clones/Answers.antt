use Rattle.std.proofs.iter.Next as it
use Rattle.collections.proofs.SetClones.{no_clone_put, one_more_clone}
use Rattle.collections.proofs.hash_set.HashSet.put_clones.Goals as goal

pub loop-key-init : goal.loop-key-init
loop-key-init g c =
    it.begun c.requires.can c.requires.finite
    (no_clone_put g.K.PartialEq.eq g.met.K.Eq.laws g.K.Clone.is_clone c.args.self.now (rw (← c.self.view_is) c.fact_sound.ensures))

pub loop-key-preserved : goal.loop-key-preserved
loop-key-preserved g c =
    let eq = g.K.PartialEq.eq in
    let inv = c.loop-key.invariant in
    let key = c.in-Some.key in
    it.again inv key c.in-Some.is (c.next.ensures.steps, c.next.ensures.goes)
    (one_more_clone eq g.met.K.Eq.laws g.K.Clone.is_clone c.args.self.now c.loop-key.self c.put_clone.new.self inv.seen key inv.holds
    c.in_ok-put_clone.ensures)
