use Rattle.std.proofs.Common.{◌≡◌, ◌∙◌, ap, subst, sym}
use Rattle.std.specs.Prelude.{◌^◌, min}
use Rattle.collections.proofs.Cloning.{IsCloning, cloned, none_cloned, one_more_cloned, some_left}
use Rattle.collections.proofs.hash_map.HashMap.clone_pairs.Goals as goal

pub loop-pair-init : goal.loop-pair-init
loop-pair-init g c =
    let own = c.args.self.now in
    let first = c.with_room-copy in
    subst (λ left. IsCloning g.K.PartialEq.eq g.K.Clone.is_clone g.V.Clone.is_clone own first.result first.result left)
    (sym c.iter-pairs.ensures.rest)
    (none_cloned g.K.PartialEq.eq g.K.Clone.is_clone g.V.Clone.is_clone own first.result first.ensures.empty)

pub loop-pair-preserved : goal.loop-pair-preserved
loop-pair-preserved g c =
    let pair = c.in-Some.pair in
    let put = c.in_ok-put_clone.ensures in
    one_more_cloned g.K.PartialEq.eq g.K.Clone.is_clone g.V.Clone.is_clone c.args.self.now c.with_room-copy.result c.loop-pair.copy
    c.put_clone.new.self c.loop-pair.pairs c.next.new.self (pair.0.now, pair.1.now) put.pair c.loop-pair.invariant c.in-Some.ensures.steps
    put.clone put.puts

pub returns-clause-copy : goal.returns-clause-copy
returns-clause-copy g c =
    let own = c.args.self.now in
    let made = c.with_room-copy in
    let minimum : made.result.minimum ≡ min own.minimum (2 ^ 63) =
    rw (← c.self.view_is) (made.ensures.minimum ∙ ap (λ m. min m (2 ^ 63)) c.minimum_capacity-minimum.ensures) in
    cloned g.K.PartialEq.eq g.K.Clone.is_clone g.V.Clone.is_clone g.met.K.Eq.laws g.H.Clone.is_clone own made.result c.loop-pair.copy
    c.loop-pair.pairs c.args.hasher c.loop-pair.invariant c.in_default.ensures.steps.0
    c.iter-pairs.ensures.unique made.ensures.empty c.requires made.ensures.hasher minimum made.ensures.maximum

pub returns-in_err-put_clone-clause-succeeds : goal.returns-in_err-put_clone-clause-succeeds
returns-in_err-put_clone-clause-succeeds g c =
    let pair = c.in-Some.pair in
    λ empty. absurd (some_left g.K.PartialEq.eq g.K.Clone.is_clone g.V.Clone.is_clone c.args.self.now c.with_room-copy.result
    c.loop-pair.copy c.loop-pair.pairs c.next.new.self (pair.0.now, pair.1.now) c.loop-pair.invariant c.in-Some.ensures.steps empty)
