use Rattle.std.proofs.Common.{◌&&◌, not}
use Rattle.collections.proofs.SetClones.{any_outside, joined}
use Rattle.collections.proofs.hash_set.operators.RefHashSetSub.sub.Goals as goal

pub returns : goal.returns
returns g c =
    let eq = g.K.PartialEq.eq in
    let laws = g.met.K.Eq.laws in
    let IsKey = g.K.Clone.is_clone in
    let own = c.args.self.now in
    let other = c.args.other.now in
    joined eq laws IsKey g.H.Clone.is_clone own other _ (λ left. left) _ _ (λ a b. a && not b) c.difference-keys.ensures
    (λ q. any_outside eq laws IsKey q own other) c.clones_of.ensures.clones c.clones_of.ensures.hasher
