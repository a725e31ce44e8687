use Rattle.std.proofs.Common.{◌||◌}
use Rattle.collections.proofs.SetClones.{any_of_either, joined}
use Rattle.collections.proofs.hash_set.operators.RefHashSetBitOr.bitor.Goals as goal

pub returns : goal.returns
returns g c =
    let eq = g.K.PartialEq.eq in
    let laws = g.met.K.Eq.laws in
    let IsKey = g.K.Clone.is_clone in
    let own = c.args.self.now in
    let other = c.args.other.now in
    joined eq laws IsKey g.H.Clone.is_clone own other _ (λ left. left) _ _ (λ a b. a || b) c.union-keys.ensures
    (λ q. any_of_either eq laws IsKey q own other) c.clones_of.ensures.clones c.clones_of.ensures.hasher
