use Rattle.std.proofs.Common.{ap, length, length-append, sym, ◌∙◌}
use Rattle.collections.proofs.Hints.{bound_sum}
use Rattle.collections.proofs.hash_set.algebra.UnionIterator.size_hint.Goals as goal

pub returns-clause-upper : goal.returns-clause-upper
returns-clause-upper g c =
    let both = c.self.inside in
    bound_sum _ (length both.own) (length both.others) (ap length (sym c.self.view_is) ∙ length-append both.own both.others) _ _ _
    c.size_hint-least.ensures.upper c.size_hint.ensures.upper c.sum_of_bounds.ensures
