use Rattle.collections.proofs.Hints.{bound_passing}
use Rattle.collections.proofs.hash_set.algebra.IntersectionIterator.size_hint.Goals as goal

pub returns-clause-upper : goal.returns-clause-upper
returns-clause-upper g c = bound_passing _ c.self.inside.keys _ c.self.view_is c.size_hint.result.1 c.size_hint.ensures.upper
