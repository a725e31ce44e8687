use Rattle.std.proofs.Common.{not, rules}
use Rattle.std.proofs.lemmas.Iterator.Consumers.{YieldsList-from_first}
use Rattle.std.proofs.lemmas.Iterator.Search.{all_from_yields_List}
use Rattle.std.specs.Map.{keys_of}
use Rattle.collections.specs.Maps.{contains}
use Rattle.collections.proofs.hash_set.HashSet.is_disjoint.Goals as goal

pub returns : goal.returns
returns g c = all_from_yields_List (λ key. not (contains g.K.PartialEq.eq c.args.other.now key)) _ _ _ c.all.ensures.ran
    (YieldsList-from_first (λ key. key.now) (λ left. left) (keys_of c.args.self.now.entries) c.iter.ensures.rest)
    (λ x b q k. search rules)
