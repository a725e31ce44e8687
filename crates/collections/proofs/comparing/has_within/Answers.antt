use Rattle.std.proofs.Common.{◌∙◌, Some, rules}
use Rattle.std.specs.Option.{option_eq}
use Rattle.std.proofs.lemmas.Iterator.Consumers.{YieldsList-from_first}
use Rattle.std.proofs.lemmas.Iterator.Search.{all_from_yields_List}
use Rattle.bucket_table.specs.Views.ArraysView.{pairs_of}
use Rattle.collections.specs.Maps.{get, map_of}
use Rattle.collections.proofs.Equal.{asked_of_pairs}
use Rattle.collections.proofs.comparing.has_within.Goals as goal

pub returns : goal.returns
returns g c = all_from_yields_List
    (λ pair. option_eq g.V.PartialEq.eq (Some pair.1) (get g.K.PartialEq.eq (map_of c.args.other.now) pair.0)) _ _ _ c.all.ensures.ran
    (YieldsList-from_first (λ pair. (pair.0.now, pair.1.now)) (λ left. left) (pairs_of c.args.own.now.arrays) c.pairs.ensures)
    (λ x b q k. search (rules, k.met))
    ∙ asked_of_pairs g.K.PartialEq.eq g.met.K.Eq.laws g.V.PartialEq.eq (map_of c.args.own.now) (map_of c.args.other.now)
    c.fact_sound.ensures.one_map.distinct
