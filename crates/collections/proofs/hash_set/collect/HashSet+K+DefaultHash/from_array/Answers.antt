use Rattle.std.proofs.Common.{◌∙◌, List, subst}
use Rattle.std.proofs.IntoIterSteps.{All-taken}
use Rattle.std.proofs.lemmas.Result.{IfOk-weaker}
use Rattle.collections.specs.Collecting.{PutsKeys, empty_map}
use Rattle.collections.proofs.hash_set.collect.HashSet+K+DefaultHash.from_array.Goals as goal

pub returns-in-Ok : goal.returns-in-Ok
returns-in-Ok g c =
    let eq = g.K.PartialEq.eq in
    IfOk-weaker c.from_iter.result _ _ (λ set ran.
    let ended = ran.3.2 tt in
    subst (λ (l : List g.row.K.Denot). PutsKeys eq (empty_map set.hasher) l set)
    (All-taken ran.0 ran.1 (ended.0, (ran.3.0, ran.3.1, ended.1)) ∙ (ran.2.0 ∙ c.in-Ok.ensures.items)) ran.4)
    c.from_iter.ensures.ran
