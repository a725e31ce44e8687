use Rattle.std.proofs.Common.{[], ◌∷◌}
use Rattle.std.proofs.lemmas.List.{map-append}
use Rattle.collections.proofs.Collecting.{none_put, one_more_put, put_then_stays, stays_then_put, upsert_puts}
use Rattle.collections.proofs.hash_map.collect.HashMapExtendTuple2RefRef.extend.Goals as goal

pub loop-pair-init : goal.loop-pair-init
loop-pair-init g c =
    let eq = g.K.PartialEq.eq in
    let stays = c.reserve_for.ensures.stays in
    stays_then_put eq c.args.self.now c.reserve_for.new.self c.reserve_for.new.self [] stays
    (none_put eq c.reserve_for.new.self stays.kept.unique)

pub loop-pair-preserved : goal.loop-pair-preserved
loop-pair-preserved g c =
    let eq = g.K.PartialEq.eq in
    let pair = c.in-Some.pair in
    rw (map-append _ c.loop-pair.yielded (pair ∷ []))
    (one_more_put eq c.args.self.now c.loop-pair.self c.upsert.new.self _ (pair.0.now, pair.1.now) c.loop-pair.invariant
    (upsert_puts eq c.loop-pair.self c.upsert.new.self pair.0.now pair.1.now c.in-Ok._earlier c.in-Ok.ensures.map))

pub returns-in-Err : goal.returns-in-Err
returns-in-Err g c =
    let inv = c.loop-pair.invariant in
    let stays = c.in-Err.ensures.map.2 in
    record {
      ran = (
        c.into_iter-pairs.result,
        c.loop-pair.yielded,
        c.into_iter-pairs.ensures.into_iter_gives,
        put_then_stays g.K.PartialEq.eq c.args.self.now c.loop-pair.self c.upsert.new.self _ inv stays,
        (_, c.loop-pair.yielded_by),
      );
    }
