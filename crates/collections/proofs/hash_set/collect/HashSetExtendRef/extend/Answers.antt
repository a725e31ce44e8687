use Rattle.std.proofs.Common.{[], ◌∷◌}
use Rattle.std.proofs.lemmas.List.{map-append}
use Rattle.collections.proofs.SetCollecting.{added_put, keys_then_stay, no_key_put, one_more_key, stays_then_keys}
use Rattle.collections.proofs.hash_set.collect.HashSetExtendRef.extend.Goals as goal

pub loop-key-init : goal.loop-key-init
loop-key-init g c =
    let eq = g.K.PartialEq.eq in
    let laws = g.met.K.Eq.laws in
    let stays = c.reserve_for.ensures.stays in
    stays_then_keys eq laws c.args.self.now c.reserve_for.new.self c.reserve_for.new.self [] stays
    (no_key_put eq laws c.reserve_for.new.self stays.kept.unique)

pub loop-key-preserved : goal.loop-key-preserved
loop-key-preserved g c =
    let eq = g.K.PartialEq.eq in
    let laws = g.met.K.Eq.laws in
    let key = c.in-Some.key in
    rw (map-append _ c.loop-key.yielded (key ∷ []))
    (one_more_key eq laws c.args.self.now c.loop-key.self c.insert.new.self _ key.now c.loop-key.invariant
    (added_put eq laws c.loop-key.self c.insert.new.self key.now c.in-Ok._added c.in-Ok.ensures.set))

pub returns-in-Err : goal.returns-in-Err
returns-in-Err g c =
    let inv = c.loop-key.invariant in
    record {
      ran = (
        c.into_iter-keys.result,
        c.loop-key.yielded,
        c.into_iter-keys.ensures.into_iter_gives,
        keys_then_stay g.K.PartialEq.eq g.met.K.Eq.laws c.args.self.now c.loop-key.self c.insert.new.self _ inv c.in-Err.ensures.set.2,
        (_, c.loop-key.yielded_by),
      );
    }
