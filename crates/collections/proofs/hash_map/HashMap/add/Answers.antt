use Rattle.std.proofs.Common.{arith, ap, refl, true, ◌%◌, ◌∙◌}
use Rattle.bucket_slots.specs.Clearing.{slots_after_insertion}
use Rattle.bucket_table.proofs.CallerLemmas.{table_same}
use Rattle.bucket_table.specs.Map.Lending.{with_value}
use Rattle.collections.proofs.Adding.{added_lent, added_lent_grows, changed_there, full_grows, full_there, kept_stays, pair_named}
use Rattle.collections.proofs.Crowding.{found_full, none_found_room}
use Rattle.collections.proofs.Slots.{unfound_grows}
use Rattle.collections.proofs.hash_map.HashMap.add.Goals as goal

pub returns-in_default : goal.returns-in_default
returns-in_default g c =
    let kept = kept_stays g.K.PartialEq.eq g.met.K.Eq.laws 83 c.self.inside.table c.fact_sound.ensures.one_map.distinct
    c.find_absent.new.table
    c.in_default.ensures.found.prepared.map in
    let lacks = none_found_room 83 g.H.KeyHash.hash_of c.args.key _ c.self.inside.table c.find_absent.new.table
    c.find_absent.ensures.hashed c.fact_sound-in_default.ensures.one_map.placed c.fact_homes.ensures.current c.fact_homes.ensures.old
    c.in_default.ensures.found in
    let grows = unfound_grows g.H.KeyHash.hash_of c.args.key 83 _ c.self.inside.table c.find_absent.new.table
    c.in_default.ensures.found.prepared in
    rw (← c.self.view_is) (
      (refl, λ value is. absurd cc, (kept, lacks, grows)),
      record
          { writes_back = tt; value = tt; pair_returned = refl },
    )

pub returns-in-Err : goal.returns-in-Err
returns-in-Err g c =
    let kept = kept_stays g.K.PartialEq.eq g.met.K.Eq.laws 83 c.self.inside.table c.fact_sound.ensures.one_map.distinct
    c.find_absent.new.table
    c.in-Ok.ensures.found.map in
    let found = c.in-Ok.ensures.found in
    let same = table_same c.lock.result c.insert.new.self _ c.in-Err.ensures.changed refl ∙ c.lock.ensures.unchanged in
    let homes = rw same at c.fact_homes-in-Err.ensures in
    let placed = rw same at c.fact_sound-in-Err.ensures.one_map.placed in
    let none = full_there (λ mark. true) c.lock.result.table.now c.find_absent.new.table c.lock.result.side c.in-Ok.side c.lock.result.index
    c.in-Ok.index c.lock.ensures.unchanged c.lock.ensures.side c.lock.ensures.index c.in-Err.ensures.answer.1 in
    let lacks = found_full 83 g.H.KeyHash.hash_of c.args.key _ c.self.inside.table c.find_absent.new.table
    c.find_absent.ensures.hashed placed homes.current homes.old
    (λ e. omega arith) c.in-Ok.side c.in-Ok.index found none in
    let beside = rw same at c.fact_sound-in-Err.ensures.beside in
    let own = rw (← c.self.view_is) at c.requires.hashed in
    let grows = full_grows g.H.KeyHash.hash_of c.args.key c.self.inside.table c.find_absent.new.table placed beside c.in-Ok.side
    c.in-Ok.index
    c.args.hash own found in
    rw (← c.self.view_is, same) (
      (refl, λ value is. absurd cc, (kept, lacks, grows)),
      record
          { writes_back = tt; value = tt; pair_returned = c.in-Err.ensures.answer.0 },
    )

pub returns : goal.returns
returns g c =
    let t = c.self.inside.table in
    let added = c.insert.new.self.table.now in
    let e = c.entry_mut_at.ensures in
    let put = c.in-Ok-insert.ensures in
    let names = rw (put.changed.same_side, put.changed.same_index, c.lock.ensures.side, c.lock.ensures.index) at put.answer.1 in
    let pair = pair_named _ (c.args.key, c.args.value) _ _ names e.pair in
    let puts = rw c.lock.ensures.unchanged at put.map in
    let own = rw (← c.self.view_is) at c.requires.hashed in
    let is = changed_there added c.lock.result.table.now c.find_absent.new.table c.lock.result.side c.in-Ok.side c.lock.result.index
    c.in-Ok.index
    (λ bucket. slots_after_insertion 83 (λ mark. true) bucket (c.args.key, c.args.value) (c.args.hash % 256)) c.lock.ensures.unchanged
    c.lock.ensures.side c.lock.ensures.index put.changed.table in
    rw (← c.self.view_is) (
      (
        refl,
        λ value wrote. (
          added_lent g.K.PartialEq.eq g.met.K.Eq.laws 83 t c.fact_sound.ensures.one_map.distinct c.find_absent.new.table added
              (with_value added c.in-Ok.side c.in-Ok.index c.in-Ok-insert.at value) c.args.key c.args.value value
              (rw (← c.self.view_is) at c.requires.absent) c.in-Ok.ensures.found.map puts c.fact_sound-2.ensures.one_map.distinct
              (rw pair at (e.map value)),
          added_lent_grows g.H.KeyHash.hash_of c.args.key t c.find_absent.new.table added
              c.fact_sound-2.ensures.one_map.placed c.fact_sound-2.ensures.beside (λ mark. true) c.args.value value c.in-Ok.side
              c.in-Ok.index
              (c.args.hash % 256) c.args.hash c.in-Ok-insert.at own c.in-Ok.ensures.found puts is,
        ),
        tt,
      ),
      record { writes_back = tt; value = ap (λ p. p.1) pair; pair_returned = tt },
    )
