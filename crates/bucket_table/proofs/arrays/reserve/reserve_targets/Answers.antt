use Rattle.bucket_table.proofs.Words.{[], ap, arith, get_or, length, ℕ, ◌+◌, ◌-◌, ◌∙◌, ◌∷◌, ◌≡◌}
use Rattle.std.proofs.lemmas.List.{take_at}
use Rattle.bucket_table.proofs.Moves.RoomMade.{counted_one, others_in, part_len, room_made}
use Rattle.bucket_table.proofs.arrays.reserve.reserve_targets.Goals as goal

pub returns-then-len-eq1-clause-room : goal.returns-then-len-eq1-clause-room
returns-then-len-eq1-clause-room g c =
    room_made (g.H.KeyHash.hash_of c.args.hasher.now) c.reserve_each.result c.args.current.now _ c.args.start c.args.end (c.len.result ∷ [])
    _ c.reserve_each.ensures.kept (omega (arith, c.if-len-eq1.true, c.requires.some)) c.requires.in_range
    (counted_one (g.H.KeyHash.hash_of c.args.hasher.now) _ c.args.start c.len.result _ c.len.ensures) c.reserve_each.ensures.room

pub returns-then-len-eq1-clause-others : goal.returns-then-len-eq1-clause-others
returns-then-len-eq1-clause-others g c =
    others_in c.args.current.now c.reserve_each.new.current c.args.start c.args.end (c.args.start + 1)
    (omega (arith, c.if-len-eq1.true, c.requires.some)) c.reserve_each.ensures.others

pub returns-then-len-le-COUNTED_TARGETS-clause-room : goal.returns-then-len-le-COUNTED_TARGETS-clause-room
returns-then-len-le-COUNTED_TARGETS-clause-room g c =
    let n : ℕ = c.args.end - c.args.start in
    let long = part_len n c.if-len-le-COUNTED_TARGETS.true in
    let r = c.reserve_each-then-len-le-COUNTED_TARGETS in
    room_made (g.H.KeyHash.hash_of c.args.hasher.now) r.result c.args.current.now _ c.args.start c.args.end c.count_targets.new.counts _
    r.ensures.kept (omega (arith, long, c.requires.some, c.count_targets.auto.counts)) c.requires.in_range
    (λ k h. omega (
      arith,
      c.count_targets.ensures k (omega (arith, h, c.count_targets.auto.counts)),
    )) r.ensures.room

pub returns-then-len-le-COUNTED_TARGETS-clause-others : goal.returns-then-len-le-COUNTED_TARGETS-clause-others
returns-then-len-le-COUNTED_TARGETS-clause-others g c =
    let n : ℕ = c.args.end - c.args.start in
    let long = part_len n c.if-len-le-COUNTED_TARGETS.true in
    let r = c.reserve_each-then-len-le-COUNTED_TARGETS in
    others_in c.args.current.now r.new.current c.args.start c.args.end (c.args.start + length c.count_targets.new.counts)
    (omega (arith, long, c.requires.some, c.count_targets.auto.counts)) r.ensures.others

pub returns-clause-room : goal.returns-clause-room
returns-clause-room g c =
    let long = c.count_targets-2.auto.counts ∙ ap length c.deref_mut.ensures.value ∙ c.in-Ok.ensures.len in
    let same : c.deref.result.now ≡ c.count_targets-2.new.counts = c.deref.ensures.value ∙ take_at _
    _ _ (c.count_targets-2.auto.counts ∙ c.deref_mut.ensures.len) in
    let r = c.reserve_each-2 in
    room_made (g.H.KeyHash.hash_of c.args.hasher.now) r.result c.args.current.now _ c.args.start c.args.end c.deref.result.now _
    r.ensures.kept (omega (arith, long, ap length same, c.requires.some)) c.requires.in_range
    (λ k h. omega (
      arith,
      c.count_targets-2.ensures k (omega (arith, h, ap length same, c.count_targets-2.auto.counts)),
      ap (λ l. get_or l k 0) same,
    ))
    r.ensures.room

pub returns-clause-others : goal.returns-clause-others
returns-clause-others g c =
    let long = c.count_targets-2.auto.counts ∙ ap length c.deref_mut.ensures.value ∙ c.in-Ok.ensures.len in
    let same : c.deref.result.now ≡ c.count_targets-2.new.counts = c.deref.ensures.value ∙ take_at _
    _ _ (c.count_targets-2.auto.counts ∙ c.deref_mut.ensures.len) in
    let r = c.reserve_each-2 in
    others_in c.args.current.now r.new.current c.args.start c.args.end (c.args.start + length c.deref.result.now)
    (omega (arith, long, ap length same, c.requires.some)) r.ensures.others
