use Rattle.bucket_slots.proofs.Words.{Some, ap, arith, length, refl, rules, set, set-get_or, slots_with, subst, sym, ℕ}
use Rattle.bucket_slots.proofs.Words.{IsBucketOf, IsRecencyOrder, order_without, ◌%◌, ◌+◌, ◌-◌, ◌/◌, ◌<◌, ◌^◌, ◌∙◌, ◌≡◌}
use Rattle.bucket_slots.specs.ArrayView.{bucket_at}
use Rattle.bucket_slots.proofs.BucketPlacing.{free_at}
use Rattle.bucket_slots.proofs.OwnSpreading.{spreading_filled, spreading_first, spreading_next}
use Rattle.bucket_slots.proofs.Spreading.{offset_is, put_in_own}
use Rattle.bucket_slots.proofs.bucket.row.Row.spread.Goals as goal
use Rattle.bucket_slots.proofs.bucket.row.Row.spread.Goals.{else-loop-left-test, then-loop-left-test+then-index-targets}
use Rattle.bucket_slots.proofs.bucket.row.Row.spread.Goals.{then-loop-left-test+else-index-targets+in_default}

pub loop-left-init : goal.loop-left-init
loop-left-init g c = (
  spreading_first _ _ _ _ _ _ _ _ _ _ _ _ _ c.self.invariant c.self.view_is c.live-left.ensures.mask,
  c.requires.own_tail,
  c.requires.unlisted,
)

pub pair-requires : goal.pair-requires
pair-requires g c = (search rules, spreading_filled _ _ _ _ _ _ _ _ _ _ _ _ _ _ c.loop-left.invariant.0 _ c.lowest_bit-pos.ensures)

pub fill-requires : goal.fill-requires
fill-requires g c =
    let vacant = free_at c.target_at-target.result.now.own c.in-Some.free (sym c.free_own.ensures ∙ c.in-Some.is) in
    (search rules, (search rules, (rw c.at.ensures vacant.within, rw c.at.ensures vacant.slot)))

pub loop-left-smaller : goal.loop-left-smaller
loop-left-smaller g c = c.without_lowest-left.ensures.less

pub loop-left-preserved : goal.loop-left-preserved
loop-left-preserved g c =
    let targets = c.loop-left.targets in
    let number = c.hash_of-hash.result in
    let key = c.pair.result.0 in
    let value = c.pair.result.1.now in
    let pair = c.read-pair.result in
    let target = c.target_at-target.result.now in
    let home : ℕ = number / 2 ^ c.args.shift in
    let i : ℕ = (home + (2 ^ 64 - c.args.start)) % 2 ^ 64 in
    let within_targets : i < length targets = omega arith in
    let named = offset_is home c.args.start (length targets) (search rules) (omega arith) (omega arith) within_targets in
    let read : Some pair ≡ Some (key.now, value) = sym c.read-pair.ensures.pair ∙ c.pair.ensures in
    let same : pair ≡ (key.now, value) = cc in
    let vacant = sym c.free_own.ensures ∙ c.in-Some.is in
    let filled = (rw c.at.ensures at c.fill.ensures) ∙ sym (put_in_own target c.in-Some.free pair (number % 256) vacant) in
    let placed = ap (λ b. set targets i b) (filled ∙ ap (λ b. slots_with b pair (number % 256)) c.target_at-target.ensures.bucket
    ∙ ap (λ p. slots_with (bucket_at targets i) p (number % 256)) same) in
    let once = subst IsRecencyOrder c.unlist.ensures.order (g.met.L.LruList.distinct _ _ c.unlist.ensures.tail).0 in
    let laws : IsBucketOf g.row.TYPE (bucket_at targets i) = rw (← c.target_at-target.ensures.bucket) c.fact_sound.ensures in
    let next = spreading_next _ _ _ _ _ _ _ _ _ _ _ _ _ _ c.loop-left.invariant.0 _ c.lowest_bit-pos.ensures _
    (c.without_lowest-left.ensures.bits _ c.lowest_bit-pos.ensures) once key value c.pair.ensures number
    c.hash_of-hash.ensures i within_targets (search rules, named) laws in (
      rw (c.read-pair.ensures.places, c.unlist.ensures.order, placed) next,
      c.unlist.ensures.tail,
      λ other. c.unlist.ensures.order ∙ ap (λ order. order_without order c.lowest_bit-pos.result) (c.loop-left.invariant.2 other),
    )

pub returns-clause-spread : goal.returns-clause-spread
returns-clause-spread g c =
    let same : c.loop-left-test.targets ≡ c.loop-left.targets = elim c.loop-left-test.branch [
      | else-loop-left-test w ↦ w.targets-is
      | then-loop-left-test+then-index-targets w ↦ w.targets-is
      | then-loop-left-test+else-index-targets+in_default w ↦ w.targets-is ∙ rw (w.target_at-target.ensures.bucket, set-get_or) refl
    ] in
    rw same c.loop-left.invariant.0.spread
