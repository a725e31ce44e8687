use Rattle.bucket_slots.proofs.Words.{IsLeft, arith, false, free, has_byte, is_match, refl, sym, ◌∙◌, ◌≡◌}
use Rattle.bucket_slots.proofs.Bitmaps.{ones-cleared, ones-some}
use Rattle.bucket_slots.proofs.FilledPlaces.{fits_w64}
use Rattle.bucket_slots.proofs.FirstPlaces.{live_occupied}
use Rattle.bucket_slots.proofs.Masks.{IsLeft-first, IsLeft-next, ones-mask, position-left, position-none_left}
use Rattle.bucket_slots.proofs.RowMasks.{candidate_live, candidate_matched, unmatched}
use Rattle.bucket_slots.proofs.bucket.row.Row.find_among.Goals as goal

pub loop-left-init : goal.loop-left-init
loop-left-init g c =
    let want = is_match (g.P.KeyProbe.matches c.args.probe.now) c.args.byte in
    record {
      left = IsLeft-first (has_byte c.args.byte) (λ slot. want slot ≡ false) free c.args.self.now _ refl (unmatched _ c.args.byte)
          c.requires;
      few = omega (arith, ones-mask (has_byte c.args.byte) c.args.self.now _ c.requires);
      fixed = refl;
    }

pub returns-then-same-clause-place : goal.returns-then-same-clause-place
returns-then-same-clause-place g c =
    let want = is_match (g.P.KeyProbe.matches c.args.probe.now) c.args.byte in
    let left = c.loop-left.invariant.left in
    let here = left.waiting _ c.lowest_bit-pos.ensures.set in
    let said = candidate_matched _ _ c.args.byte _ _ _ _ here c.pair.ensures c.loop-left.invariant.fixed c.same.ensures.answer in
    sym (position-left (has_byte c.args.byte) want free c.args.self.now _ _ refl left c.lowest_bit-pos.ensures (said ∙ c.if-same.true))

pub returns-then-same-clause-few : goal.returns-then-same-clause-few
returns-then-same-clause-few g c =
    omega (arith, c.same.ensures.counted, c.loop-left.invariant.few, ones-some _ _ c.lowest_bit-pos.ensures.set)

pub loop-left-preserved : goal.loop-left-preserved
loop-left-preserved g c =
    let want = is_match (g.P.KeyProbe.matches c.args.probe.now) c.args.byte in
    let left = c.loop-left.invariant.left in
    let here = left.waiting _ c.lowest_bit-pos.ensures.set in
    let said = candidate_matched _ _ c.args.byte _ _ _ _ here c.pair.ensures c.loop-left.invariant.fixed c.same.ensures.answer in
    let fewer = ones-cleared _ _ _ c.without_bit-left.ensures.bits c.lowest_bit-pos.ensures.set in
    record {
      left = IsLeft-next (has_byte c.args.byte) (λ slot. want slot ≡ false) free c.args.self.now c.args.self.now _ _ _ left
          c.without_bit-left.ensures.bits (λ i other. refl) (said ∙ c.if-same.false);
      few = omega (arith, c.same.ensures.counted, c.loop-left.invariant.few);
      fixed = c.same.ensures.fixed ∙ c.loop-left.invariant.fixed;
    }

pub returns-clause-place : goal.returns-clause-place
returns-clause-place g c =
    let want = is_match (g.P.KeyProbe.matches c.args.probe.now) c.args.byte in
    let left : IsLeft (has_byte c.args.byte) (λ slot. want slot ≡ false) free c.args.self.now c.loop-left.left =
    c.loop-left.invariant.left in
    sym (position-none_left (has_byte c.args.byte) want free c.args.self.now (rw c.loop-left-test.false at left))

pub overflow_cast-pos : goal.overflow_cast-pos
overflow_cast-pos g c = fits_w64 _ c.lowest_bit-pos.ensures.within

pub overflow_cast-result : goal.overflow_cast-result
overflow_cast-result g c = fits_w64 _ c.lowest_bit-pos.ensures.within

pub returns-then-same-clause-fixed : goal.returns-then-same-clause-fixed
returns-then-same-clause-fixed g c = c.same.ensures.fixed ∙ c.loop-left.invariant.fixed

pub loop-left-smaller : goal.loop-left-smaller
loop-left-smaller g c = c.without_bit-left.ensures.less c.lowest_bit-pos.ensures.set

pub returns-clause-few : goal.returns-clause-few
returns-clause-few g c = omega (arith, c.loop-left.invariant.few)

pub returns-clause-fixed : goal.returns-clause-fixed
returns-clause-fixed g c = c.loop-left.invariant.fixed

pub lowest_bit-pos-requires : goal.lowest_bit-pos-requires
lowest_bit-pos-requires g c = omega (arith, c.loop-left-test.true)

pub without_bit-left-requires : goal.without_bit-left-requires
without_bit-left-requires g c = c.lowest_bit-pos.ensures.within

pub pair-requires : goal.pair-requires
pair-requires g c =
    let alive = candidate_live _ c.args.byte (c.loop-left.invariant.left.waiting _ c.lowest_bit-pos.ensures.set) in
    (omega arith, (live_occupied _ alive).0)

pub returns-then-same-clause-pair : goal.returns-then-same-clause-pair
returns-then-same-clause-pair g c =
    let alive = candidate_live _ c.args.byte (c.loop-left.invariant.left.waiting _ c.lowest_bit-pos.ensures.set) in
    (live_occupied _ alive).1 ∙ c.pair.ensures
