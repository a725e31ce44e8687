use Rattle.bucket_slots.proofs.Words.{None, Some, [], ap, arith, common_steps, count_by, drop, flattened, get_or_read, has_byte}
use Rattle.bucket_slots.proofs.Words.{is_match, length, position, sum_by-append, sym, ◌+◌, ◌-◌, ◌∙◌, ◌∷◌, ◌≡◌}
use Rattle.bucket_slots.proofs.BoxedWalks.{drop_behind, fewer_behind, length-some, row_behind}
use Rattle.bucket_slots.proofs.Counting.{tally}
use Rattle.bucket_slots.proofs.bucket.chain.Chain.find_by.Goals as goal

pub returns-in-Some-find_by-clause-place : goal.returns-in-Some-find_by-clause-place
returns-in-Some-find_by-clause-place g c =
    let some = length-some c.loop-at.at.now c.at.inside.first c.in-Some.block c.at.view_is c.in-Some.is
    ∙ ap (λ block. block.row ∷ block.next) (sym c.deref.ensures) in
    let row = c.deref.result.now.row in
    let behind = c.deref.result.now.next in
    let here : position (is_match (g.P.KeyProbe.matches c.args.probe.now) c.args.byte) row ≡ Some c.in-Some-find_by.pos =
    ap (λ t. position (is_match t c.args.byte) row) (sym c.loop-at.invariant.fixed) ∙ sym c.in-Some-find_by.ensures.place in
    grind (arith, common_steps)

pub returns-in-Some-find_by-clause-pair : goal.returns-in-Some-find_by-clause-pair
returns-in-Some-find_by-clause-pair g c =
    let some = length-some c.loop-at.at.now c.at.inside.first c.in-Some.block c.at.view_is c.in-Some.is
    ∙ ap (λ block. block.row ∷ block.next) (sym c.deref.ensures) in
    let row = c.deref.result.now.row in
    let behind = c.deref.result.now.next in
    let rows = c.args.self.now in
    let i = c.loop-at.number - 1 in
    let there = get_or_read rows i row (omega (arith, ap length some, c.loop-at.invariant.one, c.loop-at.invariant.within))
    (row_behind rows behind row i (sym c.loop-at.invariant.here ∙ some)) [] in
    rw (c.at-in-Some-find_by.ensures, ← there) c.in-Some-find_by.ensures.pair

pub returns-in-Some-find_by-clause-few : goal.returns-in-Some-find_by-clause-few
returns-in-Some-find_by-clause-few g c =
    let some = length-some c.loop-at.at.now c.at.inside.first c.in-Some.block c.at.view_is c.in-Some.is
    ∙ ap (λ block. block.row ∷ block.next) (sym c.deref.ensures) in
    let row = c.deref.result.now.row in
    let behind = c.deref.result.now.next in
    let parts = sum_by-append (λ x. tally (has_byte c.args.byte x)) row (flattened behind) in
    let step = ap (λ rows. count_by (has_byte c.args.byte) (flattened rows)) some in
    omega (arith, parts, step, c.find_by.ensures.few, c.loop-at.invariant.few)

pub loop-at-preserved : goal.loop-at-preserved
loop-at-preserved g c =
    let some = length-some c.loop-at.at.now c.at.inside.first c.in-Some.block c.at.view_is c.in-Some.is
    ∙ ap (λ block. block.row ∷ block.next) (sym c.deref.ensures) in
    let row = c.deref.result.now.row in
    let behind = c.deref.result.now.next in
    let parts = sum_by-append (λ x. tally (has_byte c.args.byte x)) row (flattened behind) in
    let step = ap (λ rows. count_by (has_byte c.args.byte) (flattened rows)) some in
    let next = ap (λ block. block.next) (c.deref-in-Some.ensures ∙ sym c.deref.ensures) in
    let up : c.loop-at.number - 1 + 1 ≡ c.loop-at.number + 1 - 1 = omega (arith, c.loop-at.invariant.one) in
    let here : position (is_match (g.P.KeyProbe.matches c.args.probe.now) c.args.byte) row ≡ None =
    ap (λ t. position (is_match t c.args.byte) row) (sym c.loop-at.invariant.fixed) ∙ sym c.in_default-find_by.ensures.place in
    let bytes = ap (λ rows. count_by (has_byte c.args.byte) (flattened rows)) next in
    record {
      one = omega arith;
      here = next ∙ drop_behind c.args.self.now behind row (c.loop-at.number - 1) (sym c.loop-at.invariant.here ∙ some)
          ∙ ap (λ n. drop n c.args.self.now) up;
      within = omega (arith, ap length next, ap length some, c.loop-at.invariant.within);
      place = grind (arith, common_steps);
      few = omega (arith, parts, step, bytes, c.find_by.ensures.few, c.loop-at.invariant.few);
      fixed = c.find_by.ensures.fixed ∙ c.loop-at.invariant.fixed;
    }

pub returns-in-Some-find_by-clause-fixed : goal.returns-in-Some-find_by-clause-fixed
returns-in-Some-find_by-clause-fixed g c = c.find_by.ensures.fixed ∙ c.loop-at.invariant.fixed

pub overflow_add-number : goal.overflow_add-number
overflow_add-number g c =
    record { fits = omega (arith, c.loop-at.invariant.within, ap length c.self.view_is, c.self.invariant.chain.few) }

pub returns-clause-fixed : goal.returns-clause-fixed
returns-clause-fixed g c = c.loop-at.invariant.fixed

pub loop-at-smaller : goal.loop-at-smaller
loop-at-smaller g c =
    omega (arith, fewer_behind _ _ _ _ c.at.view_is c.in-Some.is (ap (λ block. block.next) c.deref-in-Some.ensures))
