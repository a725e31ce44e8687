use Rattle.bucket_slots.proofs.Words.{all_free, ap, arith, length, refl, sym, ◌∙◌}
use Rattle.bucket_slots.proofs.BoxedWalks.{drop_behind, fewer_behind, length-some}
use Rattle.bucket_slots.proofs.FreeEnds.{kept_passed}
use Rattle.bucket_slots.proofs.bucket.chain.Chain.kept_len.Goals as goal
use Rattle.bucket_slots.proofs.bucket.chain.Chain.kept_len.Goals.{else-not-is_empty, then-not-is_empty}

pub loop-at-preserved : goal.loop-at-preserved
loop-at-preserved g c =
    let rows = c.args.self.now in
    let some = length-some c.loop-at.at.now c.at.inside.first c.in-Some.block c.at.view_is c.in-Some.is in
    let here = sym c.loop-at.invariant.here ∙ some in
    let next = ap (λ block. block.next) c.deref-in-Some.ensures in
    let row = c.in-Some.block.value.row in
    let behind = drop_behind rows c.in-Some.block.value.next row c.loop-at.passed here in
    let seen = ap (λ block. all_free block.row) (sym c.deref.ensures) ∙ sym c.is_empty.ensures in
    record {
      here = next ∙ behind;
      within = omega (arith, ap length some, ap length next, c.loop-at.invariant.within);
      kept = kept_passed rows c.in-Some.block.value.next row c.loop-at.passed c.loop-at.kept c.if-not-is_empty.kept (all_free row)
          here c.loop-at.invariant.kept refl
          (elim c.if-not-is_empty.branch [
            | then-not-is_empty w ↦ rw (seen ∙ w.if-not-is_empty.true) w.kept-is
            | else-not-is_empty w ↦ rw (seen ∙ w.if-not-is_empty.false) w.kept-is
          ]);
    }

pub overflow_add-passed : goal.overflow_add-passed
overflow_add-passed g c =
    record { fits = omega (arith, c.loop-at.invariant.within, ap length c.self.view_is, c.self.invariant.chain.few) }

pub loop-at-smaller : goal.loop-at-smaller
loop-at-smaller g c =
    omega (arith, fewer_behind _ _ _ _ c.at.view_is c.in-Some.is (ap (λ block. block.next) c.deref-in-Some.ensures))
