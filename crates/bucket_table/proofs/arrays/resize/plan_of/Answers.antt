use Rattle.bucket_table.proofs.Words.{arith, false≢true, refl, sym, ◌∙◌, ◌≡◌}
use Rattle.bucket_table.proofs.Resize.PlanBounds.{plan_at_zero, plan_settled}
use Rattle.bucket_table.proofs.arrays.resize.plan_of.Goals.{else-last-eq0-via-else-last-eq0, else-last-eq0-via-then-last-eq0+else-minimum-eq0}
use Rattle.bucket_slots.proofs.ArrayNumbers.{large_within}
use Rattle.bucket_table.proofs.arrays.resize.plan_of.Goals as goal

pub overflow_sub-len : goal.overflow_sub-len
overflow_sub-len g c =
    let large = large_within _ _ c.large_sample_size-large.ensures in
    omega (arith, large.1, c.len.ensures.value)

pub sample-last-requires : goal.sample-last-requires
sample-last-requires g c =
    let large = large_within _ _ c.large_sample_size-large.ensures in
    (omega arith, (large.0, omega (arith, large.1, c.len.ensures.value)))

pub returns-then-is_empty-clause-plan : goal.returns-then-is_empty-clause-plan
returns-then-is_empty-clause-plan g c =
    plan_at_zero c.args.array.now c.len.result _ _ _ _ c.len.ensures.value c.large_sample_size-large.ensures c.sample-last.ensures _
    c.if-last-eq0.true c.if-minimum-eq0.true (λ all. refl) (λ no. absurd (no (c.is_empty.ensures.0 c.if-is_empty.true)))

pub returns-then-minimum-eq0-clause-plan : goal.returns-then-minimum-eq0-clause-plan
returns-then-minimum-eq0-clause-plan g c =
    plan_at_zero c.args.array.now c.len.result _ _ _ _ c.len.ensures.value c.large_sample_size-large.ensures c.sample-last.ensures _
    c.if-last-eq0.true c.if-minimum-eq0.true (λ all. absurd (false≢true (sym c.if-is_empty.false ∙ c.is_empty.ensures.1 all))) (λ no. refl)

pub returns-then-not-need_shrink-clause-plan : goal.returns-then-not-need_shrink-clause-plan
returns-then-not-need_shrink-clause-plan g c =
    let more : c.sample-last.result ≡ 0 → c.args.minimum ≡ 0 → ⊥ = elim c.else-last-eq0.branch [
      | else-last-eq0-via-then-last-eq0+else-minimum-eq0 w ↦ λ none. w.if-minimum-eq0.false
      | else-last-eq0-via-else-last-eq0 w ↦ λ none zero. w.if-last-eq0.false none
    ] in
    plan_settled c.args.array.now c.len.result _ _ _ _ c.len.ensures.value c.large_sample_size-large.ensures c.sample-last.ensures
    _ c.num_slots-slots.ensures more (λ full. false≢true (sym c.if-not-is_full.true ∙ c.need_enlarge-is_full.ensures.1 full))
    (λ empty. false≢true (sym c.if-not-need_shrink.true ∙ c.need_shrink.ensures.1 empty))
