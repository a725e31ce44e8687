use Rattle.bucket_table.proofs.Words.{ap, arith, live_counts, slots_of, sym, ℕ, ◌*◌, ◌<◌, ◌∙◌}
use Rattle.bucket_table.proofs.Resize.PlanBounds.{given_up, grown, middle_is, optimal_at, same_capacity, shrunk, slots_are, slots_in}
use Rattle.bucket_slots.proofs.ArrayNumbers.{large_within, optimal_fits}
use Rattle.bucket_table.proofs.arrays.resize.plan_by_middle.Goals as goal

pub optimal_capacity-capacity-requires-clause-capacity : goal.optimal_capacity-capacity-requires-clause-capacity
optimal_capacity-capacity-requires-clause-capacity g c =
    let len = c.len.ensures in
    slots_in c.len.result _ _ len.length.power len.length.at_least
    (c.num_slots-slots.ensures ∙ ap (λ (n : ℕ). 32 * n) (sym len.value)) (omega arith)

pub sample-first-requires : goal.sample-first-requires
sample-first-requires g c =
    let large = large_within _ _ c.requires.large in
    (omega arith, (large.0, omega (arith, large.1)))

pub optimal_capacity-asked-requires-clause-capacity : goal.optimal_capacity-asked-requires-clause-capacity
optimal_capacity-asked-requires-clause-capacity g c =
    let len = c.len.ensures in
    slots_in c.len.result _ _ len.length.power len.length.at_least
    (c.num_slots-slots.ensures ∙ ap (λ (n : ℕ). 32 * n) (sym len.value)) (omega arith)

pub returns-then-capacity-asked-clause-plan : goal.returns-then-capacity-asked-clause-plan
returns-then-capacity-asked-clause-plan g c =
    let slots = slots_are c.args.array.now _ c.num_slots-slots.ensures in
    let middle = middle_is c.args.array.now c.len.result c.full_sample_size-full.result _ c.len.ensures.value
    c.full_sample_size-full.ensures c.sample-middle.ensures in
    let asked = optimal_at _ _ _ _ _ _ _ slots c.sample-first.ensures c.optimal_capacity-asked.ensures in
    let less : c.optimal_capacity-capacity.result < slots_of (live_counts c.args.array.now) =
    omega (arith, slots, c.if-capacity-slots.false, c.if-slots-capacity.false) in
    (_, optimal_at _ _ _ _ _ _ _ slots middle c.optimal_capacity-capacity.ensures, given_up _ _ _ _ c.if-capacity-asked.true less asked)

pub returns-else-capacity-asked-clause-plan : goal.returns-else-capacity-asked-clause-plan
returns-else-capacity-asked-clause-plan g c =
    let slots = slots_are c.args.array.now _ c.num_slots-slots.ensures in
    let middle = middle_is c.args.array.now c.len.result c.full_sample_size-full.result _ c.len.ensures.value
    c.full_sample_size-full.ensures c.sample-middle.ensures in
    let asked = optimal_at _ _ _ _ _ _ _ slots c.sample-first.ensures c.optimal_capacity-asked.ensures in
    let less : c.optimal_capacity-capacity.result < slots_of (live_counts c.args.array.now) =
    omega (arith, slots, c.if-capacity-slots.false, c.if-slots-capacity.false) in
    (_, optimal_at _ _ _ _ _ _ _ slots middle c.optimal_capacity-capacity.ensures, shrunk _ _ _ _ c.if-capacity-asked.false less asked)

pub returns-then-slots-capacity-clause-capacity : goal.returns-then-slots-capacity-clause-capacity
returns-then-slots-capacity-clause-capacity g c =
    optimal_fits _ _ _ _ _ c.requires.maximum.power c.requires.maximum.at_least c.requires.bounded
    (omega (arith, c.num_slots-slots.ensures)) c.optimal_capacity-capacity.ensures

pub returns-else-capacity-asked-clause-capacity : goal.returns-else-capacity-asked-clause-capacity
returns-else-capacity-asked-clause-capacity g c =
    optimal_fits _ _ _ _ _ c.requires.maximum.power c.requires.maximum.at_least c.requires.bounded
    (omega (arith, c.num_slots-slots.ensures)) c.optimal_capacity-capacity.ensures

pub returns-then-capacity-slots-clause-plan : goal.returns-then-capacity-slots-clause-plan
returns-then-capacity-slots-clause-plan g c =
    let slots = slots_are c.args.array.now _ c.num_slots-slots.ensures in
    let middle = middle_is c.args.array.now c.len.result c.full_sample_size-full.result _ c.len.ensures.value
    c.full_sample_size-full.ensures c.sample-middle.ensures in
    (_, optimal_at _ _ _ _ _ _ _ slots middle c.optimal_capacity-capacity.ensures, same_capacity _ _ _ (c.if-capacity-slots.true ∙ slots))

pub returns-then-slots-capacity-clause-plan : goal.returns-then-slots-capacity-clause-plan
returns-then-slots-capacity-clause-plan g c =
    let slots = slots_are c.args.array.now _ c.num_slots-slots.ensures in
    let middle = middle_is c.args.array.now c.len.result c.full_sample_size-full.result _ c.len.ensures.value
    c.full_sample_size-full.ensures c.sample-middle.ensures in
    (_, optimal_at _ _ _ _ _ _ _ slots middle c.optimal_capacity-capacity.ensures, grown _ _ _ (rw (← slots) c.if-slots-capacity.true))
