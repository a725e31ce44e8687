use Rattle.bucket_slots.proofs.Words.{Bor, ap, arith, inl, length, sym, ℕ, ◌∙◌}
use Rattle.bucket_slots.specs.Spreading.{IsShifted}
use Rattle.bucket_slots.proofs.ArrayParts.{few_parts, few_spread, few_view, len_of}
use Rattle.bucket_slots.proofs.Spreading.{front_same, list_over, spread_len, spread_within}
use Rattle.bucket_slots.proofs.bucket_array.buckets.Buckets.spread_beside.Goals as goal

pub invariant_of-self : goal.invariant_of-self
invariant_of-self g c =
    let few = few_parts c.self.invariant.0 (omega (arith, len_of c.self.invariant.0, ap length c.self.view_is, c.requires.short)) in
    let held = c.self.inside.beside in
    let (count, spread) = c.spread_own.ensures in
    let same = spread_len g.row.TYPE (λ (key : Bor g.row.K.Denot) (answer : ℕ). goal.F-post g c.args.hash_of.now key answer)
    (IsShifted c.args.shift) c.args.start count c.args.source.now c.spread_own.new.self c.slice_mut.result.now c.spread_own.new.targets
    spread in
    let over = list_over held.items held.len c.args.start c.args.len c.slice_mut.result.now c.spread_own.new.targets held.ok.0
    (omega (
      arith,
      held.ok.0,
      few.len_is,
      len_of c.self.invariant.0,
      ap length c.self.view_is,
      c.requires.within,
      c.len.ensures,
      c.if-len-start.false,
    )) c.slice_mut.ensures.value same in
    (inl (few_spread _ _ _ _ _ few over.long), c.self.invariant.1)

pub returns-clause-spreads : goal.returns-clause-spreads
returns-clause-spreads g c =
    let few = few_parts c.self.invariant.0 (omega (arith, len_of c.self.invariant.0, ap length c.self.view_is, c.requires.short)) in
    let held = c.self.inside.beside in
    let (count, spread) = c.spread_own.ensures in
    let same = spread_len g.row.TYPE (λ (key : Bor g.row.K.Denot) (answer : ℕ). goal.F-post g c.args.hash_of.now key answer)
    (IsShifted c.args.shift) c.args.start count c.args.source.now c.spread_own.new.self c.slice_mut.result.now c.spread_own.new.targets
    spread in
    let over = list_over held.items held.len c.args.start c.args.len c.slice_mut.result.now c.spread_own.new.targets held.ok.0
    (omega (
      arith,
      held.ok.0,
      few.len_is,
      len_of c.self.invariant.0,
      ap length c.self.view_is,
      c.requires.within,
      c.len.ensures,
      c.if-len-start.false,
    )) c.slice_mut.ensures.value same in
    let was = sym over.was ∙ sym (few_view few) ∙ c.self.view_is in
    let is = few_view (few_spread _ _ _ _ _ few over.long) ∙ over.is in
    let whole = spread_within g.row.TYPE (λ (key : Bor g.row.K.Denot) (answer : ℕ). goal.F-post g c.args.hash_of.now key answer)
    (IsShifted c.args.shift) over.front over.back 0 c.args.start (omega (arith, over.front_len)) count c.args.source.now
    c.spread_own.new.self c.slice_mut.result.now c.spread_own.new.targets spread in
    (count, rw (← was, is) whole)

pub returns-clause-front : goal.returns-clause-front
returns-clause-front g c = λ i before.
    let few = few_parts c.self.invariant.0 (omega (arith, len_of c.self.invariant.0, ap length c.self.view_is, c.requires.short)) in
    let held = c.self.inside.beside in
    let (count, spread) = c.spread_own.ensures in
    let same = spread_len g.row.TYPE (λ (key : Bor g.row.K.Denot) (answer : ℕ). goal.F-post g c.args.hash_of.now key answer)
    (IsShifted c.args.shift) c.args.start count c.args.source.now c.spread_own.new.self c.slice_mut.result.now c.spread_own.new.targets
    spread in
    let over = list_over held.items held.len c.args.start c.args.len c.slice_mut.result.now c.spread_own.new.targets held.ok.0
    (omega (
      arith,
      held.ok.0,
      few.len_is,
      len_of c.self.invariant.0,
      ap length c.self.view_is,
      c.requires.within,
      c.len.ensures,
      c.if-len-start.false,
    )) c.slice_mut.ensures.value same in
    let was = sym over.was ∙ sym (few_view few) ∙ c.self.view_is in
    let is = few_view (few_spread _ _ _ _ _ few over.long) ∙ over.is in
    rw (← was, is) (front_same over.front _ _ i (omega (arith, before, over.front_len)))

pub overflow_sub-len : goal.overflow_sub-len
overflow_sub-len g c =
    let few = few_parts c.self.invariant.0 (omega (arith, len_of c.self.invariant.0, ap length c.self.view_is, c.requires.short)) in
    let held = c.self.inside.beside in
    omega (arith, held.ok.0, few.len_is, len_of c.self.invariant.0, ap length c.self.view_is, c.requires.within, c.len.ensures)

pub slice_mut-requires-clause-in_bounds : goal.slice_mut-requires-clause-in_bounds
slice_mut-requires-clause-in_bounds g c =
    let few = few_parts c.self.invariant.0 (omega (arith, len_of c.self.invariant.0, ap length c.self.view_is, c.requires.short)) in
    let held = c.self.inside.beside in
    omega (
      arith,
      held.ok.0,
      few.len_is,
      len_of c.self.invariant.0,
      ap length c.self.view_is,
      c.requires.within,
      c.len.ensures,
      c.if-len-start.false,
    )
