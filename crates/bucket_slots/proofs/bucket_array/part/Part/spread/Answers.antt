use Rattle.bucket_slots.proofs.Words.{Bor, arith, rules, sym, vec_capacity, ℕ, ◌∙◌}
use Rattle.bucket_slots.specs.Spreading.{IsShifted}
use Rattle.bucket_slots.proofs.ArrayParts.{length-part}
use Rattle.bucket_slots.proofs.Spreading.{front_same, part_over, spread_len, spread_within}
use Rattle.bucket_slots.proofs.bucket_array.part.Part.spread.Goals as goal

pub returns-clause-spreads : goal.returns-clause-spreads
returns-clause-spreads g c = λ first stands.
    let made = c.make_to.new.made in
    let answers = λ (key : Bor g.row.K.Denot) (answer : ℕ). goal.F-post g c.args.hash_of.now key answer in
    let (count, spread) = c.spread_own.ensures in
    let run = c.slice_mut.result.now in
    let ws = c.spread_own.new.targets in
    let same = spread_len g.row.TYPE answers (IsShifted c.args.shift) c.args.start count c.args.source.now c.spread_own.new.self run ws
    spread in
    let over = part_over made.items (vec_capacity made) made.len c.self.inside.released c.args.offset c.args.len run ws made.ok.0
    (omega (arith, made.ok.0, c.make_to.ensures.made)) c.slice_mut.ensures.value same in
    let whole = spread_within g.row.TYPE answers (IsShifted c.args.shift) over.front over.back first c.args.start
    (omega (arith, stands, over.front_len)) count c.args.source.now c.spread_own.new.self run ws spread in
    let was = sym over.was ∙ c.make_to.ensures.same ∙ c.self.view_is in (
      count,
      rw (← was, over.is) whole,
    )

pub returns-clause-front : goal.returns-clause-front
returns-clause-front g c = λ i before.
    let made = c.make_to.new.made in
    let (count, spread) = c.spread_own.ensures in
    let same = spread_len g.row.TYPE (λ (key : Bor g.row.K.Denot) (answer : ℕ). goal.F-post g c.args.hash_of.now key answer)
    (IsShifted c.args.shift) c.args.start count c.args.source.now c.spread_own.new.self c.slice_mut.result.now c.spread_own.new.targets
    spread in
    let over = part_over made.items (vec_capacity made) made.len c.self.inside.released c.args.offset c.args.len c.slice_mut.result.now
    c.spread_own.new.targets made.ok.0 (omega (arith, made.ok.0, c.make_to.ensures.made)) c.slice_mut.ensures.value same in
    let was = sym over.was ∙ c.make_to.ensures.same ∙ c.self.view_is in
    rw (← was, over.is) (front_same over.front _ _ i (omega (arith, before, over.front_len)))

pub make_to-requires : goal.make_to-requires
make_to-requires g c =
    let made = c.self.inside.made in
    let long = length-part made.items c.args.self.now _ _ c.self.view_is in (
      search rules,
      (
        c.requires.fits,
        omega (arith, long, c.requires.within, made.ok.0, made.ok.1, c.if-capacity-offset.false, c.capacity.ensures),
      ),
    )
