use Rattle.bucket_table.proofs.Words.{refl, rules, sym, ◌∙◌}
use Rattle.bucket_table.specs.Walking.Row.{row_of}
use Rattle.bucket_table.proofs.Walking.Row.{moves_on, none_without}
use Rattle.bucket_table.proofs.Map.Rests.{rest_less, rest_same}
use Rattle.bucket_table.proofs.arrays.pairs.ArraysPairsRefKindIterator.next.Goals as goal

pub returns-then-not-has_row_or-clause-steps : goal.returns-then-not-has_row_or-clause-steps
returns-then-not-has_row_or-clause-steps g c =
    let inside = c.self.inside in
    let none = none_without (row_of inside.arrays.now) inside.index inside.at (c.has_row_or.ensures.none
    c.if-not-has_row_or.true) in
    (sym c.self.view_is ∙ none, sym c.self.view_is ∙ none)

pub returns-in_default-clause-steps : goal.returns-in_default-clause-steps
returns-in_default-clause-steps g c = rw (← c.self.view_is, c.own_left-found.ensures.left) c.next_slot.ensures

pub returns-in_default-clause-goes : goal.returns-in_default-clause-goes
returns-in_default-clause-goes g c =
    let steps = returns-in_default-clause-steps g c in
    search rules

pub invariant_of-self : goal.invariant_of-self
invariant_of-self g c =
    (λ some. absurd (some refl), rest_same _ _ c.self.inside.is_counted c.self.inside.rest c.own_left-found.ensures.left c.self.invariant.1)

pub invariant_of-self-2 : goal.invariant_of-self-2
invariant_of-self-2 g c =
    let inside = c.self.inside in
    let own = c.in-Some.ensures.own in
    let at = c.own_left-found.new in
    let next = c.next_own-self-inside in
    let on = moves_on (row_of inside.arrays.now) inside.index inside.at at.index at.at next.new.at c.in-Some.bucket.now own.here
    c.own_left-found.ensures.left own.within next.ensures.moves in
    (search rules, rest_less _ _ inside.is_counted inside.rest _ on.moves.pair on.first c.one_less-self-inside.ensures c.self.invariant.1)
