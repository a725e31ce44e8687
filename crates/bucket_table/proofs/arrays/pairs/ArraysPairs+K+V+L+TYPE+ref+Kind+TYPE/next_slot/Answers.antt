use Rattle.bucket_table.proofs.Words.{refl, sym, ◌∙◌}
use Rattle.bucket_table.specs.Walking.Row.{row_of}
use Rattle.bucket_table.proofs.Walking.Row.{none_without}
use Rattle.bucket_table.proofs.Map.Rests.{rest_less, rest_same}
use Rattle.bucket_table.proofs.arrays.pairs.ArraysPairs+K+V+L+TYPE+ref+Kind+TYPE.next_slot.Goals as goal

pub returns-then-not-has_row : goal.returns-then-not-has_row
returns-then-not-has_row g c =
    let inside = c.self.inside in
    let none = none_without (row_of inside.arrays.now) inside.index inside.at (c.has_row.ensures.none
    c.if-not-has_row.true) in
    (sym c.self.view_is ∙ none, none)

pub invariant_of-self-in_default : goal.invariant_of-self-in_default
invariant_of-self-in_default g c =
    let end = c.in_default.ensures.end in
    (λ some. absurd (some refl), rest_same _ _ c.self.inside.is_counted c.self.inside.rest (end.0 ∙ sym end.1) c.self.invariant.1)

pub invariant_of-self-2 : goal.invariant_of-self-2
invariant_of-self-2 g c =
    let moves = c.in-Some.ensures.moves in (
      λ some. absurd (some refl),
      rest_less _ _ c.self.inside.is_counted c.self.inside.rest _ moves.moves.pair moves.first
          c.one_less-self-inside.ensures c.self.invariant.1,
    )
