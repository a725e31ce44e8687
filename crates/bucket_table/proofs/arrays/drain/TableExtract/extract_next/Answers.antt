use Rattle.bucket_table.proofs.Words.{refl}
use Rattle.bucket_table.specs.Walking.Row.{row_of}
use Rattle.bucket_table.proofs.Walking.Extracting.{fewer, picks, picks_none, refuses, sets_out}
use Rattle.bucket_table.proofs.Walking.Row.{none_without}
use Rattle.bucket_table.proofs.Map.Rests.{most_less}
use Rattle.bucket_table.proofs.arrays.drain.TableExtract.extract_next.Goals as goal

pub slots-init : goal.slots-init
slots-init g c = (c.requires.callable, sets_out _ g.row.TYPE c.self.view_is, c.self.invariant)

pub returns-then-not-has_row-clause-extracted : goal.returns-then-not-has_row-clause-extracted
returns-then-not-has_row-clause-extracted g c =
    let inside = c.self.inside in
    let none = none_without (row_of inside.arrays) inside.index inside.at (c.has_row.ensures.none c.if-not-has_row.true) in
    rw (← c.self.view_is)
    (picks_none _ g.row.TYPE inside.index inside.index inside.at inside.at (sets_out _ g.row.TYPE refl) none none)

pub returns-in-Some-ask_at-clause-extracted : goal.returns-in-Some-ask_at-clause-extracted
returns-in-Some-ask_at-clause-extracted g c =
    let moves = c.in-Some.ensures.moves in
    picks _ g.row.TYPE c.slots.self-inside.not_index moves c.slots.invariant.1
    (rw c.in-Some-ask_at.is at (c.ask_at.ensures.asked moves.moves.pair moves.moves.here))

pub slots-smaller : goal.slots-smaller
slots-smaller g c =
    let moves = c.in-Some.ensures.moves in
    fewer _ g.row.TYPE c.slots.self-inside.not_index moves c.slots.invariant.1
    (c.ask_at.ensures.asked moves.moves.pair moves.moves.here)

pub slots-preserved : goal.slots-preserved
slots-preserved g c =
    let moves = c.in-Some.ensures.moves in (
      c.ask_at.ensures.again,
      refuses _ g.row.TYPE c.slots.self-inside.not_index moves c.slots.invariant.1
          (rw c.in-None.is at (c.ask_at.ensures.asked moves.moves.pair moves.moves.here)),
      most_less _ _ c.slots.self-inside.is_counted c.slots.self-inside.most _
          (fewer _ g.row.TYPE c.slots.self-inside.not_index moves c.slots.invariant.1
          (c.ask_at.ensures.asked moves.moves.pair moves.moves.here))
          c.one_less-self-inside.ensures c.slots.invariant.2,
    )

pub returns-clause-extracted : goal.returns-clause-extracted
returns-clause-extracted g c =
    let end = c.in_default.ensures.end in
    picks_none _ g.row.TYPE c.slots.self-inside.index c.next_slot.new.index c.slots.self-inside.at c.next_slot.new.at
    c.slots.invariant.1 end.0 end.1

pub invariant_of-self : goal.invariant_of-self
invariant_of-self g c =
    let moves = c.in-Some.ensures.moves in
    most_less _ _ c.slots.self-inside.is_counted c.slots.self-inside.most _
    (fewer _ g.row.TYPE c.slots.self-inside.not_index moves c.slots.invariant.1
    (c.ask_at.ensures.asked moves.moves.pair moves.moves.here))
    c.one_less-self-inside.ensures c.slots.invariant.2
