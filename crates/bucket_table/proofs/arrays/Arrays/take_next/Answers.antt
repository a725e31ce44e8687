use Rattle.bucket_table.proofs.Words.{ap, live_pair, pairs_ahead, slot_in, sym, ◌∙◌}
use Rattle.bucket_table.specs.Walking.Row.{row_of}
use Rattle.bucket_table.proofs.Walking.Row.{none_without, takes_first}
use Rattle.bucket_table.proofs.arrays.Arrays.take_next.Goals as goal

pub returns-then-not-has_row : goal.returns-then-not-has_row
returns-then-not-has_row g c =
    let none = none_without (row_of c.args.self.now) c.args.index.now c.args.at.now (c.has_row.ensures.none c.if-not-has_row.true) in
    (none, none)

pub returns : goal.returns
returns g c =
    takes_first c.args.self.now c.args.index.now c.args.at.now c.in-Some._bucket.now c.next_slot.new.index c.next_slot.new.at
    c.remove.new.at c.remove.result c.remove.new.self c.in-Some.ensures.moves
    (ap (λ b. live_pair (slot_in b c.next_slot.new.at)) (sym c.nth_mut.ensures.bucket) ∙ c.remove.ensures.pair)
    (c.remove.ensures.pairs_ahead ∙ ap (λ b. pairs_ahead b c.next_slot.new.at) c.nth_mut.ensures.bucket)
