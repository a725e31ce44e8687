use Rattle.bucket_table.proofs.Words.{bucket_with_value, live_from_pair, slot_in}
use Rattle.bucket_slots.proofs.WrittenValues.{valued}
use Rattle.bucket_table.proofs.Walking.AskingSlot.{goes_at, stays_at}
use Rattle.bucket_table.proofs.Walking.Leaving.{left_both, left_taken, left_written}
use Rattle.bucket_table.proofs.retain.ask_slot.Goals as goal

pub returns-then-ask-keeps-clause-asked : goal.returns-then-ask-keeps-clause-asked
returns-then-ask-keeps-clause-asked g c = λ pair here.
    let value = c.entry_mut-value.result.1 in
    stays_at _ g.row.TYPE c.args.keeps c.ask.result c.args.ask.now c.ask.new.self c.args.bucket.now c.args.at.now pair
    c.entry_mut-value.result.0 value (record value { now = c.ask.new.arg3 }) c.fact_sound.ensures here c.entry_mut-value.ensures.pair
    c.ask.ensures c.if-ask-keeps.true

pub returns-clause-asked : goal.returns-clause-asked
returns-clause-asked g c = λ pair here.
    let value = c.entry_mut-value.result.1 in
    goes_at _ g.row.TYPE c.args.keeps c.ask.result c.args.ask.now c.ask.new.self c.args.bucket.now c.args.at.now pair
    c.entry_mut-value.result.0 value (record value { now = c.ask.new.arg3 }) c.fact_sound.ensures here c.entry_mut-value.ensures.pair
    c.ask.ensures (g.G.Generation.epoch_of c.args.generation.now) c.take_at.result c.take_at.new.bucket c.take_at.new.at
    c.if-ask-keeps.false c.fact_sound-2.ensures c.take_at.ensures.pair c.take_at.ensures.slots c.take_at.ensures.pairs_ahead

pub returns-then-ask-keeps-clause-left : goal.returns-then-ask-keeps-clause-left
returns-then-ask-keeps-clause-left g c =
    left_written g.row.TYPE (g.G.Generation.epoch_of c.args.generation.now) c.args.bucket.now c.args.at.now _ c.ask.new.arg3
    c.entry_mut-value.ensures.pair

pub returns-clause-left : goal.returns-clause-left
returns-clause-left g c =
    let epoch = g.G.Generation.epoch_of c.args.generation.now in
    let changed = bucket_with_value c.args.bucket.now c.args.at.now c.ask.new.arg3 in
    let v = valued g.row.TYPE c.args.bucket.now c.args.at.now _ c.ask.new.arg3 c.fact_sound.ensures c.entry_mut-value.ensures.pair in
    left_both g.row.TYPE epoch c.args.bucket.now changed c.take_at.new.bucket
    (left_written g.row.TYPE epoch c.args.bucket.now c.args.at.now _ c.ask.new.arg3 c.entry_mut-value.ensures.pair)
    (left_taken g.row.TYPE epoch changed c.take_at.new.bucket c.args.at.now (live_from_pair (slot_in changed c.args.at.now) _ v.here)
    c.take_at.ensures.slots)
