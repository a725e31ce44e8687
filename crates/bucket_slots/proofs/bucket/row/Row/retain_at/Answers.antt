use Rattle.bucket_slots.proofs.Words.{free, refl, rules, set-set, slot_at, slot_with_value, ◌∙◌}
use Rattle.bucket_slots.proofs.AskingSlots.{dropped, kept, revalued_live}
use Rattle.bucket_slots.proofs.bucket.row.Row.retain_at.Goals as goal

pub returns-then-keep-clause-asked : goal.returns-then-keep-clause-asked
returns-then-keep-clause-asked g c =
    let slot = slot_at c.args.self.now c.args.pos in
    let value = c.entry_mut-value.result.1 in (
      slot_with_value slot c.keep.new.arg3,
      kept (goal.F-step g) c.args.keep.now c.keep.new.self slot c.entry_mut-value.result.0 value (record value { now = c.keep.new.arg3 })
          c.entry_mut-value.ensures.pair (rw c.if-keep.true at c.keep.ensures),
      refl,
    )

pub take-requires : goal.take-requires
take-requires g c =
    (search rules, (c.requires.within, revalued_live c.args.self.now c.args.pos c.keep.new.arg3 c.requires.live_slot))

pub returns-clause-asked : goal.returns-clause-asked
returns-clause-asked g c =
    let slot = slot_at c.args.self.now c.args.pos in
    let value = c.entry_mut-value.result.1 in (
      free,
      dropped (goal.F-step g) c.args.keep.now c.keep.new.self slot c.entry_mut-value.result.0 value (record value { now = c.keep.new.arg3 })
          c.entry_mut-value.ensures.pair (rw c.if-keep.false at c.keep.ensures),
      c.take.ensures.slots ∙ set-set c.args.self.now c.args.pos _ free,
    )
