use Rattle.bucket_table.proofs.Words.{ap, inl, inr, read_apart, refl, same_Some}
use Rattle.bucket_table.proofs.Words.{slot_in, sym, ◌==◌, ◌∙◌}
use Rattle.bucket_slots.specs.declared.bucket.TheConstants.{INDEX}
use Rattle.bucket_table.proofs.Walking.Leaving.{left_same, left_taken, taken_out}
use Rattle.bucket_table.proofs.retain.retain_at.Goals as goal

pub returns-then-keep-clause-retained : goal.returns-then-keep-clause-retained
returns-then-keep-clause-retained g c = λ pair here.
    let read = read_apart (slot_in c.args.bucket.now c.args.at.now) _ _ c.requires.live_slot c.key.ensures c.val.ensures in
    inl (λ test means. ap test (same_Some pair _ (sym here ∙ read)) ∙ sym (means _ _ _ c.keep.ensures) ∙ c.if-keep.true, refl, refl)

pub returns-clause-retained : goal.returns-clause-retained
returns-clause-retained g c = λ pair here.
    let read = read_apart (slot_in c.args.bucket.now c.args.at.now) _ _ c.requires.live_slot c.key.ensures c.val.ensures in
    let out = taken_out g.row.TYPE (g.G.Generation.epoch_of c.args.generation.now) (g.row.TYPE == INDEX) c.args.bucket.now c.args.at.now
    pair here in inr (
      λ test means. ap test (same_Some pair _ (sym here ∙ read)) ∙ sym (means _ _ _ c.keep.ensures) ∙ c.if-keep.false,
      ap (λ b. b.killed) c.take_at.ensures.slots ∙ out.0,
      rw c.take_at.ensures.slots out.1,
      c.take_at.ensures.pairs_ahead,
    )

pub returns-then-keep-clause-left : goal.returns-then-keep-clause-left
returns-then-keep-clause-left g c = left_same g.row.TYPE (g.G.Generation.epoch_of c.args.generation.now) c.args.bucket.now

pub returns-clause-left : goal.returns-clause-left
returns-clause-left g c = left_taken g.row.TYPE (g.G.Generation.epoch_of c.args.generation.now) c.args.bucket.now c.take_at.new.bucket
    c.args.at.now c.requires.live_slot c.take_at.ensures.slots
