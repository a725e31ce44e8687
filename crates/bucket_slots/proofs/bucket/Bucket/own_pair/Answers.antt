use Rattle.bucket_slots.proofs.Words.{Option, Some, ap, arith, sym, unwrap_or, ◌∙◌}
use Rattle.bucket_slots.proofs.OwnPairs.{next_is_live, other_is_not}
use Rattle.bucket_slots.proofs.bucket.Bucket.own_pair.Goals as goal

pub pair-requires : goal.pair-requires
pair-requires g c =
    (omega arith, (next_is_live _ _ (sym c.next_live.ensures ∙ c.in-Some.is ∙ ap Some c.if-next-pos.true)).0)

pub returns-then-next-pos : goal.returns-then-next-pos
returns-then-next-pos g c = rw (← c.self.view_is)
    (sym ((next_is_live _ _ (sym c.next_live.ensures ∙ c.in-Some.is ∙ ap Some c.if-next-pos.true)).1 ∙ c.pair.ensures))

pub returns-else-next-pos : goal.returns-else-next-pos
returns-else-next-pos g c = rw (← c.self.view_is) (other_is_not _ _ (λ here.
    let same = sym c.in-Some.is ∙ c.next_live.ensures ∙ here in
    c.if-next-pos.false (ap (λ (place : Option _). unwrap_or place 0) same)))

pub returns-in-None : goal.returns-in-None
returns-in-None g c = rw (← c.self.view_is) (other_is_not c.self.inside.own c.args.pos (λ here.
    let same = sym c.in-None.is ∙ c.next_live.ensures ∙ here in
    cc))
