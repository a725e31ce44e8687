use Rattle.bucket_slots.proofs.Words.{false, sym, true, ◌∙◌, ◌≡◌}
use Rattle.bucket_slots.proofs.SpentBuckets.{spent_is}
use Rattle.bucket_slots.proofs.bucket.Bucket.is_spent.Goals as goal
use Rattle.bucket_slots.proofs.bucket.Bucket.is_spent.Goals.{else-self, then-self}

pub returns-then-is_empty : goal.returns-then-is_empty
returns-then-is_empty g c = λ none.
    elim c.if-self.branch [
      | then-self w ↦
          let vacant = sym w.is_empty.ensures ∙ sym w.value-is ∙ c.if-is_empty.true in
          spent_is g.row.TYPE _ _ _ c.self.view_is c.self.invariant.1 w.if-self.true vacant (c.is_empty-then-is_empty.ensures none)
      | else-self w ↦
          let impossible : false ≡ true = sym w.if-self.false ∙ sym w.value-is ∙ c.if-is_empty.true in
          absurd cc
    ]
