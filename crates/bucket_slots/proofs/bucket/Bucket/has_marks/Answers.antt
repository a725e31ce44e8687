use Rattle.bucket_slots.proofs.Words.{INDEX, ne_eqb, sym, ◌∙◌}
use Rattle.bucket_slots.proofs.Digests.{own_unmarked}
use Rattle.bucket_slots.proofs.bucket.Bucket.has_marks.Goals as goal

pub returns-else-this-eq-INDEX : goal.returns-else-this-eq-INDEX
returns-else-this-eq-INDEX g c =
    let other = c.if-this-eq-INDEX.false in
    rw (← c.self.view_is) (ne_eqb g.row.TYPE INDEX other ∙ sym (own_unmarked g.row.TYPE _ _ c.self.invariant.1 other))
