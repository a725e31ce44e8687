use Rattle.bucket_table.proofs.Words.{sym}
use Rattle.std.proofs.lemmas.Bool.{ne_eqb}
use Rattle.bucket_slots.specs.declared.bucket.TheConstants.{INDEX}
use Rattle.bucket_table.proofs.retain.take_at.Goals as goal

pub returns-then-this-eq-INDEX-clause-slots : goal.returns-then-this-eq-INDEX-clause-slots
returns-then-this-eq-INDEX-clause-slots g c = rw c.if-this-eq-INDEX.true c.mark_removed.ensures.slots

pub returns-clause-slots : goal.returns-clause-slots
returns-clause-slots g c = rw (ne_eqb g.row.TYPE INDEX c.if-this-eq-INDEX.false) c.remove.ensures.slots

pub returns-then-this-eq-INDEX-clause-pair : goal.returns-then-this-eq-INDEX-clause-pair
returns-then-this-eq-INDEX-clause-pair g c = λ frees. absurd (frees c.if-this-eq-INDEX.true)

pub returns-clause-pair : goal.returns-clause-pair
returns-clause-pair g c = λ frees. sym c.remove.ensures.pair
