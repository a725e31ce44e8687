use Rattle.std.proofs.Common.{sym}
use Rattle.bucket_table.specs.Views.ArraysView.{pairs_of}
use Rattle.collections.proofs.Lookups.{form_absent, form_there}
use Rattle.collections.proofs.key_form.value_hashed.Goals as goal

pub returns-in-Some : goal.returns-in-Some
returns-in-Some g c = sym (form_there g.K.PartialEq.eq g.met.K.Eq.laws (g.Q.KeyForm.stands_for c.args.form)
    (g.met.Q.KeyForm.alike c.args.form) (pairs_of c.args.table.now.arrays)
    (c.in-Some.field-0-0.now, c.in-Some.value.now) c.fact_sound.ensures.one_map.distinct c.in-Some.ensures.found.0
    (rw c.new.ensures.form at c.in-Some.ensures.found.1))

pub returns-in-None : goal.returns-in-None
returns-in-None g c = sym (form_absent (g.Q.KeyForm.stands_for c.args.form)
    (pairs_of c.args.table.now.arrays) (rw c.new.ensures.form at c.in-None.ensures.absent))
