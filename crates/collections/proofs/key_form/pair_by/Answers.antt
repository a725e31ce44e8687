use Rattle.std.proofs.Common.{sym}
use Rattle.bucket_table.specs.Views.ArraysView.{pairs_of}
use Rattle.collections.proofs.Lookups.{form_absent, form_there}
use Rattle.collections.proofs.StoredKeys.{key_absent, key_there}
use Rattle.collections.proofs.key_form.pair_by.Goals as goal

pub returns-in-Some : goal.returns-in-Some
returns-in-Some g c =
    let test = g.Q.KeyForm.stands_for c.args.form in
    let alike = g.met.Q.KeyForm.alike c.args.form in
    let ps = pairs_of c.args.table.now.arrays in
    let there = rw c.new.ensures.form at c.in-Some.ensures.found in
    let distinct = c.fact_sound.ensures.one_map.distinct in
    let pair : g.row.K.Denot × g.row.V.Denot = (c.in-Some.own.now, c.in-Some.value.now) in
    record {
      key = sym (key_there g.K.PartialEq.eq g.met.K.Eq.laws test alike ps pair distinct there.0 there.1);
      same_key = there.1;
      value = sym (form_there g.K.PartialEq.eq g.met.K.Eq.laws test alike ps pair distinct there.0 there.1);
      there = there;
    }

pub returns-in-None : goal.returns-in-None
returns-in-None g c =
    let test = g.Q.KeyForm.stands_for c.args.form in
    let ps = pairs_of c.args.table.now.arrays in
    let none = rw c.new.ensures.form at c.in-None.ensures.absent in
    record { key = sym (key_absent test ps none); same_key = tt; value = sym (form_absent test ps none); there = tt }
