use Rattle.bucket_slots.proofs.Words.{ap, pair_at, sym, ◌∙◌}
use Rattle.bucket_slots.specs.ArrayView.{bucket_at}
use Rattle.bucket_slots.proofs.bucket_array.BucketArray.peek_by.Goals as goal

pub returns-clause-few : goal.returns-clause-few
returns-clause-few g c = rw c.self.view_is at c.find_among.ensures.few

pub returns-in_default-clause-pair : goal.returns-in_default-clause-pair
returns-in_default-clause-pair g c = rw c.bucket.ensures at c.peek_entry_by.ensures.pair

pub returns-in_default-clause-few : goal.returns-in_default-clause-few
returns-in_default-clause-few g c = rw c.bucket.ensures at c.peek_entry_by.ensures.few

pub returns-in_err-_at-clause-few : goal.returns-in_err-_at-clause-few
returns-in_err-_at-clause-few g c = rw c.self.view_is at c.find_among.ensures.few

pub returns-in_err-_at-clause-pair : goal.returns-in_err-_at-clause-pair
returns-in_err-_at-clause-pair g c =
    let none = rw c.self.view_is at c.in_err-_at.ensures.place in
    rw c.from_residual.ensures (ap (pair_at (bucket_at c.args.self.now c.args.index)) none)

pub returns-clause-pair : goal.returns-clause-pair
returns-clause-pair g c =
    let there = rw c.self.view_is at c.in_ok-_at.ensures.place in
    sym (rw c.self.view_is at c.in_ok-_at.ensures.pair) ∙ ap (pair_at (bucket_at c.args.self.now c.args.index)) there
