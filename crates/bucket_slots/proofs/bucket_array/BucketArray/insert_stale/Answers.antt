use Rattle.bucket_slots.proofs.Words.{ap, refl, set, set-get_or, ◌∙◌}
use Rattle.bucket_slots.proofs.Digests.{null_at}
use Rattle.bucket_slots.proofs.bucket_array.BucketArray.insert_stale.Goals as goal

pub returns-in-Ok-clause-answer : goal.returns-in-Ok-clause-answer
returns-in-Ok-clause-answer g c =
    rw c.bucket_mut-bucket.ensures.bucket at
    (c.get_entry_ptr.ensures.absent (null_at _ _ c.is_valid.ensures.1 c.if-is_valid.false))

pub returns-clause-answer : goal.returns-clause-answer
returns-clause-answer g c =
    let back = c.in-Err.ensures.pair_returned in
    let lent = c.bucket_mut-bucket.ensures.bucket in (
      ap (λ pair. pair.0) back,
      ap (λ pair. pair.1) back,
      rw lent at (c.get_entry_ptr.ensures.absent (null_at _ _ c.is_valid.ensures.1 c.if-is_valid.false)),
      rw lent at c.in-Err.ensures.refused.no_free_slot,
    )

pub returns-then-is_valid-clause-unchanged : goal.returns-then-is_valid-clause-unchanged
returns-then-is_valid-clause-unchanged g c = rw c.bucket_mut-bucket.ensures.bucket (set-get_or c.args.self.now c.args.index _)

pub returns-in-Ok-clause-put : goal.returns-in-Ok-clause-put
returns-in-Ok-clause-put g c =
    c.refresh.ensures ∙ ap (set c.args.self.now c.args.index) (rw c.bucket_mut-bucket.ensures.bucket at c.in-Ok.ensures.slots)

pub returns-clause-unchanged : goal.returns-clause-unchanged
returns-clause-unchanged g c =
    c.refresh.ensures ∙ ap (set c.args.self.now c.args.index) c.in-Err.ensures.refused.unchanged
    ∙ rw c.bucket_mut-bucket.ensures.bucket (set-get_or c.args.self.now c.args.index _)

pub returns-then-is_valid-clause-answer : goal.returns-then-is_valid-clause-answer
returns-then-is_valid-clause-answer g c =
    let found = c.get_entry_ptr.ensures.found (c.is_valid.ensures.0 c.if-is_valid.true) in
    (refl, refl, (c.get_entry_ptr.result, rw c.bucket_mut-bucket.ensures.bucket at found))
