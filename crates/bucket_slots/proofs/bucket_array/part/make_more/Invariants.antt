use Rattle.bucket_slots.proofs.Words.{vec_capacity, vec_len, with_unmade, ◌-◌, ◌≡◌}
use Rattle.bucket_slots.proofs.bucket_array.part.make_more.Given as goal

abbrev pub invariant-loop-alloc : goal.invariant-loop-alloc
invariant-loop-alloc g l = record {
  capacity : vec_capacity l.made ≡ vec_capacity l.fn.made;
  same : with_unmade l.made.items (vec_capacity l.made) l.released ≡ with_unmade l.fn.made.items (vec_capacity l.fn.made) l.released;
}

abbrev pub decreases-loop-alloc : goal.decreases-loop-alloc
decreases-loop-alloc g l = l.len - vec_len l.made
