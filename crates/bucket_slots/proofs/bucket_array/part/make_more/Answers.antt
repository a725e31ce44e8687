use Rattle.bucket_slots.proofs.Words.{arith, length, vec_capacity, ◌<◌, ◌∙◌}
use Rattle.bucket_slots.proofs.ArrayParts.{made_one}
use Rattle.bucket_slots.proofs.bucket_array.part.make_more.Goals as goal

pub loop-alloc-preserved : goal.loop-alloc-preserved
loop-alloc-preserved g c =
    let kept = c.loop-alloc.invariant in
    let made = c.loop-alloc.made in
    let pushed = c.push_reserved.ensures in
    let less : length made.items < vec_capacity made = omega (arith, made.ok.0, c.len.ensures, c.loop-alloc-test.true, kept.capacity) in
    record {
      capacity = pushed.capacity ∙ kept.capacity;
      same = rw (pushed.items, c.empty.ensures, pushed.capacity) (made_one made.items (vec_capacity made) c.args.released less ∙ kept.same);
    }
