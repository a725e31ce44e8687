use Rattle.bucket_slots.proofs.Words.{ap, arith, empty_bucket, replicate, ◌∙◌, ◌≡◌}
use Rattle.std.proofs.lemmas.List.{replicate-append-replicate}
use Rattle.bucket_slots.proofs.bucket_array.part.empty_buckets.Goals as goal

pub loop-i-preserved : goal.loop-i-preserved
loop-i-preserved g c =
    let pushed = c.push_reserved.ensures in
    let kept = c.loop-i.invariant in
    record {
      room = rw pushed.capacity kept.room;
      made = rw (pushed.items, c.new.ensures, kept.made) (replicate-append-replicate c.loop-i._i 1 empty_bucket);
    }

pub returns : goal.returns
returns g c =
    let all : c.loop-i._i ≡ c.args.len = omega (arith, c.loop-i.auto._i-end, c.loop-i-test.false) in
    c.loop-i.invariant.made ∙ ap (λ n. replicate n empty_bucket) all
