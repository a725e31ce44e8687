use Rattle.bucket_slots.proofs.Words.{arith, empty_bucket, get_or_read, length, sym, true, unmade_bucket, ◌-◌, ◌<◌, ◌∙◌}
use Rattle.bucket_slots.proofs.ArrayParts.{from_one_less}
use Rattle.bucket_slots.proofs.EmptyPlaces.{all_one}
use Rattle.bucket_slots.proofs.bucket_array.part.are_spent.Goals as goal

pub loop-left-preserved : goal.loop-left-preserved
loop-left-preserved g c =
    let made = c.args.made.now in
    let kept = c.loop-left.invariant in
    let there : c.loop-left.left - 1 < length made.items = omega (arith, made.ok.0, kept.within, c.loop-left-test.true) in
    let here = sym (get_or_read made.items (c.loop-left.left - 1) c.index.result.now there c.index.ensures empty_bucket)
    ∙ c.is_spent.ensures c.if-not-is_spent.false in
    record {
      within = omega (arith, kept.within);
      spent = from_one_less made.items (unmade_bucket true) empty_bucket (c.loop-left.left - 1) here
          (λ i from below. kept.spent i (omega (arith, from)) below);
    }

pub returns : goal.returns
returns g c = λ _. all_one c.args.made.now.items (unmade_bucket true) empty_bucket
    (λ i below. c.loop-left.invariant.spent i (omega (arith, c.loop-left-test.false)) below)
