use Rattle.bucket_slots.proofs.Words.{ap, length, rules, sym, ◌∙◌}
use Rattle.bucket_slots.proofs.Intervals.{home_by_offset}
use Rattle.bucket_slots.proofs.bucket_array.BucketArray.bucket_index.Goals as goal

pub returns : goal.returns
returns g c =
    let kept = c.self.invariant.0 in
    let len_is = ap length (sym c.self.view_is) ∙ kept.len_is in
    home_by_offset c.args.hash _ c.self.inside.hash_offset kept.offset_positive kept.offset_in_range len_is (search rules)
