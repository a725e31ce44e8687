use Rattle.std.proofs.Common.{length, ap, ◌∙◌}
use Rattle.std.proofs.lemmas.List.{get_or_default}
use Rattle.bucket_slots.specs.BucketView.{pairs_in}
use Rattle.test_layers.proofs.probe.len_at.Goals as goal

pub returns : goal.returns
returns g c =
    c.len.ensures ∙ ap (λ bucket. length (pairs_in bucket))
    (c.index.ensures ∙ get_or_default c.args.buckets.now.items c.args.index _ _ c.requires)
