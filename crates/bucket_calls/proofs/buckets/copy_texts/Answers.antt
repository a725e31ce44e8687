use Rattle.std.proofs.Common.{ℕ, ◌≡◌, map, sym}
use Rattle.collections.specs.Maps.{pairs_in_bucket}
use Rattle.collections.proofs.Visits.{pairs_visited_from}
use Rattle.bucket_calls.specs.Buckets.{value_alone}
use Rattle.bucket_calls.specs.Steps.{next_copied}
use Rattle.bucket_calls.proofs.Copied.{pairs_copied}
use Rattle.bucket_calls.proofs.Folds.{folds-map}
use Rattle.bucket_calls.proofs.InBucket.{bucket_copied}
use Rattle.bucket_calls.proofs.buckets.copy_texts.Goals as goal

pub returns : goal.returns
returns g c =
    let went = pairs_visited_from {A = ℕ × ℕ × ℕ} (λ s. (s.0.now, s.1.now, s.2.now))
    (λ s. (s.0.ghost_name, s.1.ghost_name, s.2.ghost_name)) _
    (λ before pair after. after ≡ next_copied before (value_alone g.V.Word.word pair)) _ _ _ c.each_in-there.ensures.calls
    (λ s own value t kept e. ((λ i. (e.met.0.0 i, e.met.0.1 i, e.met.0.2 i)), e.met.1)) in
    let pairs = pairs_in_bucket (g.C.Bucketed.map c.args.table.now) c.args.bucket in
    let told = value_alone g.V.Word.word in
    rw c.code_of.ensures (bucket_copied _ _ _ _ c.each_in-there.ensures.there (
    pairs_copied c.args.start c.args.out.now (map told pairs) _ (folds-map next_copied told _ pairs _ went.1)
    (c.copied-2-1.given.1 (λ i. (sym went.0 i).1)) (c.out-1.given.1.1 (λ i. (sym went.0 i).2))
    ))
