use Rattle.std.proofs.Common.{ℕ, ◌≡◌, map, sym}
use Rattle.std.specs.Map.{keys_of}
use Rattle.collections.specs.Maps.{pairs_in_bucket}
use Rattle.bucket_calls.specs.Buckets.{beside_zero}
use Rattle.bucket_calls.specs.Steps.{next_copied}
use Rattle.bucket_calls.proofs.Copied.{pairs_copied}
use Rattle.bucket_calls.proofs.Folds.{folds-map}
use Rattle.bucket_calls.proofs.InBucket.{bucket_copied}
use Rattle.bucket_calls.proofs.KeysCalled.{keys_called}
use Rattle.bucket_calls.proofs.buckets.copy_keys.Goals as goal

pub returns : goal.returns
returns g c =
    let went = keys_called {A = ℕ × ℕ × ℕ} _ (λ s. (s.0.now, s.1.now, s.2.now)) (λ s. (s.0.ghost_name, s.1.ghost_name, s.2.ghost_name))
    (λ before key after. after ≡ next_copied before (beside_zero g.K.Word.word key)) _ _ _ c.for_each_in-there.ensures.calls
    (λ s own t kept e. ((λ i. (e.met.0.0 i, e.met.0.1 i, e.met.0.2 i)), e.met.1)) in
    let keys = keys_of (pairs_in_bucket c.args.set.now c.args.bucket) in
    let told = beside_zero g.K.Word.word in
    rw c.code_of.ensures (bucket_copied _ _ _ _ c.for_each_in-there.ensures.there (
    pairs_copied c.args.start c.args.out.now (map told keys) _ (folds-map next_copied told _ keys _ went.1)
    (c.copied-2-1.given.1 (λ i. (sym went.0 i).1)) (c.out-1.given.1.1 (λ i. (sym went.0 i).2))
    ))
