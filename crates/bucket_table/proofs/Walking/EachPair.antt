-- Calls of a function with each pair of an array, bucket by bucket.
use Rattle.bucket_table.proofs.Words.{BucketView, List, [], ap, append-nil, bucket_at, empty_bucket, length, pairs_in, subst, sym, take, ℕ}
use Rattle.bucket_table.proofs.Words.{◌++◌, ◌+◌, ◌<◌, ◌∙◌, ◌∷◌, ◌≡◌}
use Rattle.std.specs.Borrow.{Bor}
use Rattle.bucket_slots.proofs.CallingEach.{calls_joined}
use Rattle.bucket_slots.specs.Walking.{CallsEach}
use Rattle.bucket_table.specs.Map.LookingUp.{pairs_in_all}
use Rattle.std.proofs.lemmas.List.{take_more}
use Rattle.bucket_table.proofs.Walking.Row.{all_joined}

module _ {K V : Type 0} where
  pairs_in_all-more : (bs : List (BucketView K V)) (i : ℕ) → i < length bs
      → pairs_in_all (take i bs) ++ pairs_in (bucket_at bs i) ≡ pairs_in_all (take (i + 1) bs)
  pairs_in_all-more bs i within =
      ap (λ ps. pairs_in_all (take i bs) ++ ps) (sym (append-nil (pairs_in (bucket_at bs i))))
      ∙ sym (ap pairs_in_all (take_more bs i empty_bucket within) ∙ all_joined (take i bs) (bucket_at bs i ∷ []))

  module _ {S : Type 0} (step : S → Bor K → Bor V → S → Type 0) where
    -- the same pairs
    pub calls_same : (first last : S) (pairs others : List (K × V)) → pairs ≡ others → CallsEach step first pairs last
        → CallsEach step first others last
    calls_same first last pairs others same calls = subst (λ ps. CallsEach step first ps last) same calls

    -- one more bucket of an array
    pub calls_more : (first now next : S) (bs : List (BucketView K V)) (i : ℕ) (b : BucketView K V) → i < length bs → b ≡ bucket_at bs i
        → CallsEach step first (pairs_in_all (take i bs)) now → CallsEach step now (pairs_in b) next
        → CallsEach step first (pairs_in_all (take (i + 1) bs)) next
    calls_more first now next bs i b within is calls more =
        calls_same first next _ _ (ap (λ c. pairs_in_all (take i bs) ++ pairs_in c) is ∙ pairs_in_all-more bs i within)
        (calls_joined step first now next (pairs_in_all (take i bs)) (pairs_in b) calls more)
