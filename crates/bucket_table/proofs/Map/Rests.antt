-- What an iterator records of the number of remaining pairs.
use Rattle.bucket_table.proofs.Words.{Bool, IsTrue, List, ap, arith, counted_to, length, suc, ◌-◌, ◌<◌, ◌^◌, ◌∙◌, ◌∷◌, ◌≡◌, ◌≢◌, ◌≤◌, ℕ}
use Rattle.bucket_table.specs.Map.Counting.{IsMost, IsOneLess, IsRest}

module _ {A : Type 0} (old new : List A) (counted : Bool) where
  -- none is removed
  pub rest_same : (rest : ℕ) → old ≡ new → IsRest counted rest old → IsRest counted rest new
  rest_same rest same is = λ known. is known ∙ ap length same

  -- the first is removed
  pub rest_less : (rest less : ℕ) (first : A) → old ≡ first ∷ new → IsOneLess rest less → IsRest counted rest old → IsRest counted less new
  rest_less rest less first same one is = λ known.
      let whole : rest ≡ suc (length new) = is known ∙ ap length same in
      let less_is : less ≡ rest - 1 = one (omega arith) in
      omega arith

  -- one is removed, of at most a number
  pub most_less : (most less : ℕ) → length new < length old → IsOneLess most less → IsMost counted most old → IsMost counted less new
  most_less most less fewer one is = λ known.
      let bound : length old ≤ most = is known in
      let less_is : less ≡ most - 1 = one (omega arith) in
      omega arith

-- the count of a list, at most 2^64 - 1, is its length, unless it is that number
module _ {A : Type 0} (all left : List A) (counted : Bool) (count : ℕ) (exact : IsTrue counted → count ≢ 2 ^ 64 - 1)
    (is : count ≡ counted_to all) (same : left ≡ all)
  where
    pub rest_counted : IsRest counted count left
    rest_counted = λ known.
        let apart : count ≢ 2 ^ 64 - 1 = exact known in
        let same_len : length left ≡ length all = ap length same in
        omega arith

    pub most_counted : IsMost counted count left
    most_counted = λ known.
        let apart : count ≢ 2 ^ 64 - 1 = exact known in
        let same_len : length left ≡ length all = ap length same in
        omega arith
