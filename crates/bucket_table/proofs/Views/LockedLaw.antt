-- A locked bucket may change, and what is known of it is a fact with only one proof.
use Rattle.bucket_table.proofs.Words.{All, AreTwoArrays, BucketView, IsEntryHome, IsVacant, List, Meets, ℕ, arith, bucket_at, entries_in}
use Rattle.bucket_table.proofs.Words.{false, length, set, subst, true, ◌<◌, ◌≡◌, ◌≤◌}
use Rattle.bucket_table.proofs.Moves.Exchanges.{changes_at, each_after}

module _ {K V : Type 0} where
  -- a current bucket may hold any pairs whose home it is, if its sources are killed or targets don't have to be empty
  pub law_after_change : (hash : K → ℕ) (c l : List (BucketView K V)) (index : ℕ)
      (b : BucketView K V) → AreTwoArrays hash c l → index < length c
      → (length l ≤ length c → (i : ℕ) → i < length l → Meets (length l) i (length c) index → (bucket_at l i).killed ≡ true)
      → All (IsEntryHome hash (length c) index) (entries_in b) → b.killed ≡ false → AreTwoArrays hash (set c index b) l
  law_after_change hash c l index b law within dead homes alive =
      let put = changes_at index b c within in
      let len : length (set c index b) ≡ length c = put.len in
      record {
        current_home = λ j below. rw len (each_after put (λ k d. k < length c → All (IsEntryHome hash (length c) k) (entries_in d))
            (λ inside. homes) (λ k apart. law.current_home k) j (omega arith));
        linked_home = law.linked_home;
        alive = λ j below. each_after put (λ k d. k < length c → d.killed ≡ false) (λ inside. alive) (λ k apart. law.alive k)
            j (omega arith);
        killed_empty = law.killed_empty;
        empty_targets = λ longer i j old_below below live meets.
            each_after put (λ k d. k < length c → Meets (length l) i (length c) k → IsVacant d)
            (λ inside meets. let gone : (bucket_at l i).killed ≡ true = dead (omega arith) i old_below meets in absurd cc)
            (λ k apart inside. law.empty_targets (omega arith) i k old_below inside live) j (omega arith)
            (subst (λ (n : ℕ). Meets (length l) i n j) len meets);
      }
