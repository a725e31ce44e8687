use Rattle.bucket_slots.proofs.Words.{all_free, drop, length, suffix_len, take, ◌+◌, ◌-◌, ◌≡◌}
use Rattle.bucket_slots.proofs.bucket.chain.Chain.kept_len.Given as goal

-- the number of the passed blocks that would be kept
abbrev pub invariant-loop-at : goal.invariant-loop-at
invariant-loop-at g l =
    let rows = l.self in record {
      here : l.at ≡ drop l.passed rows;
      within : l.passed + length l.at ≡ length rows;
      kept : l.kept ≡ l.passed - suffix_len all_free (take l.passed rows);
    }
