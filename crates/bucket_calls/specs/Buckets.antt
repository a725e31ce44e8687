-- What a call copies of the pairs of one bucket.
use Rattle.std.specs.Prelude.{ℕ, ◌≡◌, ◌<◌, ◌≤◌, List, length}
use Rattle.bucket_calls.specs.Codes.{absent, ok}

-- pairs as words, by the encoding of a value or of a key: a key that is a byte string is encoded as 0, and a set's keys are paired with 0
abbrev pub value_alone : {K V : Type 0} → (V → ℕ) → K × V → ℕ × ℕ
value_alone word pair = (0, word pair.1)

abbrev pub beside_zero : {K : Type 0} → (K → ℕ) → K → ℕ × ℕ
beside_zero word key = (word key, 0)

-- what was copied, and the code, by whether there is such a bucket; past the last one there are no pairs
pub record CopiesBucket (bucket : ℕ) (lens : List ℕ) (Copied : Type 0) (code : ℕ) : Type 0 where
  pub there : bucket < length lens → code ≡ ok
  pub past : length lens ≤ bucket → code ≡ absent
  pub copied : Copied
