-- What a copy of one bucket's pairs states about the bucket.
use Rattle.std.proofs.Common.{ℕ, ◌<◌, Bool, true, false, List, cond, length, refl, arith}
use Rattle.std.specs.Prelude.{◌↔◌, IsTrue}
use Rattle.bucket_calls.specs.Buckets.{CopiesBucket}
use Rattle.bucket_calls.specs.Codes.{absent, ok}

pub bucket_copied : (bucket : ℕ) (lens : List ℕ) (there : Bool) (Copied : Type 0) → (IsTrue there ↔ bucket < length lens) → Copied
    → CopiesBucket bucket lens Copied (cond there ok absent)
bucket_copied bucket lens true Copied is copied =
    record { there = λ _. refl; past = λ past. absurd (omega (arith, past, is.0 refl)); copied = copied }
bucket_copied bucket lens false Copied is copied =
    record { there = λ less. let never : IsTrue false = is.1 less in absurd cc; past = λ _. refl; copied = copied }
