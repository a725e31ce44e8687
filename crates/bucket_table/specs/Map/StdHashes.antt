-- The hash that std's hashers compute.
use Rattle.std.specs.Prelude.{ℕ, ◌%◌, ◌^◌, List}
use Rattle.std.specs.List.{fold}

-- the result of a hasher after these writes, in 64 bits
abbrev pub std_hash : {S : Type 0} → (S → ℕ) → (S → List ℕ → S) → S → List (List ℕ) → ℕ
std_hash finish write start writes = finish (fold write start writes) % 2 ^ 64
