-- A known hash of keys.
use Rattle.std.specs.Prelude.{ℕ, ◌≡◌, Bool, true}

-- each matching key has this hash
abbrev pub HaveHash : {K : Type 0} → (K → Bool) → (K → ℕ) → ℕ → Type 0
HaveHash {K} matches hash_of hash = (key : K) → matches key ≡ true → hash_of key ≡ hash
