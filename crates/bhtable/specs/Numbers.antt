-- The numbers of a line.
use Rattle.std.specs.Prelude.{ℕ, ◌+◌, ◌-◌, ◌*◌, ◌^◌, Bool, ◌&&◌, List, [], ◌∷◌, length, nat_le, nat_lt}
use Rattle.std.specs.Str.{all_ascii_digits}

-- the number whose decimal digits are these after those of `number`
abbrev pub value_after : ℕ → List ℕ → ℕ
value_after number [] = number
value_after number (digit ∷ digits) = value_after (number * 10 + (digit - 48)) digits

-- the number with these decimal digits
abbrev pub value_of : List ℕ → ℕ
value_of digits = value_after 0 digits

-- 1 to 20 decimal digits of a number below 2^64
unfoldable pub is_number : List ℕ → Bool
is_number bytes = nat_lt 0 (length bytes) && nat_le (length bytes) 20 && all_ascii_digits bytes && nat_lt (value_of bytes) (2 ^ 64)
