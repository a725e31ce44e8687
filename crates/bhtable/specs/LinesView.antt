-- What callers see of the lines of a reader.
use Rattle.std.specs.Prelude.{ℕ, Bool, List, Option}

-- the bytes that are read and not yet passed, whether the reader is at its end, and what is left in it, if that is known
pub record LinesView : Type 0 where
  pub unread : List ℕ
  pub is_ended : Bool
  pub left : Option (List ℕ)
