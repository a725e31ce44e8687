-- What clauses read of a window.
use Rattle.std.specs.Prelude.{ℕ, List, slice_range}
use Rattle.bhtable.specs.declared.lines.window.Window.{Window}

-- the bytes that are read and not yet passed
abbrev pub unread : Window → List ℕ
unread window = slice_range window.bytes.items window.start window.end
