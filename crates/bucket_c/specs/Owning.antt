-- What a `Held` owns: the same as a `Box<Table>`, or nothing.
use base.Fml.{Fml, ftrue}
use base.Stored.{Coded}
use Rattle.std.specs.Prelude.{Option, Some, None}
use Rattle.std.specs.Coded.{coded_option}
use denote.RawPtr.{Ptr}
use Rattle.std.specs.Box.Ownership.{box_owns}
use Rattle.std.specs.declared.alloc.Global.{Global}
use Rattle.std.specs.contracts.impls.GlobalAllocator.TheImpl.{ghosts}
use Rattle.bucket_c.specs.contracts.tables.Table.{the_row}

-- a box of the table, if there is one
abbrev pub owned : Global → Ptr → Option the_row.Denot → Fml
owned alloc at (Some table) = box_owns (ghosts.dealloc_token alloc) the_row at table
owned alloc at None = ftrue

abbrev pub table_coded : Coded (Option the_row.Denot)
table_coded = coded_option the_row.coded
