-- What a `Held` lends.
use base.Fml.{Fml}
use Rattle.std.specs.Prelude.{Some}
use Rattle.std.specs.Borrow.{Lends, MutBor}
use Rattle.bucket_c.specs.declared.held.Held.{Held}
use Rattle.bucket_c.specs.declared.tables.Table.{Table}
use Rattle.bucket_c.specs.contracts.held.Held as held
use Rattle.bucket_c.specs.contracts.tables.Table as table

-- the same pointer, with another table
abbrev pub with_table : Held → Table → Held
with_table held table = record held { table = Some table }

-- when the loan ends, the `Held` holds what was written through the loan
abbrev pub lends_table : MutBor Held → MutBor Table → Fml
lends_table lender lent = Lends held.the_row table.the_row lender lent (with_table lender.now)
