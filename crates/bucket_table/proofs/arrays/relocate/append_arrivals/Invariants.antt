use Rattle.bucket_table.proofs.Words.{take}
use Rattle.bucket_table.specs.Layout.Landings.{ListsArrivals}
use Rattle.bucket_table.proofs.arrays.relocate.append_arrivals.Given as goal

abbrev pub invariant-order : goal.invariant-order
invariant-order g l = ListsArrivals l.landings (take l.slot-index l.order) l.initial.current l.current
