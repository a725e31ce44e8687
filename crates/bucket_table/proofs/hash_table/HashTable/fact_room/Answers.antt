use Rattle.bucket_table.proofs.Words.{TableView, length, rules, subst, sym, ◌<◌}
use Rattle.bucket_table.proofs.hash_table.HashTable.fact_room.Goals as goal

pub fact_room_of-requires : goal.fact_room_of-requires
fact_room_of-requires g c =
    let stands = subst (λ (z : TableView g.row.K.Denot g.row.V.Denot g.row.H.Denot). 0 < length
    z.arrays.current) (sym c.self.view_is) c.requires.array_stands in
    search (rules, stands)
