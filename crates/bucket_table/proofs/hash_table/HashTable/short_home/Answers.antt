use Rattle.bucket_table.proofs.Map.Finding.{roomy_finds}
use Rattle.bucket_table.proofs.hash_table.HashTable.short_home.Goals as goal

pub returns : goal.returns
returns g c =
    let finds = roomy_finds g.row.TYPE c.args.hash c.self.inside.hasher c.self.inside.arrays c.self.inside.arrays c.short_home.result
    c.short_home.ensures in
    rw (← c.self.view_is) (record { locked = finds.0; home = finds.1.0; found = finds.1.1 })
