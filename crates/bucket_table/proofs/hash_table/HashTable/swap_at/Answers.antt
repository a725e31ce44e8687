use Rattle.bucket_table.proofs.Words.{refl}
use Rattle.bucket_table.proofs.hash_table.HashTable.swap_at.Goals as goal

pub returns-clause-map : goal.returns-clause-map
returns-clause-map g c =
    let e = c.entry_mut_at.ensures in
    rw (c.replace.ensures.value, c.replace.ensures.after) (c.entry_mut_at.result.0.now, e.pair, e.map c.args.value)

pub returns-clause-table : goal.returns-clause-table
returns-clause-table g c = rw (← c.replace.ensures.after) refl
