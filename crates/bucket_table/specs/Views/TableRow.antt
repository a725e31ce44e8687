-- The type of a table, as the logic names it.
use Rattle.std.specs.Borrow.{RattleType}
use Rattle.std.specs.declared.cmp.PartialEq as equals
use Rattle.std.specs.declared.default.Default as default
use Rattle.bucket_slots.specs.declared.lru.LruList as list
use Rattle.bucket_table.specs.declared.key_hash.KeyHash as key_hash
use Rattle.bucket_table.specs.contracts.hash_table.HashTable.{the_row}

module _ (K V H L TYPE : RattleType) (equal : equals.Ghosts K.Denot) (hashing : key_hash.Ghosts H.Denot K.Denot)
    (listing : list.Ghosts L.Denot) (fresh : default.Ghosts L.Denot) where
  abbrev pub table_row : RattleType
  table_row = the_row K V H L TYPE equal hashing listing fresh
