-- The table of a collection fits in memory: a caller that is generic in the hasher has to prove it when it makes a collection.
use Rattle.std.specs.Prelude.{◌≡◌, false, []}
use Rattle.std.specs.Borrow.{RattleType}
use Rattle.std.specs.Mem.{FitsInMemory}
use denote.Param.{number}
use denote.Plain.{Nothing}
use Rattle.std.specs.declared.cmp.PartialEq as equals
use Rattle.bucket_slots.specs.contracts.lru.doubly_linked_list.DoublyLinkedList as linked_list
use Rattle.bucket_slots.specs.contracts.lru.doubly_linked_list.DoublyLinkedListDefault.TheImpl as linked_list_default
use Rattle.bucket_slots.specs.contracts.lru.doubly_linked_list.DoublyLinkedListLruList.TheImpl as linked_list_listing
use Rattle.bucket_table.specs.declared.key_hash.KeyHash as key_hash
use Rattle.bucket_table.specs.Views.TableRow.{table_row}

module _ (K V H : RattleType) (equal : equals.Ghosts K.Denot) (hashing : key_hash.Ghosts H.Denot K.Denot) where
  -- the table of a map
  abbrev pub MapFits : Type 0
  MapFits = FitsInMemory
      (table_row K V H Nothing (number 83) equal hashing
      (record { KEEPS = false; listed = λ _ _. []; IsTail = λ _ tail. tail ≡ 0 }) (record { is_default = λ _. Unit {0} }))

module _ (K V H : RattleType) (equal : equals.Ghosts K.Denot) (hashing : key_hash.Ghosts H.Denot K.Denot) where
  -- the table of a cache
  abbrev pub CacheFits : Type 0
  CacheFits = FitsInMemory
      (table_row K V H linked_list.the_row (number 67) equal hashing linked_list_listing.ghosts linked_list_default.ghosts)

module _ (K H : RattleType) (equal : equals.Ghosts K.Denot) (hashing : key_hash.Ghosts H.Denot K.Denot) where
  -- the table of a set
  abbrev pub SetFits : Type 0
  SetFits = MapFits K Nothing H equal hashing

module _ (K V H : RattleType) (equal : equals.Ghosts K.Denot) (hashing : key_hash.Ghosts H.Denot K.Denot) where
  -- the table of an index
  abbrev pub IndexFits : Type 0
  IndexFits = FitsInMemory
      (table_row K V H Nothing (number 79) equal hashing
      (record { KEEPS = false; listed = λ _ _. []; IsTail = λ _ tail. tail ≡ 0 }) (record { is_default = λ _. Unit {0} }))
