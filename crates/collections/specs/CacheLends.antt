-- What a cache is when a mutable borrow of one of its values ends.
use Rattle.std.specs.Prelude.{◌≡◌, Bool, true, false, Option, None, IfNone, IfSome}
use Rattle.std.specs.Borrow.{Fml, LendsSo, MutBor, RattleType}
use Rattle.std.specs.declared.cmp.PartialEq as equals
use Rattle.bucket_table.specs.declared.key_hash.KeyHash as key_hash
use Rattle.bucket_table.specs.Views.ArraysView.{TableView}
use Rattle.collections.specs.Changes.{Replaces, Stays}
use Rattle.collections.specs.Maps.{get_by, map_of}
use Rattle.collections.specs.contracts.hash_cache.HashCache.{the_row}

module _ (K V H : RattleType) (equal : equals.Ghosts K.Denot) (hashing : key_hash.Ghosts H.Denot K.Denot)
    (cache : MutBor (TableView K.Denot V.Denot H.Denot)) where
  -- the value of the matching key is the last one written through the borrow; if there is none, no key matches and the map stays; the table
  -- changes by the relation `Becomes`, which takes whether the key is present
  abbrev pub LendsValue : (K.Denot → Bool) → Option (MutBor V.Denot)
      → (Bool → TableView K.Denot V.Denot H.Denot → TableView K.Denot V.Denot H.Denot → Type 0) → Fml
  LendsValue matches loan Becomes =
      LendsSo (the_row K V H (record {}) equal hashing) V cache loan
      (λ new value. IfSome loan (λ lent. ((own : K.Denot) × Replaces equal.eq (map_of cache.now) matches (own, lent.now) value (map_of new))
      × Becomes true cache.now new))
      (λ new. IfNone loan ((get_by matches (map_of cache.now) ≡ None) × Stays equal.eq (map_of cache.now) (map_of new)
      × Becomes false cache.now new))
