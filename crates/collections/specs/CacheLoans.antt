-- What a cache is after the borrow of one of its values has ended.
use Rattle.std.specs.Prelude.{⊤}
use Rattle.std.specs.Borrow.{Fml, MutBor, RattleType, follows_so}
use Rattle.std.specs.declared.cmp.PartialEq as equals
use mathlib.Core.Option.{none}
use Rattle.bucket_table.specs.declared.key_hash.KeyHash as key_hash
use Rattle.bucket_table.specs.Views.ArraysView.{TableView}
use Rattle.collections.specs.contracts.hash_cache.HashCache.{the_row}

module _ (K V H : RattleType) (equal : equals.Ghosts K.Denot) (hashing : key_hash.Ghosts H.Denot K.Denot) where
  -- it ends as the relation states
  abbrev pub EndsSo : MutBor (TableView K.Denot V.Denot H.Denot) → (TableView K.Denot V.Denot H.Denot → Type 0) → Fml
  EndsSo cache After =
      let row = the_row K V H (record {}) equal hashing in
      follows_so row row cache.ghost_name none (λ _ _. ⊤) After
