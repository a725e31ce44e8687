-- What an old array lends.
use Rattle.std.specs.Prelude.{List}
use Rattle.std.specs.Borrow.{Lends, Fml, RattleType, MutBor}
use Rattle.std.specs.contracts.alloc.Global as global
use Rattle.std.specs.contracts.impls.GlobalAllocator.TheImpl.{ghosts}
use Rattle.std.specs.contracts.boxed.Box as boxed
use Rattle.std.specs.contracts.option.Option as option
use Rattle.std.specs.declared.default.Default as default
use Rattle.bucket_slots.specs.declared.lru.LruList as list
use Rattle.bucket_slots.specs.BucketView.{BucketView}
use Rattle.bucket_slots.specs.contracts.bucket_array.BucketArray.{the_row as array_row}
use Rattle.bucket_table.specs.Layout.OldFields.{OldView, held_with_array, with_array}
use Rattle.bucket_table.specs.contracts.arrays.old_array.OldArray.{the_row}
use Rattle.bucket_table.specs.contracts.arrays.old_array.Rehash as rehash

abbrev pub box_row : RattleType → RattleType
box_row A = boxed.the_row (rehash.the_row A) global.the_row ghosts

-- the boxed array is what the loan ends as, and the tickets stay
abbrev pub LendsBoxed : (A : RattleType) → MutBor (box_row A).Denot → MutBor A.Denot → Fml
LendsBoxed A held loan = Lends (box_row A) A held loan (with_array held.now)

abbrev pub held_row : RattleType → RattleType
held_row A = option.the_row (box_row A)

abbrev pub LendsHeld : (A : RattleType) → MutBor (held_row A).Denot → MutBor A.Denot → Fml
LendsHeld A held loan = Lends (held_row A) A held loan (held_with_array held.now)

module _ (K V L TYPE : RattleType) (listing : list.Ghosts L.Denot) (fresh : default.Ghosts L.Denot) where
  -- the array is what the loan ends as, and the tickets stay
  abbrev pub LendsArray : MutBor (OldView K.Denot V.Denot) → MutBor (List (BucketView K.Denot V.Denot)) → Fml
  LendsArray old loan = Lends (the_row K V L TYPE listing fresh) (array_row K V L TYPE listing fresh) old loan
      (λ array. record old.now { array = array })
