-- What a map or a cache ends as, once a value that it lent has been returned.
use Rattle.std.proofs.Common.{◌≡◌, Bool, Option, Some, subst}
use Rattle.std.specs.Borrow.{MutBor}
use Rattle.std.specs.Option.{IfSome}
use Rattle.std.specs.Prelude.{true}
use Rattle.bucket_table.specs.Views.ArraysView.{TableView}
use Rattle.collections.specs.CacheWrites.{IsWritten}
use Rattle.collections.specs.Changes.{Replaces}
use Rattle.collections.specs.Maps.{MapView, map_of}
use Rattle.collections.specs.Slots.{KeepsSlots}

module _ {K V H : Type 0} (eq : K → K → Bool) (map new : MapView K V H) (matches : K → Bool) (loan : Option (MutBor V)) (lent : MutBor V)
    (last value : V) (is : loan ≡ Some lent) (same : last ≡ value)
    (holds : IfSome loan (λ l. (own : K) × Replaces eq map matches (own, l.now) last new × KeepsSlots map new)) where
  -- the value that was lent is replaced by the last one that was written
  pub replaces_lent : (own : K) × Replaces eq map matches (own, lent.now) value new
  replaces_lent =
      let both = rw is at holds in (both.0, subst (λ later. Replaces eq map matches (both.0, lent.now) later new) same both.1)

module _ {K V H : Type 0} (eq : K → K → Bool) (old new : TableView K V H) (matches : K → Bool) (loan : Option (MutBor V)) (lent : MutBor V)
    (last value : V) (is : loan ≡ Some lent) (same : last ≡ value)
    (holds : IfSome loan (λ l. ((own : K) × Replaces eq (map_of old) matches (own, l.now) last (map_of new))
    × IsWritten true matches eq true old new)) where
  -- the same for a cache, whose pair is touched
  pub touches_lent : ((own : K) × Replaces eq (map_of old) matches (own, lent.now) value (map_of new))
      × IsWritten true matches eq true old new
  touches_lent =
      let both = rw is at holds in
      ((both.0.0, subst (λ later. Replaces eq (map_of old) matches (both.0.0, lent.now) later (map_of new)) same both.0.1), both.1)
