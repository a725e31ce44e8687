-- A value of a cache is written in its place.
use Rattle.std.proofs.Common.{ℕ, Bool, true, false, Option, Some, None, ap, refl, ◌≡◌}
use Rattle.std.specs.Borrow.{MutBor}
use Rattle.std.specs.Cmp.{IsEquivalence}
use Rattle.std.specs.List.{IsDistinct}
use Rattle.std.specs.Map.{keys_of}
use Rattle.std.specs.Option.{IfNone, IfSome}
use Rattle.bucket_slots.specs.BucketView.{bucket_with_value}
use Rattle.bucket_slots.specs.Evicting.{slots_touched}
use Rattle.bucket_table.specs.Map.ByKey.{ChangesAt, PreparesThen, WritesAt}
use Rattle.bucket_table.specs.Map.Lending.{WritesUnder}
use Rattle.bucket_table.specs.Map.LookingUp.{IsAbsent}
use Rattle.bucket_table.specs.Map.Preparing.{IsPrepared}
use Rattle.bucket_table.specs.Views.ArraysView.{TableView, pairs_of}
use Rattle.collections.specs.CacheWrites.{IsWritten}
use Rattle.collections.specs.Changes.{Replaces, Stays}
use Rattle.collections.specs.Maps.{get_by, map_of}
use Rattle.collections.proofs.Loans.{lent_none, lent_replaces}
use Rattle.collections.proofs.Lookups.{IsForm}
use Rattle.collections.proofs.Moving.{arrays_stay, prepared_moves}

module _ {K V H : Type 0} (eq : K → K → Bool) (laws : IsEquivalence eq) (t s : TableView K V H)
    (distinct : IsDistinct eq (keys_of (pairs_of t.arrays))) (matches : K → Bool) (alike : IsForm eq matches) (hash : ℕ) where
  module _ (touches : Bool) (between : TableView K V H) (prepared : IsPrepared 67 hash t between) where
    between_stays : Stays eq (map_of t) (map_of (record t { arrays = between.arrays }))
    between_stays = arrays_stay eq laws t distinct between.arrays prepared.kept.keeps

    -- if a pair was found
    pub placed : (v : V) → ChangesAt matches (λ bucket at. bucket_with_value (slots_touched touches bucket at) at v) true between s
        → IsWritten touches matches eq true t s
    placed v (side, index, at, stands, is) = record {
      between = between.arrays;
      map = between_stays;
      carried = prepared_moves hash t between prepared;
      written = (v, side, index, at, stands, ap (λ (z : TableView K V H). z.arrays) is);
    }

    -- if none was found
    unplaced : s ≡ between → IsWritten touches matches eq false t s
    unplaced is = record {
      between = between.arrays;
      map = between_stays;
      carried = prepared_moves hash t between prepared;
      written = ap (λ (z : TableView K V H). z.arrays) is;
    }

  pub written : (r : Bool) → PreparesThen 67 hash t (λ between. WritesAt matches r between s) → IsWritten false matches eq r t s
  written true moved = placed false moved.between moved.prepared moved.done.0 moved.done.1
  written false moved = unplaced false moved.between moved.prepared moved.done

  module _ (touches : Bool) where
    -- what is written through a loan
    pub lent_written : (loan : Option (MutBor V)) (v : V) → IfSome loan (λ lent. WritesUnder touches matches 67 hash t lent.now v s)
        → IfSome loan (λ lent. ((own : K) × Replaces eq (map_of t) matches (own, lent.now) v (map_of s))
        × IsWritten touches matches eq true t s)
    lent_written None v wrote = tt
    lent_written (Some lent) v wrote = (
      (let both = lent_replaces eq laws 67 t distinct matches alike touches hash (Some lent) s v wrote in (both.0, both.1)),
      placed touches wrote.arrays.between wrote.arrays.prepared v wrote.arrays.done,
    )

    -- if nothing is lent
    pub lent_unwritten : (loan : Option (MutBor V)) → IfNone loan (IsPrepared 67 hash t s)
        → IfNone loan (IsAbsent matches (pairs_of t.arrays))
        → IfNone loan ((get_by matches (map_of t) ≡ None) × Stays eq (map_of t) (map_of s) × IsWritten touches matches eq false t s)
    lent_unwritten (Some lent) prepared absent = tt
    lent_unwritten None prepared absent =
        let none = lent_none eq laws 67 t distinct matches alike hash None s prepared absent in
        (none.0, none.1, unplaced touches s prepared refl)
