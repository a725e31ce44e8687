-- What a removal that leaves a tombstone does to the map that a table is.
use Rattle.std.proofs.Common.{ℕ, Bool, Option, Some, None, is_some}
use Rattle.std.specs.Borrow.{Bor}
use Rattle.std.specs.Cmp.{IsEquivalence}
use Rattle.std.specs.List.{IsDistinct}
use Rattle.std.specs.Map.{keys_of}
use Rattle.bucket_table.specs.Map.ByKey.{Marks}
use Rattle.bucket_table.specs.Map.MapState.{state_of}
use Rattle.bucket_table.specs.Views.ArraysView.{TableView, pairs_of}
use Rattle.collections.specs.Changes.{ReadsOut, TakesOut}
use Rattle.collections.specs.Maps.{MapView, map_of}
use Rattle.collections.proofs.Lookups.{IsForm, form_absent}
use Rattle.collections.proofs.Steps.{stays, takes}

module _ {K V H : Type 0} (eq : K → K → Bool) where
  module _ (laws : IsEquivalence eq) (kind : ℕ) (t s : TableView K V H) (distinct : IsDistinct eq (keys_of (pairs_of t.arrays)))
      (after : IsDistinct eq (keys_of (pairs_of s.arrays))) where
    -- a pair that is read and becomes a tombstone is removed
    pub reads_out : {R : Type 0} (reads : Bor K → Bor V → R → Type 0) (matches : K → Bool) → IsForm eq matches → (r : Option R)
        → Marks matches reads (state_of kind t) r (state_of kind s) → ReadsOut eq matches reads (map_of t) r (map_of s)
    reads_out reads matches alike (Some answer) done =
        (done.0, done.1, done.2, takes eq laws kind t s distinct after matches alike (done.0.now, done.1.now) done.3 done.4)
    reads_out reads matches alike None done = (form_absent matches (pairs_of t.arrays) done.0, stays eq laws kind t s distinct after done.1)

  -- whatever is read from it
  pub takes_out : {R : Type 0} (reads : Bor K → Bor V → R → Type 0) (matches : K → Bool) (old new : MapView K V H) (r : Option R)
      → ReadsOut eq matches reads old r new → TakesOut eq matches old (is_some r) new
  takes_out reads matches old new (Some answer) done = ((done.0.now, done.1.now), done.3)
  takes_out reads matches old new None done = done
