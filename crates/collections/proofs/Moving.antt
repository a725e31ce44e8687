-- Pairs of a cache's old array have moved.
use Rattle.std.proofs.Common.{ℕ, ◌≡◌, ◌<◌, Bool, ap, arith, length, refl}
use Rattle.std.specs.Cmp.{IsEquivalence}
use Rattle.std.specs.List.{IsDistinct}
use Rattle.std.specs.Map.{keys_of}
use Rattle.bucket_table.specs.Map.Preparing.{IsPrepared}
use Rattle.bucket_table.specs.Rehash.Carrying.{listed_among}
use Rattle.bucket_table.specs.Views.ArraysView.{ArraysView, TableView, pairs_of}
use Rattle.bucket_table.specs.Views.Keeping.{Keeps, KeepsArrays}
use Rattle.bucket_table.proofs.CallerLemmas.{keeps_pairs, state_found}
use Rattle.collections.specs.Changes.{Stays}
use Rattle.collections.specs.Maps.{map_of}
use Rattle.collections.specs.Orders.{MovesOn}
use Rattle.collections.proofs.Lookups.{distinct_permuted}
use Rattle.collections.proofs.Steps.{stays}

module _ {K V : Type 0} where
  -- the facts that the table keeps, and more
  pub moves_on : (old new : ArraysView K V) → KeepsArrays old new → (length old.linked ≡ 0 → new ≡ old) → MovesOn old new
  moves_on old new kept alone = record {
    alone = alone;
    pairs = keeps_pairs old new kept.keeps;
    slots = kept.current_len;
    moved = kept.order.moved;
    left = kept.order.left;
    stay = kept.order.stay;
    came = listed_among old.linked kept.order.moved;
    came_is = refl;
    arrived = kept.order.arrived;
    carried = kept.order.carried;
    in_order = kept.order.in_order;
  }

  -- beside an old array
  pub moves_beside : (old new : ArraysView K V) → (0 < length old.linked → KeepsArrays old new) → 0 < length old.linked → MovesOn old new
  moves_beside old new beside some = moves_on old new (beside some) (λ none. absurd (omega (arith, some, none)))

module _ {K V H : Type 0} where
  -- in a table that is prepared
  pub prepared_moves : (hash : ℕ) (old after : TableView K V H) → IsPrepared 67 hash old after → MovesOn old.arrays after.arrays
  prepared_moves hash old after prepared =
      moves_on old.arrays after.arrays prepared.kept (λ none. ap (λ (t : TableView K V H). t.arrays) (prepared.alone none))

  -- the map stays
  pub arrays_stay : (eq : K → K → Bool) → IsEquivalence eq → (old : TableView K V H) → IsDistinct eq (keys_of (pairs_of old.arrays))
      → (arrays : ArraysView K V) → Keeps old.arrays arrays → Stays eq (map_of old) (map_of (record old { arrays = arrays }))
  arrays_stay eq laws old distinct arrays kept =
      let keeps = state_found 67 old.hasher old.arrays arrays kept in
      stays eq laws 67 old (record old { arrays = arrays }) distinct
      (distinct_permuted eq laws (pairs_of old.arrays) (pairs_of arrays) keeps.pairs distinct) keeps
