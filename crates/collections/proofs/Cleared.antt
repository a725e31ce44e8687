-- What a clear leaves of a map.
use Rattle.std.proofs.Common.{◌≡◌, ◌++◌, ◌∷◌, ◌∙◌, [], Bool, List, ap, arith, false, length, map, refl, replicate, sym}
use Rattle.std.proofs.lemmas.List.{length-append, length-map}
use Rattle.std.specs.Borrow.{Bor, MutBor}
use Rattle.bucket_slots.specs.BucketView.{BucketView, pairs_in}
use Rattle.bucket_table.specs.Map.LookingUp.{pairs_in_all}
use Rattle.bucket_table.specs.Views.ArraysView.{TableView, pairs_of}
use Rattle.bucket_table.specs.Views.Settings.{KeepsSettings}
use Rattle.bucket_table.specs.Walking.Retains.{RetainsEach}
use Rattle.bucket_table.proofs.CallerLemmas.{none_joined, pairs_in_row}
use Rattle.collections.specs.Maps.{map_of}
use Rattle.collections.specs.Slots.{cleared}

-- a closure that keeps no pair leaves none
pub none_kept : {S K V : Type 0} (step : S → Bor K → MutBor V → Bool → MutBor V → S → Type 0)
    → ((first : S) (own : Bor K) (before : MutBor V) (answer : Bool) (after : MutBor V) (last : S)
    → step first own before answer after last → answer ≡ false)
    → (first : S) (pairs left : List (K × V)) (last : S) → RetainsEach step first pairs left last → left ≡ []
none_kept step never first [] left last (none, same) = none
none_kept step never first (pair ∷ pairs) left last (own, before, after, answer, between, kept, pair_is, called, left_is, rest) =
    (rw (never first own before answer after between called) at left_is) ∙ none_kept step never between pairs kept last rest

module _ {K V : Type 0} where
  -- buckets without a pair
  none_each : (buckets : List (BucketView K V)) → pairs_in_all buckets ≡ []
      → map (λ bucket. length (pairs_in bucket)) buckets ≡ replicate (length buckets) 0
  none_each [] none = refl
  none_each (bucket ∷ buckets) none =
      let parts = none_joined (pairs_in bucket) (pairs_in_all buckets) none in
      rw (parts.0, none_each buckets parts.1) refl

-- the arrays are as long as before, and have no pair
pub pairs_cleared : {K V H : Type 0} (old new : TableView K V H) → pairs_of new.arrays ≡ [] → KeepsSettings old new
    → length new.arrays.current ≡ length old.arrays.current → length new.arrays.linked ≡ length old.arrays.linked
    → map_of new ≡ cleared (map_of old)
pairs_cleared old new none settings current linked =
    let row = new.arrays.current ++ new.arrays.linked in
    let were = old.arrays.current ++ old.arrays.linked in
    let count : length row ≡ length (map (λ bucket. length (pairs_in bucket)) were) =
    omega (arith, length-append new.arrays.current new.arrays.linked, length-append old.arrays.current old.arrays.linked, current, linked)
    ∙ sym (length-map were _) in
    let lens : map (λ bucket. length (pairs_in bucket)) row ≡ replicate (length (map (λ bucket. length (pairs_in bucket)) were)) 0 =
    none_each row (pairs_in_row new.arrays ∙ none) ∙ ap (λ n. replicate n 0) count in
    rw (none, settings.hasher, settings.minimum, settings.maximum, lens, current, linked) refl
