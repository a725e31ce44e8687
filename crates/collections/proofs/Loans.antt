-- A value of a map was lent: what is written through the loan is the value under the key.
use Rattle.std.proofs.Common.{ℕ, Bool, true, ◌∷◌, Option, Some, None, ◌≡◌, sym}
use Rattle.std.specs.Borrow.{MutBor}
use Rattle.std.specs.Cmp.{IsEquivalence}
use Rattle.std.specs.List.{IsDistinct}
use Rattle.std.specs.Map.{keys_of}
use Rattle.std.specs.Option.{IfNone, IfSome, option_copied_mut}
use Rattle.bucket_slots.specs.BucketView.{bucket_with_value}
use Rattle.bucket_slots.specs.Evicting.{slots_touched}
use Rattle.bucket_table.specs.Map.Lending.{WritesUnder}
use Rattle.bucket_table.specs.Map.LookingUp.{IsAbsent, IsThere}
use Rattle.bucket_table.specs.Map.MapState.{ChangesValue, state_of}
use Rattle.bucket_table.specs.Map.Preparing.{IsPrepared}
use Rattle.bucket_table.specs.Views.ArraysView.{TableView, pairs_of}
use Rattle.collections.specs.Changes.{Replaces, Stays}
use Rattle.collections.specs.Maps.{get_by, map_of}
use Rattle.collections.specs.Slots.{KeepsSlots}
use Rattle.collections.proofs.Lookups.{IsForm, distinct_permuted, distinct_with, form_absent, form_there}
use Rattle.collections.proofs.Slots.{as_long, changed_keeps, prepared_keeps}
use Rattle.collections.proofs.Steps.{replaces, stays}

module _ {K V H : Type 0} (eq : K → K → Bool) (laws : IsEquivalence eq) (kind : ℕ) (t : TableView K V H)
    (distinct : IsDistinct eq (keys_of (pairs_of t.arrays))) (matches : K → Bool) (alike : IsForm eq matches) where
  -- another value under a key leaves the keys distinct
  pub distinct_changed : (s : TableView K V H) (p : K × V) (v : V) → ChangesValue (state_of kind t) p v (state_of kind s)
      → IsDistinct eq (keys_of (pairs_of s.arrays))
  distinct_changed s p v changed =
      distinct_permuted eq laws ((p.0, v) ∷ changed.rest) (pairs_of s.arrays) changed.after.pairs
      (distinct_with eq laws p.0 p.1 v changed.rest (distinct_permuted eq laws (pairs_of t.arrays)
      (p ∷ changed.rest) changed.before distinct))

  -- what is written through the loan
  pub lent_replaces : (touches : Bool) (hash : ℕ) (loan : Option (MutBor V)) (s : TableView K V H) (v : V)
      → IfSome loan (λ lent. WritesUnder touches matches kind hash t lent.now v s)
      → IfSome loan (λ lent. (own : K) × Replaces eq (map_of t) matches (own, lent.now) v (map_of s) × KeepsSlots (map_of t) (map_of s))
  lent_replaces touches hash None s v wrote = tt
  lent_replaces touches hash (Some lent) s v wrote =
      let own = wrote.map.0 in
      let changed = wrote.map.2 in
      let after = distinct_changed s (own, lent.now) v changed in (
        own,
        replaces eq laws kind t s distinct after matches alike (own, lent.now) v wrote.map.1 changed,
        changed_keeps kind hash t s matches (λ bucket at. bucket_with_value (slots_touched touches bucket at) at v) true wrote.arrays,
      )

  -- what is lent
  pub lent_value : (loan : Option (MutBor V)) → IfSome loan (λ lent. (own : K) × IsThere matches (pairs_of t.arrays) (own, lent.now))
      → IfNone loan (IsAbsent matches (pairs_of t.arrays)) → option_copied_mut loan ≡ get_by matches (map_of t)
  lent_value None found absent = sym (form_absent matches (pairs_of t.arrays) absent)
  lent_value (Some lent) found absent =
      sym (form_there eq laws matches alike (pairs_of t.arrays) (found.0, lent.now) distinct found.1.0 found.1.1)

  -- if nothing is lent
  pub lent_none : (hash : ℕ) (loan : Option (MutBor V)) (s : TableView K V H) → IfNone loan (IsPrepared kind hash t s)
      → IfNone loan (IsAbsent matches (pairs_of t.arrays))
      → IfNone loan ((get_by matches (map_of t) ≡ None) × Stays eq (map_of t) (map_of s) × KeepsSlots (map_of t) (map_of s))
  lent_none hash None s prepared absent = (
    form_absent matches (pairs_of t.arrays) absent,
    stays eq laws kind t s distinct
        (distinct_permuted eq laws (pairs_of t.arrays) (pairs_of s.arrays) prepared.map.pairs distinct) prepared.map,
    prepared_keeps t s kind hash s prepared (as_long s.arrays),
  )
  lent_none hash (Some lent) s prepared absent = tt
