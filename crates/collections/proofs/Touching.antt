-- The pair under a matching key of a cache was touched in its place, or no key matches.
use Rattle.std.proofs.Common.{ℕ, ◌≡◌, Bool, true, false, Some, None, is_some, refl, sym, ap, ◌∙◌}
use Rattle.std.specs.Prelude.{IsSome, MatchBool}
use Rattle.std.specs.Cmp.{IsEquivalence}
use Rattle.std.specs.List.{IsDistinct}
use Rattle.std.specs.Map.{keys_of}
use Rattle.std.proofs.lemmas.List.Sorted.{All-permutation, IsPermutation-sym, IsPermutation-trans}
use Rattle.std.proofs.lemmas.Option.{same_Some}
use Rattle.bucket_slots.proofs.CallerLemmas.{bucket_with_value-same}
use Rattle.bucket_slots.specs.BucketView.{BucketView, Place, bucket_with_value, slot_in}
use Rattle.bucket_slots.specs.Evicting.{slots_touched}
use Rattle.bucket_slots.specs.Slots.{live_pair}
use Rattle.bucket_table.specs.Map.ByKey.{ChangesAt, ChangesPlace, PreparesThen, StandsAt, Touches}
use Rattle.bucket_table.specs.Map.Lending.{WritesUnder, with_value}
use Rattle.bucket_table.specs.Map.LookingUp.{IsAbsent, IsThere}
use Rattle.bucket_table.specs.Map.MapState.{ChangesValue, KeepsPairs, state_of}
use Rattle.bucket_table.specs.Map.Preparing.{IsPrepared}
use Rattle.bucket_table.specs.Views.ArraysView.{TableView, pairs_of}
use Rattle.bucket_table.specs.Views.Sides.{arrays_with, bucket_on, with_bucket}
use Rattle.bucket_table.specs.declared.arrays.side.Side.{Side}
use Rattle.bucket_table.proofs.CallerLemmas.{put_there, set_again, then_changed, there_before}
use Rattle.collections.specs.CacheWrites.{IsWritten}
use Rattle.collections.specs.Changes.{Replaces, Stays}
use Rattle.collections.specs.Maps.{contains_by, get_by, map_of}
use Rattle.collections.specs.Orders.{IsTouched}
use Rattle.collections.proofs.InPlace.{found_is}
use Rattle.collections.proofs.Loans.{distinct_changed}
use Rattle.collections.proofs.Lookups.{IsForm, distinct_permuted, form_absent, form_there}
use Rattle.collections.proofs.Moving.{prepared_moves}
use Rattle.collections.proofs.Steps.{replaces, stays}
use Rattle.collections.proofs.Writing.{placed}

module _ {K V H : Type 0} (eq : K → K → Bool) (laws : IsEquivalence eq) (t b : TableView K V H)
    (distinct : IsDistinct eq (keys_of (pairs_of t.arrays))) (matches : K → Bool) (alike : IsForm eq matches)
    (keeps : KeepsPairs (state_of 67 t) (state_of 67 b)) where
  pub kept : Stays eq (map_of t) (map_of b)
  kept = stays eq laws 67 t b distinct (distinct_permuted eq laws (pairs_of t.arrays) (pairs_of b.arrays) keeps.pairs distinct) keeps

  -- no key matches
  pub missed : IsAbsent matches (pairs_of b.arrays) → get_by matches (map_of t) ≡ None
  missed absent = form_absent matches (pairs_of t.arrays) (All-permutation (λ (p : K × V). matches p.0 ≡ false) (pairs_of b.arrays)
      (pairs_of t.arrays) (IsPermutation-sym (pairs_of t.arrays) (pairs_of b.arrays) keeps.pairs) absent)

  -- a pair with a matching key is present
  pub present : (side : Side) (index : ℕ) (at : Place) → StandsAt matches b.arrays side index at → IsSome (get_by matches (map_of t))
  present side index at stands =
      let there = there_before matches (state_of 67 t) (state_of 67 b) stands.pair keeps stands.there in
      rw (form_there eq laws matches alike (pairs_of t.arrays) stands.pair distinct there.0 there.1) refl

  module _ (hash : ℕ) where
    -- there is no pair to touch
    pub untouched : IsPrepared 67 hash t b → IsTouched eq matches false t b
    untouched prepared = record { map = kept; between = b.arrays; carried = prepared_moves hash t b prepared; touched = refl }

    module _ (side : Side) (index : ℕ) (at : Place)
        (moved : PreparesThen 67 hash t (λ between. ChangesPlace matches (slots_touched true) side index at between b))
        (stands : StandsAt matches b.arrays side index at) where
      pub touched : IsTouched eq matches true t b
      touched = record {
        map = kept;
        between = moved.between.arrays;
        carried = prepared_moves hash t moved.between moved.prepared;
        touched = (side, index, at, moved.done.0, ap (λ (z : TableView K V H). z.arrays) moved.done.1);
      }

      module _ (p : K × V) (here : live_pair (slot_in (bucket_on b.arrays side index) at) ≡ Some p) where
        there : IsThere matches (pairs_of t.arrays) p
        there = there_before matches (state_of 67 t) (state_of 67 b) p keeps
            (found_is matches (pairs_of b.arrays) stands.pair p _ stands.slot here stands.there)

        -- its value is what the map has
        pub shown : Some p.1 ≡ get_by matches (map_of t)
        shown = sym (form_there eq laws matches alike (pairs_of t.arrays) p distinct there.0 there.1)

        -- another value is written there
        pub replaced : (v : V) (s : TableView K V H) → ChangesValue (state_of 67 b) p v (state_of 67 s)
            → Replaces eq (map_of t) matches p v (map_of s)
        replaced v s changed =
            let whole = then_changed (state_of 67 t) (state_of 67 b) (state_of 67 s) p v keeps changed in
            replaces eq laws 67 t s distinct (distinct_changed eq laws 67 t distinct matches alike s p v whole) matches alike p v there.1
            whole

      -- and it is written in the pair's place
      pub written_there : (v : V) → IsWritten true matches eq true t (with_value b side index at v)
      written_there v = placed eq laws t (with_value b side index at v) distinct matches alike hash true moved.between moved.prepared v
          (side, index, at, moved.done.0, twice)
        where
          touched_bucket : BucketView K V
          touched_bucket = slots_touched true (bucket_on moved.between.arrays side index) at

          twice : with_value b side index at v ≡ with_bucket moved.between side index (bucket_with_value touched_bucket at v)
          twice =
              ap (λ (z : TableView K V H). with_value z side index at v) moved.done.1
              ∙ ap (λ (c : BucketView K V). with_bucket (with_bucket moved.between side index touched_bucket) side index
              (bucket_with_value c at v))
              (put_there moved.between.arrays side index touched_bucket moved.done.0.within)
              ∙ ap (λ arrays. record { hasher = moved.between.hasher; arrays = arrays })
              (set_again moved.between.arrays side index touched_bucket (bucket_with_value touched_bucket at v))

module _ {K V H : Type 0} (eq : K → K → Bool) (laws : IsEquivalence eq) (t s : TableView K V H)
    (distinct : IsDistinct eq (keys_of (pairs_of t.arrays))) (matches : K → Bool) (alike : IsForm eq matches) (hash : ℕ) where
  -- if the value that was lent is written again, its pair was touched and nothing else
  pub read_touched : (own : K) (value : V) → IsThere matches (pairs_of t.arrays) (own, value)
      → WritesUnder true matches 67 hash t value value s
      → IsTouched eq matches true t s
  read_touched own value there wrote =
      let (side, index, at, stands, is) = wrote.arrays.done in
      let between = wrote.arrays.between in
      let prepared = wrote.arrays.prepared in
      let left = slots_touched true (bucket_on between.arrays side index) at in
      let changed = wrote.map.2 in
      let kept : KeepsPairs (state_of 67 t) (state_of 67 s) =
      record { pairs = IsPermutation-trans _ _ _ changed.before changed.after.pairs; others = changed.after.others } in
      let found = there_before matches (state_of 67 t) (state_of 67 between) stands.pair prepared.map stands.there in
      let same : stands.pair.1 ≡ value = same_Some stands.pair.1 value
      (sym (form_there eq laws matches alike (pairs_of t.arrays) stands.pair distinct found.0 found.1)
      ∙ form_there eq laws matches alike (pairs_of t.arrays) (own, value) distinct there.0 there.1) in
      let again : bucket_with_value left at value ≡ left =
      ap (λ v. bucket_with_value left at v) (sym same) ∙ bucket_with_value-same left at stands.pair stands.slot in
      record {
        map = stays eq laws 67 t s distinct (distinct_permuted eq laws (pairs_of t.arrays) (pairs_of s.arrays) kept.pairs distinct) kept;
        between = between.arrays;
        carried = prepared_moves hash t between prepared;
        touched = (side, index, at, stands, ap (λ (z : TableView K V H). z.arrays) (is ∙ ap (λ c. with_bucket between side index c) again));
      }

  touched_at : (r : Bool) (b : TableView K V H) → ChangesAt matches (slots_touched true) r b s
      → MatchBool r ((side : Side) × (index : ℕ) × (at : Place) × StandsAt matches b.arrays side index at
      × (s.arrays ≡ arrays_with b.arrays side index (slots_touched true (bucket_on b.arrays side index) at))) (s.arrays ≡ b.arrays)
  touched_at true b (side, index, at, stands, is) = (side, index, at, stands, ap (λ (z : TableView K V H). z.arrays) is)
  touched_at false b same = ap (λ (z : TableView K V H). z.arrays) same

  so : (r : Bool) → KeepsPairs (state_of 67 t) (state_of 67 s)
      → PreparesThen 67 hash t (λ between. ChangesAt matches (slots_touched true) r between s) → IsTouched eq matches r t s
  so r keeps moved = record {
    map = kept eq laws t s distinct matches alike keeps;
    between = moved.between.arrays;
    carried = prepared_moves hash t moved.between moved.prepared;
    touched = touched_at r moved.between moved.done;
  }

  -- the table's touch returns whether the map contains the key
  pub promoted : (r : Bool) → Touches matches (state_of 67 t) r (state_of 67 s)
      → PreparesThen 67 hash t (λ between. ChangesAt matches (slots_touched true) r between s)
      → (r ≡ contains_by matches (map_of t)) × IsTouched eq matches r t s
  promoted true done moved = (
    ap is_some (sym (form_there eq laws matches alike (pairs_of t.arrays) done.0.0 distinct done.0.1.0 done.0.1.1)),
    so true done.1 moved,
  )
  promoted false done moved = (ap is_some (sym (form_absent matches (pairs_of t.arrays) done.0)), so false done.1 moved)
