-- What happens to the slots if a bucket is found for an insertion.
use Rattle.std.proofs.Common.{ℕ, ◌≡◌, ◌<◌, ◌≤◌, ◌+◌, ◌*◌, ◌/◌, ◌%◌, Bool, true, false, Option, Some, None, Result, Ok, Err, List, ◌∷◌, ◌⊎◌}
use Rattle.std.proofs.Common.{inl, inr, is_some, suc, ◌-◌}
use Rattle.std.specs.Borrow.{Bor}
use Rattle.std.proofs.Common.{length, refl, sym, subst, ap, ◌∙◌, arith, set, length-set}
use Rattle.std.specs.List.Sorted.{IsPermutation}
use Rattle.std.proofs.lemmas.List.Sorted.{length_permutation}
use Rattle.std.proofs.lemmas.Bool.{cases_eq, cases_lt}
use Rattle.std.proofs.lemmas.List.{get_or-set_other, get_or-set_same, length-map, nil_from_length}
use Rattle.bucket_slots.specs.ArrayView.{bucket_at}
use Rattle.bucket_slots.specs.BucketView.{BucketView, Place, bucket_with_value, empty_bucket, entries_in, pairs_in, slot_in}
use Rattle.bucket_slots.specs.Homes.{IsHome}
use Rattle.bucket_slots.specs.Sizing.{IsLength, IsLengthFor}
use Rattle.bucket_slots.specs.Clearing.{slots_after_insertion}
use Rattle.bucket_slots.specs.Slots.{live_pair}
use Rattle.bucket_slots.proofs.CallerLemmas.{entries_in-slots_after_insertion, length-entries_in, rewritten}
use Rattle.bucket_table.specs.Map.ByKey.{ChangesAt, Inserts, InsertsAt, Marks, PreparesThen, ShrinksAt, Takes, Upserts, UpsertsAt, WritesAt}
use Rattle.bucket_table.specs.Map.Counting.{counted_to, pairs_left}
use Rattle.bucket_table.specs.Map.Finding.{Finds, FindsBucket, MakesReady, ReadiesOrGrows, ReadiesThenGrows}
use Rattle.bucket_table.specs.Map.MapState.{ChangesValue, KeepsPairs, state_of}
use Rattle.bucket_table.specs.Map.Preparing.{IsPrepared}
use Rattle.bucket_table.specs.Rehash.Relocation.{home_of, homed_len}
use Rattle.bucket_table.specs.Rehash.Units.{WorksUnits}
use Rattle.bucket_table.specs.Resize.Asking.{AsksShrinking, RemovesAndShrinks}
use Rattle.bucket_table.specs.Resize.Resizing.{IsPushed}
use Rattle.bucket_table.specs.Resize.Sparse.{IsSparse}
use Rattle.bucket_table.specs.Resize.Growing.{Grows}
use Rattle.bucket_table.specs.Views.ArraysView.{ArePlaced, ArraysView, TableView, pairs_of}
use Rattle.bucket_table.specs.Views.Sides.{arrays_with, bucket_on, buckets_on, with_bucket}
use Rattle.bucket_table.specs.Resize.Overfull.{IsOverfullBucket}
use Rattle.bucket_table.specs.declared.arrays.side.Side.{Side}
use Rattle.bucket_table.specs.declared.arrays.side.Side.TheVariants.{Current, Old}
use Rattle.bucket_table.specs.declared.hash_table.ResizeRule.TheVariants.{Counted}
use Rattle.bucket_slots.specs.declared.not_inserted.NotInserted.{NotInserted}
use Rattle.bucket_slots.specs.declared.not_inserted.NotInserted.TheVariants.{Memory, Present}
use Rattle.bucket_table.proofs.CallerLemmas.{hasher_kept, homed-permutation, homed_here}
use Rattle.collections.specs.Crowding.{HasAtHome}
use Rattle.collections.specs.Maps.{MapView, map_of}
use Rattle.collections.specs.Slots.{ChangesSlots, GrowsSlots, KeepsSlots, LosesSlots, MakesSlots, ShrinksSlots}
use Rattle.collections.proofs.Crowding.{at_home, ready_len}
use Rattle.collections.proofs.Found.{overfull_ready}
use Rattle.collections.proofs.Shrinking.{freed}

module _ {K V : Type 0} where
  -- another bucket leaves as many
  pub len_with : (a : ArraysView K V) (side to : Side) (i : ℕ) (b : BucketView K V)
      → length (buckets_on (arrays_with a side i b) to) ≡ length (buckets_on a to)
  len_with a Current Current i b = length-set a.current i b
  len_with a Current Old i b = refl
  len_with a Old Current i b = refl
  len_with a Old Old i b = length-set a.linked i b

  -- an overfull bucket has a pair for each own slot
  overfull_len : (bucket : BucketView K V) → IsOverfullBucket bucket → 32 ≤ length (pairs_in bucket)
  overfull_len bucket (inl many) = omega (arith, many)
  overfull_len bucket (inr (many, long)) = many

  -- an old array stays, or is dropped
  stands_on : {steps : ℕ} {GetsReady : ℕ → Type 0} (old new : ArraysView K V) → WorksUnits steps GetsReady old new
      → (length new.linked ≡ length old.linked) ⊎ (length new.linked ≡ 0)
  stands_on old new works = elim (cases_lt 0 (length new.linked)) [
    | inl stands ↦ inl ((works.stands stands).len)
    | inr gone ↦ inr (omega (arith, gone))
  ]

-- as many buckets on either side
pub record AreAsLong {K V : Type 0} (old new : ArraysView K V) : Type 0 where
  pub current : length new.current ≡ length old.current
  pub linked : length new.linked ≡ length old.linked

pub as_long : {K V : Type 0} (a : ArraysView K V) → AreAsLong a a
as_long a = record { current = refl; linked = refl }

pub as_long_with : {K V : Type 0} (a : ArraysView K V) (side : Side) (i : ℕ) (b : BucketView K V) → AreAsLong a (arrays_with a side i b)
as_long_with a side i b = record { current = len_with a side Current i b; linked = len_with a side Old i b }

module _ {K V H : Type 0} (old new : TableView K V H) where
  keeps_by : {steps : ℕ} {GetsReady : ℕ → Type 0} (ready : ArraysView K V) → length ready.current ≡ length old.arrays.current
      → WorksUnits steps GetsReady old.arrays ready → AreAsLong ready new.arrays → KeepsSlots (map_of old) (map_of new)
  keeps_by ready current works long = record {
    slots = omega (arith, current, long.current);
    old_slots = elim (stands_on old.arrays ready works) [
      | inl stays ↦ inl (omega (arith, stays, long.linked))
      | inr gone ↦ inr (omega (arith, gone, long.linked))
    ];
  }

  -- a unit that is worked, and a bucket that is prepared
  pub prepared_keeps : (kind hash : ℕ) (between : TableView K V H) → IsPrepared kind hash old between → AreAsLong between.arrays new.arrays
      → KeepsSlots (map_of old) (map_of new)
  prepared_keeps kind hash between prepared long = keeps_by between.arrays prepared.kept.current_len prepared.units long

  readied : (index : ℕ) (ready : ArraysView K V) → MakesReady old.arrays index ready → AreAsLong ready new.arrays
      → KeepsSlots (map_of old) (map_of new) ⊎ MakesSlots (map_of old) (map_of new)
  readied index ready makes long = elim (cases_lt 0 (length old.arrays.current)) [
    | inl stands ↦ inl (keeps_by ready (ready_len old.arrays index ready makes stands) makes.units long)
    | inr none ↦ elim (cases_lt 0 (length old.arrays.linked)) [
      | inl beside ↦ inl (keeps_by ready (makes.beside beside).current_len makes.units long)
      | inr alone ↦
          let made = (makes.first (omega (arith, alone))).1 (omega (arith, none)) in
          let len : length made.fresh ≡ (32 * length new.arrays.current) / 32 =
          omega (arith, long.current, ap (λ (a : ArraysView K V). length a.current) made.new_is) in
          inr (record {
            none = omega (arith, none);
            slots = subst (λ (n : ℕ). IsLengthFor old.arrays.minimum n) len made.fresh_is.len;
            old_slots = omega (arith, alone, long.linked, ap (λ (a : ArraysView K V). length a.linked) made.new_is);
          })
    ]
  ]

  module _ (hash_of : H → K → ℕ) (key : K) (beside : 0 < length new.arrays.linked → 0 < length new.arrays.current) where
    abbrev IsNearlyFull : ℕ → Type 0
    IsNearlyFull len = HasAtHome 31 (hash_of old.hasher) key (32 * len) (pairs_of old.arrays)

    -- there is no pair if there is no array
    no_home : (len : ℕ) → length old.arrays.current ≡ 0 → length old.arrays.linked ≡ 0 → IsNearlyFull len → ⊥
    no_home len none alone full =
        let current = nil_from_length old.arrays.current none in
        let linked = nil_from_length old.arrays.linked alone in
        let many = rw (current, linked) at full.1 in
        omega (arith, many)

    -- arrays that grew because a bucket was nearly full
    pushed_grows : (between : ArraysView K V) (index capacity : ℕ) (ready : ArraysView K V) → MakesReady old.arrays index ready
        → IsPushed capacity ready between → AreAsLong between new.arrays → 31 ≤ length (pairs_in (bucket_at ready.current index))
        → (31 ≤ length (pairs_in (bucket_at between.linked index)) → IsNearlyFull (length between.linked))
        → ChangesSlots (hash_of old.hasher) key (map_of old) (map_of new)
    pushed_grows between index capacity ready makes pushed long many full =
        let array : between.linked ≡ ready.current = ap (λ (a : ArraysView K V). a.linked) pushed.new_is in
        let nearly = full (subst (λ (bs : List (BucketView K V)). 31 ≤ length (pairs_in (bucket_at bs index))) (sym array) many) in
        let len : length between.linked ≡ length old.arrays.current = ap length array ∙ current_len nearly in
        record {
          crowded = subst (λ (n : ℕ). IsNearlyFull n) len nearly;
          old_slots = omega (arith, len, long.linked);
          slots = omega (arith, beside (omega (arith, len, long.linked, nearly.0)));
        }
      where
        current_len : IsNearlyFull (length between.linked) → length ready.current ≡ length old.arrays.current
        current_len nearly = elim (cases_lt 0 (length old.arrays.current)) [
          | inl stands ↦ ready_len old.arrays index ready makes stands
          | inr none ↦ elim (cases_lt 0 (length old.arrays.linked)) [
            | inl some ↦ (makes.beside some).current_len
            | inr alone ↦ absurd (no_home (length between.linked) (omega (arith, none)) (omega (arith, alone)) nearly)
          ]
        ]

    -- a bucket that was found, if the pairs in it have it as their home
    pub found_grows : (kind hash : ℕ) (between : TableView K V H) (side : Side) (index : ℕ)
        → FindsBucket Counted kind hash old side index between
        → AreAsLong between.arrays new.arrays
        → (side ≡ Old → 31 ≤ length (pairs_in (bucket_on between.arrays Old index)) → IsNearlyFull (length between.arrays.linked))
        → GrowsSlots hash_of key (map_of old) (map_of new)
    unfolding ReadiesOrGrows ReadiesThenGrows GrowsSlots
    found_grows kind hash between side index finds long full = elim finds.found [
      | inl readies ↦ from readies
      | inr (overfull, on, grows) ↦
          let home = subst (λ (s : Side). IsHome (length (buckets_on between.arrays s)) hash index) on finds.home in
          let same : length between.arrays.linked ≡ length old.arrays.current =
          ap (λ (a : ArraysView K V). length a.linked) grows.pushed.new_is in
          let here : grows.overfull.bucket.index ≡ index = sym (grows.overfull.bucket.home.the_one index (rw same at home.own)) in
          let crowd = rw here at grows.overfull.bucket.full in
          let many = overfull_len (bucket_at old.arrays.current index) crowd in
          inr (inr (pushed_grows between.arrays index _ old.arrays (overfull_ready hash index old.arrays between.arrays grows) grows.pushed
          long (omega (arith, many)) (full on)))
    ]
      where
        from : ReadiesThenGrows kind hash old.arrays side index between.arrays → GrowsSlots hash_of key (map_of old) (map_of new)
        from (ready, makes, resizes, grown) = by_side side refl grown
          where
            by_side : (s : Side) → side ≡ s → Grows s ready between.arrays → GrowsSlots hash_of key (map_of old) (map_of new)
            by_side Current is same =
                let still : AreAsLong ready new.arrays = record {
                  current = long.current ∙ ap (λ (a : ArraysView K V). length a.current) same;
                  linked = long.linked ∙ ap (λ (a : ArraysView K V). length a.linked) same;
                } in
                elim (readied index ready makes still) [
                  | inl keeps ↦ inl keeps
                  | inr made ↦ inr (inl made)
                ]
            by_side Old is (capacity, pushed) = elim resizes [
              | inl asked ↦ inr (inr (pushed_grows between.arrays index capacity ready makes pushed long asked.0.full (full is)))
              | inr stays ↦
                  let within = subst (λ (s : Side). index < length (buckets_on between.arrays s)) is finds.home.within in
                  absurd (omega (arith, within, ap (λ (a : ArraysView K V). length a.linked) stays.1, pushed.alone))
            ]

module _ {K V : Type 0} where
  -- an insertion into a bucket adds one pair there
  len-after_insertion : (kind : ℕ) (keeps : ℕ → Bool) (b : BucketView K V) (p : K × V) (byte : ℕ)
      → length (pairs_in (slots_after_insertion kind keeps b p byte)) ≡ length (pairs_in b) + 1
  len-after_insertion kind keeps b p byte =
      let after = slots_after_insertion kind keeps b p byte in
      let more = length_permutation ((p, byte) ∷ entries_in b) (entries_in after) (entries_in-slots_after_insertion kind keeps b p byte) in
      omega (arith, more, length-entries_in b, length-entries_in after)

  -- another value leaves as many pairs in each bucket
  len-with_value : (b : BucketView K V) (at : Place) (p : K × V) (w : V) → live_pair (slot_in b at) ≡ Some p
      → length (pairs_in (bucket_with_value b at w)) ≡ length (pairs_in b)
  len-with_value b at p w here =
      let after = bucket_with_value b at w in
      let is = rewritten b at p w here in
      let was = length_permutation (entries_in b) ((p, is.byte) ∷ is.rest) is.before_is in
      let now = length_permutation (((p.0, w), is.byte) ∷ is.rest) (entries_in after) is.after_is in
      omega (arith, was, now, length-entries_in b, length-entries_in after)

  len-set : (bs : List (BucketView K V)) (i j : ℕ) (b : BucketView K V) → length (pairs_in b) ≡ length (pairs_in (bucket_at bs i))
      → i < length bs → length (pairs_in (bucket_at (set bs i b) j)) ≡ length (pairs_in (bucket_at bs j))
  len-set bs i j b same within = elim (cases_eq j i) [
    | inl here ↦ rw (here, get_or-set_same bs i b empty_bucket within) same
    | inr apart ↦ ap (λ (c : BucketView K V). length (pairs_in c)) (get_or-set_other bs i j b empty_bucket apart)
  ]

  len-elsewhere : (a : ArraysView K V) (side to : Side) (i j : ℕ) (b : BucketView K V)
      → length (pairs_in b) ≡ length (pairs_in (bucket_on a side i)) → i < length (buckets_on a side)
      → length (pairs_in (bucket_on (arrays_with a side i b) to j)) ≡ length (pairs_in (bucket_on a to j))
  len-elsewhere a Current Current i j b same within = len-set a.current i j b same within
  len-elsewhere a Current Old i j b same within = refl
  len-elsewhere a Old Current i j b same within = refl
  len-elsewhere a Old Old i j b same within = len-set a.linked i j b same within

  bucket_with : (a : ArraysView K V) (side : Side) (i : ℕ) (b : BucketView K V) → i < length (buckets_on a side)
      → bucket_on (arrays_with a side i b) side i ≡ b
  bucket_with a Current i b within = get_or-set_same a.current i b empty_bucket within
  bucket_with a Old i b within = get_or-set_same a.linked i b empty_bucket within

-- a call that changes a place, if a pair matches, after a bucket was prepared
pub changed_keeps : {K V H : Type 0} (kind hash : ℕ) (old new : TableView K V H) (matches : K → Bool)
    (change : BucketView K V → Place → BucketView K V) (is_there : Bool)
    → PreparesThen kind hash old (λ between. ChangesAt matches change is_there between new)
    → KeepsSlots (map_of old) (map_of new)
changed_keeps {K} {V} {H} kind hash old new matches change true moved =
    let (side, i, at, stands, is) = moved.done in
    prepared_keeps old new kind hash moved.between moved.prepared
    (subst (λ (t : TableView K V H). AreAsLong moved.between.arrays t.arrays) (sym is)
    (as_long_with moved.between.arrays side i (change (bucket_on moved.between.arrays side i) at)))
changed_keeps {K} {V} {H} kind hash old new matches change false moved =
    prepared_keeps old new kind hash moved.between moved.prepared
    (subst (λ (t : TableView K V H). AreAsLong moved.between.arrays t.arrays) (sym moved.done) (as_long moved.between.arrays))

min_with : {K V : Type 0} (a : ArraysView K V) (side : Side) (i : ℕ) (b : BucketView K V) → (arrays_with a side i b).minimum ≡ a.minimum
min_with a Current i b = refl
min_with a Old i b = refl

-- one pair less if one was removed
pub fewer_taken : {K V H : Type 0} (kind : ℕ) (matches : K → Bool) (old new : TableView K V H) (r : Option (K × V))
    → Takes matches (state_of kind old) r (state_of kind new) → is_some r ≡ true
    → length (pairs_of old.arrays) ≡ suc (length (pairs_of new.arrays))
fewer_taken kind matches old new (Some pair) x is =
    omega (arith, length_permutation (pairs_of old.arrays) (pair ∷ pairs_of new.arrays) x.1.pairs)
fewer_taken kind matches old new None x is = absurd cc

pub fewer_marked : {K V H R : Type 0} (kind : ℕ) (matches : K → Bool) (reads : Bor K → Bor V → R → Type 0) (old new : TableView K V H)
    (r : Option R) → Marks matches reads (state_of kind old) r (state_of kind new) → is_some r ≡ true
    → length (pairs_of old.arrays) ≡ suc (length (pairs_of new.arrays))
fewer_marked kind matches reads old new (Some answer) (own, value, read, wanted, x) is =
    omega (arith, length_permutation (pairs_of old.arrays) ((own.now, value.now) ∷ pairs_of new.arrays) x.pairs)
fewer_marked kind matches reads old new None x is = absurd cc

-- a call that removes a pair if one matches, after a bucket was prepared
pub taken_loses : {K V H : Type 0} (kind hash : ℕ) (old new : TableView K V H) (matches : K → Bool)
    (change : BucketView K V → Place → BucketView K V) (is_there : Bool)
    → (0 < length old.arrays.current → IsLength (length old.arrays.current))
    → (is_there ≡ true → length (pairs_of old.arrays) ≡ suc (length (pairs_of new.arrays)))
    → PreparesThen kind hash old (λ between. ShrinksAt matches change (pairs_left Counted old.arrays) is_there between new)
    → LosesSlots is_there (map_of old) (map_of new)
unfolding LosesSlots
taken_loses {K} {V} {H} kind hash old new matches change false long fewer moved =
    prepared_keeps old new kind hash moved.between moved.prepared
    (subst (λ (t : TableView K V H). AreAsLong moved.between.arrays t.arrays) (sym moved.done) (as_long moved.between.arrays))
taken_loses {K} {V} {H} kind hash old new matches change true long fewer moved = from moved.done
  where
    between : ArraysView K V
    between = moved.between.arrays

    pairs : ℕ
    pairs = counted_to (pairs_of old.arrays) - 1

    from : ShrinksAt matches change (Some pairs) true moved.between new
        → KeepsSlots (map_of old) (map_of new) ⊎ ShrinksSlots (map_of old) (map_of new)
    from (side, i, at, stands, shrinks) = by shrinks
      where
        b : BucketView K V
        b = change (bucket_on between side i) at

        stays : new.arrays ≡ arrays_with between side i b → KeepsSlots (map_of old) (map_of new) ⊎ ShrinksSlots (map_of old) (map_of new)
        stays same = inl (prepared_keeps old new kind hash moved.between moved.prepared
            (subst (λ (a : ArraysView K V). AreAsLong between a) (sym same) (as_long_with between side i b)))

        len : length (arrays_with between side i b).current ≡ length old.arrays.current
        len = (as_long_with between side i b).current ∙ moved.prepared.kept.current_len

        more : AsksShrinking (arrays_with between side i b) i → old.arrays.minimum < 32 * length old.arrays.current
        more asks = omega (
          arith,
          asks.more,
          length-map (arrays_with between side i b).current (λ bucket. length (pairs_in bucket)),
          len,
          min_with between side i b,
          moved.prepared.kept.keeps.minimum,
        )

        few : IsSparse pairs (arrays_with between side i b) → 0 < length old.arrays.current
            → 8 * length (pairs_of new.arrays) < 32 * length old.arrays.current
        few sparse some = omega (arith, sparse, len, fewer refl, (long some).at_most)

        gone : (went : (32 * length new.arrays.linked ≡ 32 * length old.arrays.current)
            ⊎ ((32 * length new.arrays.current ≡ 0) × (32 * length new.arrays.linked ≡ 0)))
            → IsSparse pairs (arrays_with between side i b) → AsksShrinking (arrays_with between side i b) i
            → ShrinksSlots (map_of old) (map_of new)
        gone went sparse asks = record { more = more asks; few = few sparse (omega (arith, asks.some, len)); went = went }

        by : RemovesAndShrinks (Some pairs) between side i b new.arrays
            → KeepsSlots (map_of old) (map_of new) ⊎ ShrinksSlots (map_of old) (map_of new)
        by (inr (none, same)) = stays same
        by (inl ((emptied, (sparse, asks)), (plan, is, frees))) =
            elim (freed pairs plan (arrays_with between side i b) new.arrays is frees) [
              | inl same ↦ stays same
              | inr (inl (least, given)) ↦ inr (gone (inr (
                omega (arith, ap (λ (a : ArraysView K V). length a.current) given.new_is),
                omega (arith, ap (λ (a : ArraysView K V). length a.linked) given.new_is, given.alone),
              ))
                  sparse asks)
              | inr (inr (capacity, pushed)) ↦
                  inr (gone (inl (omega (arith, ap (λ (a : ArraysView K V). length a.linked) pushed.new_is, len))) sparse asks)
            ]

-- a call that writes a value if a pair matches
pub written_keeps : {K V H : Type 0} (kind hash : ℕ) (old new : TableView K V H) (matches : K → Bool) (is_there : Bool)
    → PreparesThen kind hash old (λ between. WritesAt matches is_there between new) → KeepsSlots (map_of old) (map_of new)
written_keeps kind hash old new matches true moved =
    changed_keeps kind hash old new matches (λ bucket at. bucket_with_value bucket at moved.done.0) true
    (record { between = moved.between; prepared = moved.prepared; done = moved.done.1 })
written_keeps kind hash old new matches false moved =
    changed_keeps kind hash old new matches (λ bucket at. bucket) false
    (record { between = moved.between; prepared = moved.prepared; done = moved.done })

module _ {K V H : Type 0} (hash_of : H → K → ℕ) (key : K) where
  -- slots that stay are no more than an insertion may leave
  pub keeps_grows : (old new : MapView K V H) → KeepsSlots old new → GrowsSlots hash_of key old new
  unfolding GrowsSlots
  keeps_grows old new keeps = inl keeps

  -- nor does a table in which no bucket was found
  pub unfound_grows : (kind hash : ℕ) (old new : TableView K V H) → IsPrepared kind hash old new
      → GrowsSlots hash_of key (map_of old) (map_of new)
  unfound_grows kind hash old new prepared =
      keeps_grows (map_of old) (map_of new) (prepared_keeps old new kind hash new prepared (as_long new.arrays))

  -- and only the numbers of slots count
  pub grows_as : (old new later : MapView K V H) → later.slots ≡ new.slots → later.old_slots ≡ new.old_slots
      → GrowsSlots hash_of key old new → GrowsSlots hash_of key old later
  unfolding GrowsSlots
  grows_as old new later slots old_slots grows = elim grows [
    | inl keeps ↦ inl (record {
      slots = slots ∙ keeps.slots;
      old_slots = elim keeps.old_slots [ inl same ↦ inl (old_slots ∙ same) | inr gone ↦ inr (old_slots ∙ gone) ];
    })
    | inr (inl makes) ↦ inr (inl (record {
      none = makes.none;
      slots = subst (λ (n : ℕ). IsLengthFor old.minimum (n / 32)) (sym slots) makes.slots;
      old_slots = old_slots ∙ makes.old_slots;
    }))
    | inr (inr changes) ↦ inr (inr (record {
      crowded = changes.crowded;
      old_slots = old_slots ∙ changes.old_slots;
      slots = omega (arith, slots, changes.slots);
    }))
  ]

-- as many slots, and as many old ones
pub slots_same : {K V H : Type 0} (old new : MapView K V H) → new.slots ≡ old.slots → new.old_slots ≡ old.old_slots → KeepsSlots old new
slots_same old new slots old_slots = record { slots = slots; old_slots = inl old_slots }

module _ {K V H : Type 0} (hash_of : H → K → ℕ) (key : K) (old new : TableView K V H) (placed : ArePlaced (hash_of new.hasher) new.arrays)
    (beside : 0 < length new.arrays.linked → 0 < length new.arrays.current) where
  -- that many pairs in a home, of which some were added, and the others were present
  pub nearly : (count came : ℕ) (side : Side) (index len : ℕ) → old.hasher ≡ new.hasher → length (buckets_on new.arrays side) ≡ len
      → IsHome len (hash_of old.hasher key) index → count + came ≤ length (pairs_in (bucket_on new.arrays side index))
      → homed_len (hash_of old.hasher) ((32 * len) / 32) (home_of ((32 * len) / 32) (hash_of old.hasher key)) (pairs_of new.arrays)
      ≡ homed_len (hash_of old.hasher) ((32 * len) / 32) (home_of ((32 * len) / 32) (hash_of old.hasher key)) (pairs_of old.arrays) + came
      → HasAtHome count (hash_of old.hasher) key (32 * len) (pairs_of old.arrays)
  nearly count came side index len same long home many more =
      let here : IsHome (length (buckets_on new.arrays side)) (hash_of new.hasher key) index = rw (long, ← same) home in
      let now = at_home (hash_of new.hasher) new.arrays side index placed (count + came) key here many in
      let there = rw (long, ← same) at now in
      (there.0, omega (arith, there.1, more))

  -- a pair was put into the bucket that was found
  pub added_grows : (kind : ℕ) (keeps : ℕ → Bool) (value : V) (between : TableView K V H) (side : Side) (index byte : ℕ)
      → FindsBucket Counted kind (hash_of old.hasher key) old side index between → old.hasher ≡ new.hasher
      → IsPermutation ((key, value) ∷ pairs_of old.arrays) (pairs_of new.arrays)
      → new ≡ with_bucket between side index (slots_after_insertion kind keeps (bucket_on between.arrays side index) (key, value) byte)
      → GrowsSlots hash_of key (map_of old) (map_of new)
  added_grows kind keeps value between side index byte finds same pairs is =
      let b = slots_after_insertion kind keeps (bucket_on between.arrays side index) (key, value) byte in
      let long : AreAsLong between.arrays new.arrays =
      subst (λ (t : TableView K V H). AreAsLong between.arrays t.arrays) (sym is) (as_long_with between.arrays side index b) in
      found_grows old new hash_of key beside kind (hash_of old.hasher key) between side index finds long
      (λ on many.
      let len = length between.arrays.linked in
      let home : IsHome len (hash_of old.hasher key) index =
      subst (λ (s : Side). IsHome (length (buckets_on between.arrays s)) (hash_of old.hasher key) index) on finds.home in
      let there : bucket_on new.arrays Old index ≡ slots_after_insertion kind keeps (bucket_on between.arrays Old index) (key, value) byte =
      subst (λ (s : Side). bucket_on new.arrays s index ≡ slots_after_insertion kind keeps (bucket_on between.arrays s index)
      (key, value) byte)
      on (ap (λ (t : TableView K V H). bucket_on t.arrays side index) is ∙ bucket_with between.arrays side index b finds.home.within) in
      let more = homed-permutation (hash_of old.hasher) ((32 * len) / 32) (home_of ((32 * len) / 32) (hash_of old.hasher key))
      ((key, value) ∷ pairs_of old.arrays) (pairs_of new.arrays) pairs in
      let first = homed_here (hash_of old.hasher) ((32 * len) / 32) (home_of ((32 * len) / 32) (hash_of old.hasher key)) (key, value)
      (pairs_of old.arrays) refl in
      let count = ap (λ (c : BucketView K V). length (pairs_in c)) there
      ∙ len-after_insertion kind keeps (bucket_on between.arrays Old index) (key, value) byte in
      nearly 31 1 Old index len same long.linked home (omega (arith, many, count)) (omega (arith, more, first)))

  -- a bucket was found, and the pairs stay
  pub kept_grows : (kind : ℕ) (answer : Result (Side × ℕ) (Unit {0})) (between : TableView K V H)
      → Finds Counted kind (hash_of old.hasher key) old answer between → KeepsPairs (state_of kind old) (state_of kind new) → new ≡ between
      → GrowsSlots hash_of key (map_of old) (map_of new)
  unfolding GrowsSlots
  kept_grows kind (Err e) between refused kept is =
      inl (prepared_keeps old new kind (hash_of old.hasher key) between refused.prepared
      (subst (λ (t : TableView K V H). AreAsLong between.arrays t.arrays) (sym is) (as_long between.arrays)))
  kept_grows kind (Ok at) between finds kept is =
      let same = sym (hasher_kept _ _ kept) in
      found_grows old new hash_of key beside kind (hash_of old.hasher key) between at.0 at.1 finds
      (subst (λ (t : TableView K V H). AreAsLong between.arrays t.arrays) (sym is) (as_long between.arrays))
      (λ on many.
      let len = length between.arrays.linked in
      let home : IsHome len (hash_of old.hasher key) at.1 =
      subst (λ (s : Side). IsHome (length (buckets_on between.arrays s)) (hash_of old.hasher key) at.1) on finds.home in
      let there : bucket_on new.arrays Old at.1 ≡ bucket_on between.arrays Old at.1 =
      ap (λ (t : TableView K V H). bucket_on t.arrays Old at.1) is in
      let more = homed-permutation (hash_of old.hasher) ((32 * len) / 32) (home_of ((32 * len) / 32) (hash_of old.hasher key))
      (pairs_of old.arrays) (pairs_of new.arrays) kept.pairs in
      nearly 31 0 Old at.1 len same (ap (λ (t : TableView K V H). length t.arrays.linked) is) home
      (omega (arith, many, ap (λ (c : BucketView K V). length (pairs_in c)) there)) (omega (arith, more)))

  module _ (eq : K → K → Bool) (kind : ℕ) (keeps : ℕ → Bool) (value : V) where
    -- what an insertion did
    pub insertion_grows : {A : Type 0} (r : Result A (NotInserted K V)) (answer : Result (Side × ℕ) (Unit {0})) (between : TableView K V H)
        → Finds Counted kind (hash_of old.hasher key) old answer between
        → InsertsAt kind keeps (key, value) (hash_of old.hasher key % 256) between r answer new
        → Inserts eq key value (state_of kind old) r (state_of kind new) → GrowsSlots hash_of key (map_of old) (map_of new)
    insertion_grows (Ok done) (Ok at) between finds is map =
        added_grows kind keeps value between at.0 at.1 (hash_of old.hasher key % 256) finds
        (sym (ap (λ others. others.hasher) map.1.others)) map.1.pairs is
    insertion_grows (Ok done) (Err e) between finds none map = absurd none
    insertion_grows (Err (Present k v)) answer between finds is map = kept_grows kind answer between finds map.1 is
    insertion_grows (Err (Memory k v)) (Ok at) between finds is map = kept_grows kind (Ok at) between finds map.1 is.1
    insertion_grows (Err (Memory k v)) (Err e) between finds is map = kept_grows kind (Err e) between finds map.1 is

    rewritten_grows : (answer : Result (Side × ℕ) (Unit {0})) (between : TableView K V H)
        → Finds Counted kind (hash_of old.hasher key) old answer between
        → ChangesAt (λ own. eq own key) (λ bucket at. bucket_with_value bucket at value) true between new → (pair : K × V)
        → ChangesValue (state_of kind old) pair value (state_of kind new) → GrowsSlots hash_of key (map_of old) (map_of new)
    unfolding GrowsSlots
    rewritten_grows (Err e) between refused (side, i, at, stands, is) pair changed =
        inl (prepared_keeps old new kind (hash_of old.hasher key) between refused.prepared
        (subst (λ (t : TableView K V H). AreAsLong between.arrays t.arrays) (sym is)
        (as_long_with between.arrays side i (bucket_with_value (bucket_on between.arrays side i) at value))))
    rewritten_grows (Ok found) between finds (side, i, at, stands, is) pair changed =
        let b = bucket_with_value (bucket_on between.arrays side i) at value in
        found_grows old new hash_of key beside kind (hash_of old.hasher key) between found.0 found.1 finds
        (subst (λ (t : TableView K V H). AreAsLong between.arrays t.arrays) (sym is) (as_long_with between.arrays side i b))
        (λ on many.
        let len = length between.arrays.linked in
        let index = home_of ((32 * len) / 32) (hash_of old.hasher key) in
        let home : IsHome len (hash_of old.hasher key) found.1 =
        subst (λ (s : Side). IsHome (length (buckets_on between.arrays s)) (hash_of old.hasher key) found.1) on finds.home in
        let count = ap (λ (t : TableView K V H). length (pairs_in (bucket_on t.arrays Old found.1))) is
        ∙ len-elsewhere between.arrays side Old i found.1 b (len-with_value (bucket_on between.arrays side i) at stands.pair value
        stands.slot)
        stands.within in
        let was = homed-permutation (hash_of old.hasher) ((32 * len) / 32) index (pairs_of old.arrays) (pair ∷ changed.rest)
        changed.before in
        let now = homed-permutation (hash_of old.hasher) ((32 * len) / 32) index ((pair.0, value) ∷ changed.rest) (pairs_of new.arrays)
        changed.after.pairs in
        let long = ap (λ (t : TableView K V H). length t.arrays.linked) is ∙ len_with between.arrays side Old i b in
        nearly 31 0 Old found.1 len (sym (ap (λ others. others.hasher) changed.after.others)) long home
        (omega (arith, many, count)) (omega (arith, now, was)))

    -- and one that would replace the value of an equal key
    pub upsertion_grows : (r : Result (Option V) (K × V)) (answer : Result (Side × ℕ) (Unit {0})) (between : TableView K V H)
        → Finds Counted kind (hash_of old.hasher key) old answer between
        → UpsertsAt eq kind keeps key value (hash_of old.hasher key % 256) between r answer new
        → Upserts eq key value (state_of kind old) r (state_of kind new) → GrowsSlots hash_of key (map_of old) (map_of new)
    upsertion_grows (Ok None) (Ok at) between finds is map =
        added_grows kind keeps value between at.0 at.1 (hash_of old.hasher key % 256) finds
        (sym (ap (λ others. others.hasher) map.1.others)) map.1.pairs is
    upsertion_grows (Ok None) (Err e) between finds none map = absurd none
    upsertion_grows (Ok (Some earlier)) answer between finds is map =
        rewritten_grows answer between finds is (map.0, earlier) map.2
    upsertion_grows (Err back) (Ok at) between finds is map = kept_grows kind (Ok at) between finds map.2 is.1
    upsertion_grows (Err back) (Err e) between finds is map = kept_grows kind (Err e) between finds map.2 is
