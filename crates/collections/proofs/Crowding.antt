-- An insertion that ran out of memory lacked room.
use Rattle.std.proofs.Common.{ℕ, suc, ◌≡◌, ◌≢◌, ◌<◌, ◌≤◌, ◌+◌, ◌*◌, ◌/◌, ◌%◌, ◌++◌, Bool, cond, ◌==◌, None, Option, Result, Ok, Err, IfOk}
use Rattle.std.proofs.Common.{List}
use Rattle.std.proofs.Common.{[], ◌∷◌, ◌⊎◌, inl, inr}
use Rattle.std.proofs.Common.{length, map, refl, sym, subst, ap, ◌∙◌, arith, append-nil, length-append}
use Rattle.std.specs.List.{All}
use Rattle.std.proofs.lemmas.Bool.{cases_lt}
use Rattle.std.specs.List.Sorted.{IsPermutation}
use Rattle.std.proofs.lemmas.List.Sorted.{IsPermutation-refl}
use Rattle.std.proofs.lemmas.List.{get_or-append-add, get_or-map}
use Rattle.std.proofs.lemmas.List.Sums.{sum_by-append, sum_by-cons}
use Rattle.bucket_slots.specs.declared.bucket.TheConstants.{INDEX}
use Rattle.bucket_slots.specs.ArrayView.{bucket_at}
use Rattle.bucket_slots.specs.BucketLaws.{IsBucketOf}
use Rattle.bucket_slots.specs.BucketView.{BucketView, all_slots, empty_bucket, entries_in, first_place, flattened, pairs_in}
use Rattle.bucket_slots.specs.Homes.{IsHome, Meets}
use Rattle.bucket_slots.specs.Slots.{Slot, free, free_len, is_free, is_live, is_marked, live, live_pairs, marked, marked_len}
use Rattle.bucket_slots.proofs.CallerLemmas.{free_len_in-none, homes_meet, length-entries_in, length-live_pairs, one_source, scales, tally}
use Rattle.bucket_slots.specs.Digested.{HasNoSlot}
use Rattle.bucket_table.specs.Map.ByKey.{Inserts, InsertsAt, Upserts, UpsertsAt}
use Rattle.bucket_table.specs.Map.Finding.{Finds, FindsBucket, FindsThen, MakesReady, ReadiesOrGrows}
use Rattle.bucket_table.specs.Map.MapState.{KeepsPairs, state_of}
use Rattle.bucket_table.specs.Map.Preparing.{HomeNeedsMemory}
use Rattle.bucket_table.specs.Map.Putting.{Puts, PutsAt}
use Rattle.bucket_table.specs.Map.Refusing.{IsRefused}
use Rattle.bucket_table.specs.Rehash.Relocation.{IsEntryHome, home_of, homed_len}
use Rattle.bucket_table.specs.Views.ArraysView.{ArePlaced, ArraysView, TableView, pairs_of}
use Rattle.bucket_table.specs.Views.Sides.{arrays_with, bucket_on, buckets_on}
use Rattle.bucket_table.specs.declared.arrays.side.Side.{Side}
use Rattle.bucket_table.specs.declared.arrays.side.Side.TheVariants.{Current, Old}
use Rattle.bucket_table.specs.declared.hash_table.ResizeRule.{ResizeRule}
use Rattle.bucket_table.specs.declared.hash_table.ResizeRule.TheVariants.{Counted, Sampled}
use Rattle.bucket_slots.specs.declared.not_inserted.NotInserted.{NotInserted}
use Rattle.bucket_slots.specs.declared.not_inserted.NotInserted.TheVariants.{Memory}
use Rattle.bucket_table.proofs.CallerLemmas.{hasher_kept, home_of-interval, homed-permutation, homed_here, homes_on, pairs_exchanged}
use Rattle.collections.proofs.Found.{found, same_buckets}
use Rattle.collections.specs.Crowding.{HasAtHome, HasInOld, KeepsHome, LacksBucket, LacksRoom}
use Rattle.collections.specs.Maps.{map_of}

module _ {K V : Type 0} where
  -- each slot is live, free or a tombstone
  parted : (slots : List (Slot K V)) → length (live_pairs slots) + free_len slots + marked_len slots ≡ length slots
  parted [] = refl
  parted (x ∷ slots) =
      let rest = parted slots in
      let frees = sum_by-cons (λ (y : Slot K V). tally (is_free y)) x slots in
      let marks = sum_by-cons (λ (y : Slot K V). tally (is_marked y)) x slots in
      let lives = sum_by-cons (λ (y : Slot K V). tally (is_live y)) x slots in
      omega (arith, rest, frees, marks, lives, length-live_pairs slots, length-live_pairs (x ∷ slots), one x)
    where
      one : (y : Slot K V) → tally (is_free y) + tally (is_marked y) + tally (is_live y) ≡ 1
      one free = refl
      one (live pair byte) = refl
      one (marked pair byte) = refl

  -- a bucket without tombstones that has no free slot has 32 pairs
  held : (kind : ℕ) (bucket : BucketView K V) → kind ≢ INDEX → IsBucketOf kind bucket → first_place is_free bucket ≡ None
      → 32 ≤ length (pairs_in bucket)
  held kind bucket other laws none = omega (
    arith,
    parted (all_slots bucket),
    laws.unmarked other,
    free_len_in-none bucket none,
    length-append bucket.own (flattened bucket.chain),
    laws.own_long,
  )

  module _ (hash : K → ℕ) where
    -- if all pairs of a list are in their home, as many have that home
    homed : (len index : ℕ) (entries : List ((K × V) × ℕ)) → All (IsEntryHome hash len index) entries
        → homed_len hash len index (map (λ (e : (K × V) × ℕ). e.0) entries) ≡ length entries
    homed len index [] all = refl
    homed len index (e ∷ entries) all =
        let here = all 0 e (omega arith) in
        let first = homed_here hash len index e.0 (map (λ (d : (K × V) × ℕ). d.0) entries)
        (home_of-interval len index (hash e.0.0) here.home.own) in
        let rest = homed len index entries (λ i d below. all (suc i) d (omega arith)) in
        omega (arith, first, rest)

    module _ (arrays : ArraysView K V) (side : Side) (index : ℕ) (placed : ArePlaced hash arrays) where
      -- the pairs of a bucket are among all pairs
      shared : index < length (buckets_on arrays side)
          → length (pairs_in (bucket_on arrays side index)) ≤ homed_len hash (length (buckets_on arrays side)) index (pairs_of arrays)
      shared within =
          let len = length (buckets_on arrays side) in
          let entries = entries_in (bucket_on arrays side index) in
          let own = map (λ (e : (K × V) × ℕ). e.0) entries in
          let rest = pairs_of (arrays_with arrays side index empty_bucket) in
          let none : IsPermutation entries (entries ++ []) = rw (append-nil entries) (IsPermutation-refl entries) in
          let moved = pairs_exchanged arrays side index [] entries empty_bucket within none in
          let all = homed-permutation hash len index (pairs_of arrays) (own ++ rest) moved in
          let parts = sum_by-append (λ (q : K × V). cond (home_of len (hash q.0) == index) 1 0) own rest in
          let here = homed len index entries (homes_on hash arrays side index placed within) in
          omega (arith, all, parts, here, length-entries_in (bucket_on arrays side index))

      -- a bucket with that many pairs is the home of that many
      pub at_home : (count : ℕ) (key : K) → IsHome (length (buckets_on arrays side)) (hash key) index
          → count ≤ length (pairs_in (bucket_on arrays side index))
          → HasAtHome count hash key (32 * length (buckets_on arrays side)) (pairs_of arrays)
      at_home count key home many =
          let len = length (buckets_on arrays side) in
          let buckets : (32 * len) / 32 ≡ len = omega arith in
          let most = shared home.within in (
            omega (arith, home.within),
            subst (λ (m : ℕ). count ≤ homed_len hash m (home_of m (hash key)) (pairs_of arrays)) (sym buckets)
                (rw (home_of-interval len index (hash key) home.own) (omega (arith, many, most))),
          )

-- prepared arrays have as many slots as they had, if they had any
pub ready_len : {K V : Type 0} (old : ArraysView K V) (index : ℕ) (ready : ArraysView K V) → MakesReady old index ready
    → 0 < length old.current → length ready.current ≡ length old.current
ready_len {K} {V} old index ready makes stands = elim (cases_lt 0 (length old.linked)) [
  | inl beside ↦ (makes.beside beside).current_len
  | inr alone ↦ ap (λ (a : ArraysView K V). length a.current) ((makes.first (omega (arith, alone))).0 stands)
]

-- and so has the array in which a bucket was found for a writer
pub found_len : {K V : Type 0} (rule : ResizeRule) (kind hash : ℕ) (old : ArraysView K V) (side : Side) (index : ℕ) (new : ArraysView K V)
    → ReadiesOrGrows rule kind hash old side index new → 0 < length old.current → length (buckets_on new side) ≡ length old.current
found_len rule kind hash old side index new readies stands =
    let is = found rule kind hash old side index new readies in
    ap length (same_buckets side is.ready new is.grown) ∙ ready_len old index is.ready is.makes stands

module _ {K V H : Type 0} (kind : ℕ) (hash_of : H → K → ℕ) (key : K) (n : ℕ) (old new : TableView K V H) (own : n ≡ hash_of new.hasher key)
    (placed : ArePlaced (hash_of new.hasher) new.arrays) (current : 0 < length new.arrays.current → KeepsHome kind n new.arrays.current)
    (linked : 0 < length new.arrays.linked → KeepsHome kind n new.arrays.linked) where
  -- a home with that many pairs had that many before
  pub before_on : (count : ℕ) (side : Side) (index len : ℕ) → KeepsPairs (state_of kind old) (state_of kind new)
      → length (buckets_on new.arrays side) ≡ len → IsHome (length (buckets_on new.arrays side)) n index
      → count ≤ length (pairs_in (bucket_on new.arrays side index))
      → HasAtHome count (hash_of old.hasher) key (32 * len) (pairs_of old.arrays)
  before_on count side index len kept same home many =
      let now = at_home (hash_of new.hasher) new.arrays side index placed count key
      (subst (λ (h : ℕ). IsHome (length (buckets_on new.arrays side)) h index) own home) many in
      let there = rw (same, hasher_kept _ _ kept) at now in (
        there.0,
        rw (← homed-permutation (hash_of old.hasher) ((32 * len) / 32) (home_of ((32 * len) / 32) (hash_of old.hasher key))
            (pairs_of old.arrays) (pairs_of new.arrays) kept.pairs) there.1,
      )

  -- that many pairs in the old home, as the map counts them
  in_old : (count i : ℕ) → IsHome (length old.arrays.linked) n i → KeepsPairs (state_of kind old) (state_of kind new)
      → count ≤ length (pairs_in (bucket_at old.arrays.linked i)) → HasInOld count (hash_of old.hasher) key (map_of old)
  in_old count i home kept many =
      let lens = λ (b : BucketView K V). length (pairs_in b) in
      let from = length old.arrays.linked in
      let to = length old.arrays.current in
      let same : new.hasher ≡ old.hasher = hasher_kept _ _ kept in
      let hashed : n ≡ hash_of old.hasher key = own ∙ ap (λ h. hash_of h key) same in
      let buckets : (32 * from) / 32 ≡ from = omega arith in
      let here : home_of ((32 * from) / 32) (hash_of old.hasher key) ≡ i =
      rw (← hashed, buckets) (home_of-interval from i n home.own) in
      let place : (32 * to) / 32 + i ≡ length old.arrays.current + i = omega arith in
      let read = get_or-map lens (old.arrays.current ++ old.arrays.linked) (to + i) empty_bucket 0
      (omega (arith, home.within, length-append old.arrays.current old.arrays.linked)) in
      let there = get_or-append-add old.arrays.current old.arrays.linked i empty_bucket in
      (omega (arith, home.within), rw (here, place, read, there) many)

  pub laws_on : (side : Side) (index : ℕ) → IsHome (length (buckets_on new.arrays side)) n index
      → IsBucketOf kind (bucket_on new.arrays side index)
  laws_on Current index home =
      let kept = current (omega (arith, home.within)) in
      subst (λ (i : ℕ). IsBucketOf kind (bucket_at new.arrays.current i)) (home.the_one kept.index kept.home.own) kept.laws
  laws_on Old index home =
      let kept = linked (omega (arith, home.within)) in
      subst (λ (i : ℕ). IsBucketOf kind (bucket_at new.arrays.linked i)) (home.the_one kept.index kept.home.own) kept.laws

  -- a bucket that was found had no free slot
  pub found_full : {rule : ResizeRule} → kind ≢ INDEX → (side : Side) (index : ℕ) → FindsBucket rule kind n old side index new
      → first_place is_free (bucket_on new.arrays side index) ≡ None → LacksRoom hash_of key (map_of old)
  unfolding LacksRoom
  found_full {rule} other side index found none = elim (cases_lt 0 (length old.arrays.current)) [
    | inr empty ↦ inl (inl (inl (omega (arith, empty))))
    | inl stands ↦ inr (before_on 32 side index (length old.arrays.current) found.map
        (found_len rule kind n old.arrays side index new.arrays found.found stands) found.home
        (held kind (bucket_on new.arrays side index) other (laws_on side index found.home) none))
  ]

  -- if an old array isn't longer, a source of a current home is the old home
  old_home : (index i : ℕ) → IsHome (length new.arrays.current) n index → i < length new.arrays.linked
      → Meets (length new.arrays.linked) i (length new.arrays.current) index → length new.arrays.linked ≤ length new.arrays.current
      → IsHome (length new.arrays.linked) n i
  old_home index i home within meets longer =
      let to = length new.arrays.current in
      let from = length new.arrays.linked in
      let kept = linked (omega (arith, within)) in
      let long = (current (omega (arith, home.within))).long in
      let one = one_source from to (to / from) index (scales from to kept.long.power long.power longer (omega (arith, long.at_most)))
      home.within in
      let here : i ≡ one.0 = (one.2 i within).0 meets in
      let there : kept.index ≡ one.0 = (one.2 kept.index kept.home.within).0 (homes_meet from to kept.index index n kept.home home) in
      subst (IsHome from n) (there ∙ sym here) kept.home

  -- if no bucket was found, the old home had more than 32 pairs if there were arrays and they grew
  pub old_full : IsRefused kind n old new → ((length old.arrays.current ≡ 0) ⊎ (length old.arrays.current < length old.arrays.linked))
      ⊎ ((i : ℕ) × IsHome (length new.arrays.linked) n i × (33 ≤ length (pairs_in (bucket_at old.arrays.linked i)))
      × (length new.arrays.linked ≡ length old.arrays.linked))
  old_full refused = elim (cases_lt 0 (length new.arrays.current)) [
    | inr none ↦ inl (inl (omega (arith, none, refused.prepared.kept.current_len)))
    | inl stands ↦ from_source (refused.home stands)
  ]
    where
      from_source : HomeNeedsMemory n old.arrays new.arrays
          → ((length old.arrays.current ≡ 0) ⊎ (length old.arrays.current < length old.arrays.linked))
          ⊎ ((i : ℕ) × IsHome (length new.arrays.linked) n i × (33 ≤ length (pairs_in (bucket_at old.arrays.linked i)))
          × (length new.arrays.linked ≡ length old.arrays.linked))
      from_source (index, home, matches) =
          let i = matches.index in
          let run = refused.prepared.units.stands (omega (arith, matches.within)) in
          let len = refused.prepared.kept.current_len in
          elim (cases_lt (length old.arrays.current) (length old.arrays.linked)) [
            | inl shorter ↦ inl (inr shorter)
            | inr longer ↦
                let many : 33 ≤ length (pairs_in (bucket_at old.arrays.linked i)) =
                elim (cases_lt 32 (length (pairs_in (bucket_at old.arrays.linked i)))) [
                  | inl more ↦ omega (arith, more)
                  | inr less ↦ absurd (matches.needed (record {
                    no_shorter = omega (arith, longer);
                    few = λ j low high.
                        let same : i ≡ j = omega (arith, low, high) in
                        subst (λ (k : ℕ). length (pairs_in (bucket_at old.arrays.linked k)) ≤ 32) same less;
                  }))
                ] in
                inr (i, old_home index i home matches.within matches.one (omega (arith, longer, len, run.len)), many, run.len)
          ]

  -- no bucket was found
  pub none_found : IsRefused kind n old new → LacksBucket hash_of key (map_of old)
  none_found refused = elim (old_full refused) [
    | inl (inl none) ↦ inl (inl (omega (arith, none)))
    | inl (inr shorter) ↦ inl (inr (omega (arith, shorter)))
    | inr (i, home, many, len) ↦ inr (in_old 33 i (subst (λ (l : ℕ). IsHome l n i) len home) refused.prepared.map many)
  ]

  pub none_found_room : IsRefused kind n old new → LacksRoom hash_of key (map_of old)
  unfolding LacksRoom
  none_found_room refused = inl (none_found refused)

-- a table in which a bucket was searched for, and that is as it was then
module _ {K V H : Type 0} (kind : ℕ) (hash_of : H → K → ℕ) (key : K) (old between new : TableView K V H)
    (kept : KeepsPairs (state_of kind old) (state_of kind new)) (is : new ≡ between) where
  pub found_some : {rule : ResizeRule} (side : Side) (index : ℕ) → FindsBucket rule kind (hash_of old.hasher key) old side index between
      → FindsBucket rule kind (hash_of new.hasher key) old side index new
  found_some {rule} side index found =
      subst (λ (h : H). FindsBucket rule kind (hash_of h key) old side index new) (sym (hasher_kept _ _ kept))
      (subst (λ (t : TableView K V H). FindsBucket rule kind (hash_of old.hasher key) old side index t) (sym is) found)

  pub found_none : IsRefused kind (hash_of old.hasher key) old between → IsRefused kind (hash_of new.hasher key) old new
  found_none refused =
      subst (λ (h : H). IsRefused kind (hash_of h key) old new) (sym (hasher_kept _ _ kept))
      (subst (λ (t : TableView K V H). IsRefused kind (hash_of old.hasher key) old t) (sym is) refused)

module _ {K V H : Type 0} (hash_of : H → K → ℕ) (key : K) (old new : TableView K V H) (placed : ArePlaced (hash_of new.hasher) new.arrays)
    (current : 0 < length new.arrays.current → KeepsHome 67 (hash_of new.hasher key) new.arrays.current)
    (linked : 0 < length new.arrays.linked → KeepsHome 67 (hash_of new.hasher key) new.arrays.linked) (keeps : Bool) (value : V) where
  put_by : (k : K) (v : V) (answer : Result (Side × ℕ) (Unit {0})) (between : TableView K V H)
      → KeepsPairs (state_of 67 old) (state_of 67 new) → Finds Sampled 67 (hash_of old.hasher key) old answer between
      → PutsAt keeps (key, value) (hash_of old.hasher key % 256) between (Err (Memory k v)) answer new
      → LacksBucket hash_of key (map_of old)
  put_by k v (Ok at) between kept found none = absurd none
  put_by k v (Err e) between kept refused is = none_found 67 hash_of key (hash_of new.hasher key) old new refl placed current linked
      (found_none 67 hash_of key old between new kept is refused)

  -- a pair that wasn't put into a cache because allocation failed
  pub put_lacks : (eq : K → K → Bool) (result : Result (Option (K × V)) (NotInserted K V)) (k : K) (v : V)
      → Puts eq key value (state_of 67 old) result (state_of 67 new)
      → FindsThen Sampled 67 (hash_of old.hasher key) old
      (λ answer between. PutsAt keeps (key, value) (hash_of old.hasher key % 256) between result answer new)
      → result ≡ Err (Memory k v) → LacksBucket hash_of key (map_of old)
  put_lacks eq result k v map finds is =
      put_by k v finds.answer finds.between
      (subst (λ (r : Result (Option (K × V)) (NotInserted K V)). Puts eq key value (state_of 67 old) r (state_of 67 new)) is map).1
      finds.found
      (subst (λ (r : Result (Option (K × V)) (NotInserted K V)).
      PutsAt keeps (key, value) (hash_of old.hasher key % 256) finds.between r finds.answer new) is finds.done)

module _ {K V H : Type 0} (hash_of : H → K → ℕ) (key : K) (old new : TableView K V H) (placed : ArePlaced (hash_of new.hasher) new.arrays)
    (current : 0 < length new.arrays.current → KeepsHome 83 (hash_of new.hasher key) new.arrays.current)
    (linked : 0 < length new.arrays.linked → KeepsHome 83 (hash_of new.hasher key) new.arrays.linked) (keeps : ℕ → Bool) where
  refused_by : (answer : Result (Side × ℕ) (Unit {0})) (between : TableView K V H) → KeepsPairs (state_of 83 old) (state_of 83 new)
      → Finds Counted 83 (hash_of old.hasher key) old answer between → new ≡ between
      → IfOk answer (λ at. HasNoSlot 83 keeps (bucket_on between.arrays at.0 at.1)) → LacksRoom hash_of key (map_of old)
  refused_by (Ok at) between kept finds is none =
      found_full 83 hash_of key (hash_of new.hasher key) old new refl placed current linked (λ e. omega arith) at.0 at.1
      (found_some 83 hash_of key old between new kept is at.0 at.1 finds)
      (subst (λ (t : TableView K V H). HasNoSlot 83 keeps (bucket_on t.arrays at.0 at.1)) (sym is) none)
  refused_by (Err e) between kept refused is none =
      none_found_room 83 hash_of key (hash_of new.hasher key) old new refl placed current linked
      (found_none 83 hash_of key old between new kept is refused)

  module _ (value : V) where
    inserted_by : (A : Type 0) (k : K) (v : V) (answer : Result (Side × ℕ) (Unit {0})) (between : TableView K V H)
        → KeepsPairs (state_of 83 old) (state_of 83 new) → Finds Counted 83 (hash_of old.hasher key) old answer between
        → InsertsAt {A = A} 83 keeps (key, value) (hash_of old.hasher key % 256) between (Err (Memory k v)) answer new
        → LacksRoom hash_of key (map_of old)
    inserted_by A k v (Ok at) between kept found done = refused_by (Ok at) between kept found done.1 done.0
    inserted_by A k v (Err e) between kept found done = refused_by (Err e) between kept found done tt

    -- a pair that an insertion returned
    pub insertion_lacks : {A : Type 0} (eq : K → K → Bool) (result : Result A (NotInserted K V)) (k : K) (v : V)
        → Inserts eq key value (state_of 83 old) result (state_of 83 new)
        → FindsThen Counted 83 (hash_of old.hasher key) old
        (λ answer between. InsertsAt 83 keeps (key, value) (hash_of old.hasher key % 256) between result answer new)
        → result ≡ Err (Memory k v) → LacksRoom hash_of key (map_of old)
    insertion_lacks {A} eq result k v map finds is =
        inserted_by A k v finds.answer finds.between
        (subst (λ (r : Result A (NotInserted K V)). Inserts eq key value (state_of 83 old) r (state_of 83 new)) is map).1 finds.found
        (subst (λ (r : Result A (NotInserted K V)).
        InsertsAt 83 keeps (key, value) (hash_of old.hasher key % 256) finds.between r finds.answer new) is finds.done)

    upserted_by : (eq : K → K → Bool) (back : K × V) (answer : Result (Side × ℕ) (Unit {0})) (between : TableView K V H)
        → KeepsPairs (state_of 83 old) (state_of 83 new) → Finds Counted 83 (hash_of old.hasher key) old answer between
        → UpsertsAt eq 83 keeps key value (hash_of old.hasher key % 256) between (Err back) answer new → LacksRoom hash_of key (map_of old)
    upserted_by eq back (Ok at) between kept found done = refused_by (Ok at) between kept found done.1 done.0
    upserted_by eq back (Err e) between kept found done = refused_by (Err e) between kept found done tt

    -- and one from an insertion that would have replaced the value of an equal key
    pub upsertion_lacks : (eq : K → K → Bool) (back : K × V) → Upserts eq key value (state_of 83 old) (Err back) (state_of 83 new)
        → FindsThen Counted 83 (hash_of old.hasher key) old
        (λ answer between. UpsertsAt eq 83 keeps key value (hash_of old.hasher key % 256) between (Err back) answer new)
        → LacksRoom hash_of key (map_of old)
    upsertion_lacks eq back map finds = upserted_by eq back finds.answer finds.between map.2 finds.found finds.done
