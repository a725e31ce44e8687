-- The law of one map, and the map itself, when one bucket of one side changes.
use Rattle.bucket_table.proofs.Words.{AddsPair, All, All-cons, All-map, All-nil, All-permutation, ArraysView, Bool, BucketView}
use Rattle.bucket_table.proofs.Words.{ChangesValue, Current, Err, IfNone, IfSome, IsAbsent, IsDistinct, IsDistinct-IsPermutation}
use Rattle.bucket_table.proofs.Words.{IsDistinct-tail, IsEntryHome, IsEquivalence, IsHome, IsLocked, IsOneMap, IsPermutation}
use Rattle.bucket_table.proofs.Words.{IsPermutation-append_left, IsPermutation-cons, IsPermutation-map, IsPermutation-refl}
use Rattle.bucket_table.proofs.Words.{IsPermutation-trans, KeepsPairs, List, MapState, None, Ok, Old, OnErr, OnOk, Option, Place, Result}
use Rattle.bucket_table.proofs.Words.{Side, Some, TakesPair, ℕ, [], ap, append-nil, arith, arrays_with, bucket_at, bucket_with_value}
use Rattle.bucket_table.proofs.Words.{buckets_on, empty_bucket, entries_in, false, get_or, get_or-set_same, length, length-set, live_pair}
use Rattle.bucket_table.proofs.Words.{map, map-entries_in, pairs_in, pairs_of, recursion_from_All, refl, rotated, set, slot_at, slot_in}
use Rattle.bucket_table.proofs.Words.{slots_after_insertion, slots_evicted, slots_marked, slots_touched, slots_without, subst, ◌%◌, ◌++◌}
use Rattle.bucket_table.proofs.Words.{◌<◌, ◌∙◌, ◌∷◌, ◌≡◌}
use Rattle.bucket_slots.proofs.RoomAfter.{killed-bucket_with_value, killed-slots_after_insertion, killed-slots_marked, killed-slots_without}
use Rattle.bucket_table.specs.Views.LockedLaws.{locked_change}
use Rattle.std.proofs.Common.{OnSome}
use Rattle.std.proofs.lemmas.List.{set-set}
use Rattle.std.proofs.lemmas.Map.Keys.{IsDistinct-cons}
use Rattle.bucket_slots.proofs.PairsAfter.{entries_in-slots_evicted, entries_in-slots_without, rewritten}
use Rattle.bucket_slots.proofs.MarksAfter.{entries_in-slots_after_insertion, entries_in-slots_marked}
use Rattle.bucket_slots.specs.Evicting.{slot_to_evict}
use Rattle.bucket_table.specs.Map.MapState.{state_of}
use Rattle.bucket_table.proofs.Views.SideChanges.{Exchanges, IsChangeable, arrays_with-same, buckets_on-arrays_with, homes_moved, homes_on}
use Rattle.bucket_table.proofs.Views.SideChanges.{pairs_exchanged, placed_after}

module _ {K V : Type 0} (eq : K → K → Bool) (laws : IsEquivalence eq) where
  -- distinct keys, in another order
  pub distinct_kept : (m n : List (K × V)) → IsDistinct eq (map (λ (q : K × V). q.0) m)
      → IsPermutation m n → IsDistinct eq (map (λ (q : K × V). q.0) n)
  distinct_kept m n one moved = IsDistinct-IsPermutation eq laws.symm _ _ (IsPermutation-map (λ (q : K × V). q.0) m n moved) one

  -- distinct keys, and one more
  pub distinct_added : (m n : List (K × V)) (p : K × V) → IsDistinct eq (map (λ (q : K × V). q.0) m) → IsAbsent (λ own. eq own p.0) m
      → IsPermutation (p ∷ m) n → IsDistinct eq (map (λ (q : K × V). q.0) n)
  distinct_added m n p one none moved =
      let other : All (λ (q : K × V). eq p.0 q.0 ≡ false) m = λ k d below. laws.symm p.0 (get_or m k d).0 ∙ none k d below in
      distinct_kept (p ∷ m) n (IsDistinct-cons eq p.0 _ (recursion_from_All (λ k. eq p.0 k ≡ false) (map (λ (q : K × V). q.0) m)
      (All-map (λ k. eq p.0 k ≡ false) (λ (q : K × V). q.0) m other)) one) moved

  -- distinct keys, and one less
  pub distinct_taken : (m n : List (K × V)) (p : K × V) → IsDistinct eq (map (λ (q : K × V). q.0) m) → IsPermutation m (p ∷ n)
      → IsDistinct eq (map (λ (q : K × V). q.0) n)
  distinct_taken m n p one moved = IsDistinct-tail eq p.0 (map (λ (q : K × V). q.0) n) (distinct_kept m (p ∷ n) one moved)

-- the changes of one bucket that a locked bucket makes
module _ {K V : Type 0} (a : ArraysView K V) (side : Side) (i : ℕ) (within : i < length (buckets_on a side)) where
  abbrev bucket : BucketView K V
  bucket = bucket_at (buckets_on a side) i

  pub inserts : (kind : ℕ) (keeps : ℕ → Bool) (p : K × V) (byte : ℕ)
      → Exchanges a side i ((p, byte) ∷ []) [] (slots_after_insertion kind keeps bucket p byte)
  inserts kind keeps p byte = record {
    within = within;
    moved = entries_in-slots_after_insertion kind keeps bucket p byte;
    alive = killed-slots_after_insertion kind keeps bucket p byte;
  }

  pub removes : (at : Place) (p : K × V) → live_pair (slot_in bucket at) ≡ Some p → (byte : ℕ)
      × Exchanges a side i [] ((p, byte) ∷ []) (slots_without bucket at)
  removes at p here =
      let out = entries_in-slots_without bucket at p here in
      (out.0, record { within = within; moved = out.1; alive = killed-slots_without bucket at })

  pub marks : (at : Place) (epoch : ℕ) (p : K × V) → live_pair (slot_in bucket at) ≡ Some p
      → (byte : ℕ) × Exchanges a side i [] ((p, byte) ∷ []) (slots_marked bucket at epoch)
  marks at epoch p here =
      let out = entries_in-slots_marked bucket at epoch p here in
      (out.0, record { within = within; moved = out.1; alive = killed-slots_marked bucket at epoch })

  pub evicts : (p : K × V) → live_pair (slot_at bucket.own (slot_to_evict bucket)) ≡ Some p
      → (byte : ℕ) × Exchanges a side i [] ((p, byte) ∷ []) (slots_evicted bucket)
  evicts p here =
      let out = entries_in-slots_evicted bucket p here in
      (out.0, record { within = within; moved = out.1; alive = refl })

  pub touches : (keeps : Bool) (at : Place) → Exchanges a side i [] [] (slots_touched keeps bucket at)
  touches keeps at = record { within = within; moved = IsPermutation-refl (entries_in bucket); alive = refl }

module _ {K V : Type 0} where
  -- the same bucket changed twice
  pub set_again : (a : ArraysView K V) (side : Side) (i : ℕ) (b c : BucketView K V) → arrays_with (arrays_with a side i b) side i c ≡
      arrays_with a side i c
  set_again a Old i b c = ap (λ (bs : List (BucketView K V)). record a { linked = bs }) (set-set a.linked i b c)
  set_again a Current i b c = ap (λ (bs : List (BucketView K V)). record a { current = bs }) (set-set a.current i b c)

  -- the arrays without the pairs of a bucket
  abbrev without_bucket : ArraysView K V → Side → ℕ → ArraysView K V
  without_bucket a side i = arrays_with a side i empty_bucket

  pub record Splits (a : ArraysView K V) (side : Side) (i : ℕ) (b : BucketView K V) : Type 0 where
    pub before : IsPermutation (pairs_of a) (pairs_in (bucket_at (buckets_on a side) i) ++ pairs_of (without_bucket a side i))
    pub after : IsPermutation (pairs_in b ++ pairs_of (without_bucket a side i)) (pairs_of (arrays_with a side i b))

  only_pairs : (b : BucketView K V) (rest : List (K × V)) → map (λ (e : (K × V) × ℕ). e.0) (entries_in b) ++ rest ≡ pairs_in b ++ rest
  only_pairs b rest = ap (λ (l : List (K × V)). l ++ rest) (map-entries_in b)

  -- the pairs of a bucket apart from the others, and those of another bucket in its place
  pub splits : (a : ArraysView K V) (side : Side) (i : ℕ) (b : BucketView K V) → i < length (buckets_on a side) → Splits a side i b
  splits a side i b within =
      let old = bucket_at (buckets_on a side) i in
      let empty = without_bucket a side i in
      let is : buckets_on empty side ≡ set (buckets_on a side) i empty_bucket =
      buckets_on-arrays_with a side i empty_bucket in
      let there : bucket_at (buckets_on empty side) i ≡ empty_bucket = rw is
      (get_or-set_same (buckets_on a side) i empty_bucket empty_bucket within) in
      let long : i < length (buckets_on empty side) = rw (is, length-set) within in
      let none : entries_in (bucket_at (buckets_on empty side) i) ≡ [] = ap (λ (c : BucketView K V). entries_in c) there in
      let out : IsPermutation (entries_in old) (entries_in old ++ []) = rw append-nil (IsPermutation-refl (entries_in old)) in
      let come : IsPermutation (entries_in b ++ entries_in (bucket_at (buckets_on empty side) i)) (entries_in b) = rw (none, append-nil)
      (IsPermutation-refl (entries_in b)) in
      record {
        before = subst (IsPermutation (pairs_of a)) (only_pairs old (pairs_of empty))
            (pairs_exchanged a side i [] (entries_in old) empty_bucket within out);
        after = subst (λ (z : ArraysView K V). IsPermutation (pairs_in b ++ pairs_of empty)
            (pairs_of z)) (set_again a side i empty_bucket b)
            (subst (λ (l : List (K × V)). IsPermutation l (pairs_of (arrays_with empty side i b)))
            (only_pairs b (pairs_of empty)) (pairs_exchanged empty side i (entries_in b) [] b long
            come));
      }

module _ {K V H : Type 0} where
  -- what isn't the pairs stays
  state_is : (kind : ℕ) (hasher : H) (a : ArraysView K V) (side : Side) (i : ℕ) (b : BucketView K V)
      → state_of kind (record { hasher = hasher; arrays = arrays_with a side i b })
      ≡ record (state_of kind (record { hasher = hasher; arrays = a })) { pairs = pairs_of (arrays_with a side i b) }
  state_is kind hasher a Old i b = refl
  state_is kind hasher a Current i b = refl

module _ {K V H : Type 0} {eq : K → K → Bool} (laws : IsEquivalence eq) (hash : H → K → ℕ) (kind : ℕ) {hasher : H}
    {a : ArraysView K V} (side : Side) (i : ℕ) (one : IsOneMap eq (hash hasher) a) (held : IsChangeable a side i) where
  abbrev was : BucketView K V
  was = bucket_at (buckets_on a side) i

  abbrev state : ArraysView K V → MapState K V H
  state b = state_of kind (record { hasher = hasher; arrays = b })

  abbrev IsAtHome : (K × V) × ℕ → Type 0
  IsAtHome e = IsEntryHome (hash hasher) (length (buckets_on a side)) i e

  -- with the bucket replaced, the arrays are one map, which has changed as stated; and the bucket may be locked if it could before
  pub record Leaves (Changes : MapState K V H → Type 0) (b : BucketView K V) : Type 0 where
    pub one_map : IsOneMap eq (hash hasher) (arrays_with a side i b)
    pub map : Changes (state (arrays_with a side i b))
    pub within : i < length (buckets_on (arrays_with a side i b) side)
    pub locked : IsLocked a side i → IsLocked (arrays_with a side i b) side i

  leaves : (Changes : MapState K V H → Type 0) (came out : List ((K × V) × ℕ)) (b : BucketView K V)
      → Exchanges a side i came out b → All IsAtHome came → IsDistinct eq (map (λ (p : K × V). p.0) (pairs_of (arrays_with a side i b)))
      → Changes (state (arrays_with a side i b)) → Leaves Changes b
  leaves Changes came out b x own distinct changed = record {
    one_map = record {
      distinct = distinct;
      placed = placed_after (hash hasher) a side i b one.placed held (homes_moved (hash hasher) (length (buckets_on a side)) i came out was
          b x.moved (homes_on (hash hasher) a side i one.placed x.within) own) x.alive;
    };
    map = changed;
    within = rw (buckets_on-arrays_with a side i b, length-set) x.within;
    locked = λ locked. locked_change a side i b locked x.alive;
  }

  -- one more entry
  pub inserted : (keeps : ℕ → Bool) (p : K × V) (h : ℕ) → h ≡ hash hasher p.0 → IsHome (length (buckets_on a side)) h i
      → IsAbsent (λ own. eq own p.0) (pairs_of a) → Leaves (AddsPair (state a) p) (slots_after_insertion kind keeps was p (h % 256))
  inserted keeps p h own home none =
      let x = inserts a side i held.within kind keeps p (h % 256) in
      let b = slots_after_insertion kind keeps was p (h % 256) in
      let pairs : IsPermutation (p ∷ pairs_of a) (pairs_of (arrays_with a side i b)) = pairs_exchanged a side i ((p, h % 256) ∷ []) [] b
      x.within x.moved in
      let here : IsAtHome (p, h % 256) = record {
        home = subst (λ n. IsHome (length (buckets_on a side)) n i) own home;
        own_byte = ap (λ n. n % 256) own;
      } in
      leaves _ ((p, h % 256) ∷ []) [] b x (All-cons IsAtHome (p, h % 256) [] here (All-nil IsAtHome))
      (distinct_added eq laws (pairs_of a) _ p one.distinct none pairs)
      (record { pairs = pairs; others = state_is kind hasher a side i b })

  -- one entry less
  taken : (p : K × V) (byte : ℕ) (b : BucketView K V) → Exchanges a side i [] ((p, byte) ∷ []) b → Leaves (TakesPair (state a) p) b
  taken p byte b x =
      let pairs : IsPermutation (pairs_of a) (p ∷ pairs_of (arrays_with a side i b)) = pairs_exchanged a side i [] ((p, byte) ∷ []) b
      x.within x.moved in
      leaves _ [] ((p, byte) ∷ []) b x (All-nil _) (distinct_taken eq laws (pairs_of a) _ p one.distinct pairs)
      (record { pairs = pairs; others = state_is kind hasher a side i b })

  pub removed : (p : K × V) (at : Place) → live_pair (slot_in was at) ≡ Some p → Leaves (TakesPair (state a) p) (slots_without was at)
  removed p at here = let x = removes a side i held.within at p here in taken p x.0 _ x.1

  pub marked : (p : K × V) (at : Place) (epoch : ℕ) → live_pair (slot_in was at) ≡ Some p
      → Leaves (TakesPair (state a) p) (slots_marked was at epoch)
  marked p at epoch here = let x = marks a side i held.within at epoch p here in taken p x.0 _ x.1

  -- the same bucket
  pub unchanged : (Changes : MapState K V H → Type 0) → Changes (state a) → Leaves Changes was
  unchanged Changes same =
      let x : Exchanges a side i [] [] was = record { within = held.within; moved = IsPermutation-refl (entries_in was); alive = refl } in
      let again = arrays_with-same a side i in
      leaves Changes [] [] was x (All-nil _) (rw again one.distinct) (rw again same)

  pub evicted : (r : Option (K × V)) (b : BucketView K V) → IfSome r (λ p. live_pair (slot_at was.own (slot_to_evict was)) ≡ Some p)
      → OnSome r (b ≡ slots_evicted was) → IfNone r (b ≡ was) → Leaves (λ new. IfSome r (λ p. TakesPair (state a) p new)) b
  evicted None b here gone same = rw same (unchanged _ tt)
  evicted (Some p) b here gone same = let x = evicts a side i held.within p here in rw gone (taken p x.0 _ x.1)

  pub inserted_or : {A E : Type 0} (r : Result A E) (b : BucketView K V) (keeps : ℕ → Bool) (p : K × V) (h : ℕ) → h ≡ hash hasher p.0
      → IsHome (length (buckets_on a side)) h i → IsAbsent (λ own. eq own p.0) (pairs_of a)
      → OnOk r (b ≡ slots_after_insertion kind keeps was p (h % 256))
      → OnErr r (b ≡ was) → Leaves (λ new. OnOk r (AddsPair (state a) p new)) b
  inserted_or (Ok place) b keeps p h own home none placed same = rw placed (inserted keeps p h own home none)
  inserted_or (Err back) b keeps p h own home none placed same = rw same (unchanged _ tt)

  -- the same entries
  pub touched : (keeps : Bool) (at : Place) → Leaves (KeepsPairs (state a)) (slots_touched keeps was at)
  touched keeps at =
      let x = touches a side i held.within keeps at in
      let b = slots_touched keeps was at in
      let pairs : IsPermutation (pairs_of a) (pairs_of (arrays_with a side i b)) = pairs_exchanged a side i [] [] b x.within x.moved in
      leaves _ [] [] b x (All-nil _) (distinct_kept eq laws (pairs_of a) _ one.distinct pairs)
      (record { pairs = pairs; others = state_is kind hasher a side i b })

  -- the value of one key is replaced, and its slot is touched or not
  pub wrote_touching : (touches : Bool) (p : K × V) (value : V) (at : Place) → live_pair (slot_in was at) ≡ Some p
      → Leaves (ChangesValue (state a) p value) (bucket_with_value (slots_touched touches was at) at value)
  wrote_touching touches p value at here =
      let old = slots_touched touches was at in
      let new = bucket_with_value old at value in
      let r = rewritten old at p value here in
      let pair : (K × V) × ℕ → K × V = λ e. e.0 in
      let e : (K × V) × ℕ = (p, r.byte) in
      let f : (K × V) × ℕ = ((p.0, value), r.byte) in
      let P : (K × V) × ℕ → Type 0 = IsAtHome in
      let moved : IsPermutation (f ∷ entries_in old) (e ∷ entries_in new) =
      IsPermutation-trans _ _ _ (IsPermutation-cons f _ _ r.before_is) (IsPermutation-trans _ _ _ (rotated (f ∷ []) (e ∷ []) r.rest)
      (IsPermutation-cons e _ _ r.after_is)) in
      let x : Exchanges a side i (f ∷ []) (e ∷ []) new = record {
        within = held.within;
        moved = moved;
        alive = killed-bucket_with_value old at value;
      } in
      let all = All-permutation P (entries_in old) (e ∷ r.rest) r.before_is (homes_on (hash hasher) a side i one.placed held.within) in
      let first : P e = all 0 e (omega arith) in
      let own : P f = record { home = first.home; own_byte = first.own_byte } in
      let apart = splits a side i new held.within in
      let others = pairs_of (without_bucket a side i) in
      let rest : List (K × V) = map pair r.rest ++ others in
      let before : IsPermutation (pairs_of a) (p ∷ rest) =
      IsPermutation-trans _ _ _ apart.before (IsPermutation-append_left others (pairs_in old) (p ∷ map pair r.rest)
      (rw (← map-entries_in old) (IsPermutation-map pair (entries_in old) (e ∷ r.rest) r.before_is))) in
      let after : IsPermutation ((p.0, value) ∷ rest) (pairs_of (arrays_with a side i new)) =
      IsPermutation-trans _ _ _ (IsPermutation-append_left others ((p.0, value) ∷ map pair r.rest) (pairs_in new)
      (rw (← map-entries_in new) (IsPermutation-map pair (f ∷ r.rest) (entries_in new) r.after_is))) apart.after in
      let keys : IsDistinct eq (map (λ (q : K × V). q.0) ((p.0, value) ∷ rest)) = distinct_kept eq
      laws (pairs_of a) (p ∷ rest) one.distinct before in
      leaves _ (f ∷ []) (e ∷ []) new x (All-cons P f [] own (All-nil P)) (distinct_kept eq laws ((p.0, value) ∷ rest) _ keys after)
      (record { rest = rest; before = before; after = record { pairs = after; others = state_is kind hasher a side i new } })

  pub wrote : (p : K × V) (value : V) (at : Place) → live_pair (slot_in was at) ≡ Some p
      → Leaves (ChangesValue (state a) p value) (bucket_with_value was at value)
  wrote = wrote_touching false
