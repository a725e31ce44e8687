-- The law of two arrays, and all their pairs, when one bucket of one of them changes.
use Rattle.bucket_table.proofs.Words.{All, All-append, All-permutation, All-tail, ArePlaced, AreSourcesKilled, AreTwoArrays, ArraysView}
use Rattle.bucket_table.proofs.Words.{Bool, BucketView, Current, IsEntryHome, IsLocked, IsPermutation, IsPermutation-append_right}
use Rattle.bucket_table.proofs.Words.{IsPermutation-map, IsPermutation-trans, List, LosesNoUnit, Meets, Old, Place, Side, Some, TicketState}
use Rattle.bucket_table.proofs.Words.{ℕ, [], all_slots, ap, arith, arrays_with, bucket_at, buckets_on, cases_Bool, empty_bucket}
use Rattle.bucket_table.proofs.Words.{entries_among, entries_in, entries_of, false, false≢true, inl, inr, killed_flags, length, length-set}
use Rattle.bucket_table.proofs.Words.{length_permutation, live_pair, map, map-append, map-set, pairs_in, pairs_of, refl, rotated, set}
use Rattle.bucket_table.proofs.Words.{set-get_or, slot_in, slots_without, subst, sym, true, ◌++◌, ◌<◌, ◌∙◌, ◌∷◌, ◌≡◌, ◌≤◌}
use Rattle.std.proofs.lemmas.List.Elements.{All-set}
use Rattle.bucket_slots.proofs.PairsAfter.{pairs_in-slots_without}
use Rattle.bucket_slots.proofs.Entries.{live_pairs-all_free, regrouped}
use Rattle.bucket_table.proofs.Moves.Exchanges.{changes_at, each_after, exchanged}
use Rattle.bucket_table.proofs.Views.Killed.{get_or-killed_flags}
use Rattle.bucket_table.proofs.Views.LockedLaw.{law_after_change}

-- what holds of a list holds of its end
All-behind : {X : Type 0} (P : X → Type 0) (xs ys : List X) → All P (xs ++ ys) → All P ys
All-behind P [] ys h = h
All-behind P (x ∷ xs) ys h = All-behind P xs ys (All-tail P x (xs ++ ys) h)

module _ {K V : Type 0} where
  pub buckets_on-arrays_with : (a : ArraysView K V) (side : Side) (i : ℕ) (b : BucketView K V)
      → buckets_on (arrays_with a side i b) side ≡ set (buckets_on a side) i b
  buckets_on-arrays_with a Old i b = refl
  buckets_on-arrays_with a Current i b = refl

  -- the same bucket once more
  pub arrays_with-same : (a : ArraysView K V) (side : Side) (i : ℕ) → arrays_with a side i (bucket_at (buckets_on a side) i) ≡ a
  arrays_with-same a Old i = ap (λ (bs : List (BucketView K V)). record a { linked = bs }) (set-get_or a.linked i empty_bucket)
  arrays_with-same a Current i = ap (λ (bs : List (BucketView K V)). record a { current = bs }) (set-get_or a.current i empty_bucket)

  -- a current bucket whose sources are killed may be locked
  pub locked_current : (a : ArraysView K V) (i : ℕ) → i < length a.current → AreSourcesKilled a i → IsLocked a Current i
  locked_current a i within dead = record {
    within = within;
    killed = λ e. dead;
    alive = λ e. absurd cc;
    vacant = λ e. absurd cc;
  }

  -- bucket i of one side is now b: the entries `out` were removed, and the entries `came` were added
  pub record Exchanges (a : ArraysView K V) (side : Side) (i : ℕ) (came out : List ((K × V) × ℕ)) (b : BucketView K V) : Type 0 where
    pub within : i < length (buckets_on a side)
    pub moved : IsPermutation (came ++ entries_in (bucket_at (buckets_on a side) i)) (out ++ entries_in b)
    pub alive : b.killed ≡ (bucket_at (buckets_on a side) i).killed

  entries_exchanged : (a : ArraysView K V) (side : Side) (i : ℕ) (came out : List ((K × V) × ℕ))
      (b : BucketView K V) → i < length (buckets_on a side)
      → IsPermutation (came ++ entries_in (bucket_at (buckets_on a side) i)) (out ++ entries_in b)
      → IsPermutation (came ++ entries_of a) (out ++ entries_of (arrays_with a side i b))
  entries_exchanged a Old i came out b within moved =
      let c = entries_among a.current in
      IsPermutation-trans _ _ _ (rotated came c (entries_among a.linked))
      (IsPermutation-trans _ _ _ (IsPermutation-append_right c _ _ (exchanged came out a.linked i b within moved))
      (rotated c out (entries_among (set a.linked i b))))
  entries_exchanged a Current i came out b within moved =
      let c = a.current in
      regrouped came out (entries_among c) (entries_among (set c i b)) (entries_among a.linked) (exchanged came out c i b within moved)

  -- another bucket exchanges pairs among all, if it does so among its own
  pub pairs_exchanged : (a : ArraysView K V) (side : Side) (i : ℕ) (came out : List ((K × V) × ℕ))
      (b : BucketView K V) → i < length (buckets_on a side)
      → IsPermutation (came ++ entries_in (bucket_at (buckets_on a side) i)) (out ++ entries_in b)
      → IsPermutation (map (λ (e : (K × V) × ℕ). e.0) came ++ pairs_of a)
      (map (λ (e : (K × V) × ℕ). e.0) out ++ pairs_of (arrays_with a side i b))
  pairs_exchanged a side i came out b within moved =
      let pair : (K × V) × ℕ → K × V = λ e. e.0 in
      let after = arrays_with a side i b in
      subst (λ l. IsPermutation l (map pair out ++ pairs_of after)) (map-append pair came (entries_of a))
      (subst (IsPermutation (map pair (came ++ entries_of a))) (map-append pair out (entries_of after))
      (IsPermutation-map pair _ _ (entries_exchanged a side i came out b within moved)))

  -- a bucket that is killed exactly if the one before was leaves the flags as they were
  pub flags_same : (bs : List (BucketView K V)) (i : ℕ) (b : BucketView K V) → i < length bs
      → b.killed ≡ (bucket_at bs i).killed → killed_flags (set bs i b) ≡ killed_flags bs
  flags_same bs i b within same = map-set (λ (c : BucketView K V). c.killed) bs i b ∙ ap (λ (flag : Bool). set (killed_flags bs) i flag)
      (same ∙ sym (get_or-killed_flags bs i within)) ∙ set-get_or (killed_flags bs) i false

  rehashed_with : (l : List (BucketView K V)) (tickets : TicketState) (i : ℕ) (b : BucketView K V) → i < length l
      → b.killed ≡ (bucket_at l i).killed
      → b.killed ≡ false → LosesNoUnit l tickets → LosesNoUnit (set l i b) tickets
  rehashed_with l tickets i b within same alive kept = record {
    covered = rw (flags_same l i b within same) kept.covered;
    going_on = rw (length-set l i b) kept.going_on;
    emptied = All-set (λ (c : BucketView K V). c.killed ≡ true → pairs_in c ≡ []) l i b (λ dead. absurd (false≢true (sym alive ∙ dead)))
        kept.emptied;
  }

  -- an old bucket that isn't killed may hold any pairs whose home it is
  old_after_change : (hash : K → ℕ) (c l : List (BucketView K V)) (index : ℕ) (b : BucketView K V)
      → AreTwoArrays hash c l → index < length l → All (IsEntryHome hash (length l) index) (entries_in b)
      → b.killed ≡ (bucket_at l index).killed → b.killed ≡ false → AreTwoArrays hash c (set l index b)
  old_after_change hash c l index b law within homes same alive =
      let put = changes_at index b l within in
      let len : length (set l index b) ≡ length l = put.len in
      let flag = each_after put (λ j d. d.killed ≡ (bucket_at l j).killed) same (λ j apart. refl) in
      record {
        current_home = law.current_home;
        linked_home = λ j below. rw len (each_after put (λ k d. k < length l → All (IsEntryHome hash (length l) k) (entries_in d))
            (λ inside. homes) (λ k apart. law.linked_home k) j (omega arith));
        alive = law.alive;
        killed_empty = λ j below. each_after put (λ k d. k < length l → d.killed ≡ true → pairs_in d ≡ [])
            (λ inside dead. absurd (false≢true (sym alive ∙ dead))) (λ k apart. law.killed_empty k) j (omega arith);
        empty_targets = λ longer i j old_below below live meets.
            law.empty_targets (omega arith) i j (omega arith) below (sym (flag i) ∙ live)
            (subst (λ (n : ℕ). Meets n i (length c) j) len meets);
      }

  -- each pair of a bucket is in its home
  pub homes_on : (hash : K → ℕ) (a : ArraysView K V) (side : Side) (i : ℕ) → ArePlaced hash a → i < length (buckets_on a side)
      → All (IsEntryHome hash (length (buckets_on a side)) i) (entries_in (bucket_at (buckets_on a side) i))
  homes_on hash a Old i law within = law.homes.linked_home i within
  homes_on hash a Current i law within = law.homes.current_home i within

  -- a bucket whose pairs may change: an old one isn't killed, and a current one isn't a target that must be empty
  pub record IsChangeable (a : ArraysView K V) (side : Side) (i : ℕ) : Type 0 where
    pub within : i < length (buckets_on a side)
    pub filled : side ≡ Current → length a.linked ≤ length a.current → AreSourcesKilled a i
    pub alive : side ≡ Old → (bucket_at a.linked i).killed ≡ false

  pub changeable_locked : (a : ArraysView K V) (side : Side) (i : ℕ) → IsLocked a side i → IsChangeable a side i
  changeable_locked a side i locked = record { within = locked.within; filled = λ e longer. locked.killed e; alive = locked.alive }

  no_pair : (b : BucketView K V) (at : Place) (p : K × V) → live_pair (slot_in b at) ≡ Some p → pairs_in b ≡ [] → ⊥
  no_pair b at p here none =
      let less = length_permutation (pairs_in b) (p ∷ pairs_in (slots_without b at)) (pairs_in-slots_without b at p here) in
      absurd (omega (arith, less, ap (λ (ps : List (K × V)). length ps) none))

  -- a bucket that has a pair isn't an empty target, and isn't killed
  pub changeable_filled : (hash : K → ℕ) (a : ArraysView K V) (side : Side) (i : ℕ) → ArePlaced hash a
      → i < length (buckets_on a side) → (pairs_in (bucket_at (buckets_on a side) i) ≡ [] → ⊥) → IsChangeable a side i
  changeable_filled hash a Old i law within some = record {
    within = within;
    filled = λ e. absurd cc;
    alive = λ e. elim (cases_Bool (bucket_at a.linked i).killed) [
      | inl dead ↦ absurd (some (law.homes.killed_empty i within dead))
      | inr live ↦ live
    ];
  }
  changeable_filled hash a Current i law within some = record {
    within = within;
    filled = λ e longer k below meets. elim (cases_Bool (bucket_at a.linked k).killed) [
      | inl dead ↦ dead
      | inr live ↦ absurd (some
          (live_pairs-all_free (all_slots (bucket_at a.current i)) (law.homes.empty_targets longer k i below within live meets).free))
    ];
    alive = λ e. absurd cc;
  }

  pub changeable_holding : (hash : K → ℕ) (a : ArraysView K V) (side : Side) (i : ℕ) (at : Place) (p : K × V) → ArePlaced hash a
      → i < length (buckets_on a side) → live_pair (slot_in (bucket_at (buckets_on a side) i) at) ≡ Some p → IsChangeable a side i
  changeable_holding hash a side i at p law within there =
      changeable_filled hash a side i law within (no_pair (bucket_at (buckets_on a side) i) at p there)

  -- the law stays
  pub placed_after : (hash : K → ℕ) (a : ArraysView K V) (side : Side) (i : ℕ) (b : BucketView K V)
      → ArePlaced hash a → IsChangeable a side i → All (IsEntryHome hash (length (buckets_on a side)) i) (entries_in b)
      → b.killed ≡ (bucket_at (buckets_on a side) i).killed → ArePlaced hash (arrays_with a side i b)
  placed_after hash a Old i b law held homes same = record {
    homes = old_after_change hash a.current a.linked i b law.homes held.within homes same (same ∙ held.alive refl);
    rehashed = rehashed_with a.linked a.tickets i b held.within same (same ∙ held.alive refl) law.rehashed;
  }
  placed_after hash a Current i b law held homes same = record {
    homes = law_after_change hash a.current a.linked i b law.homes held.within (held.filled refl) homes
        (same ∙ law.homes.alive i held.within);
    rehashed = law.rehashed;
  }

  -- and if a locked bucket is replaced
  pub placed_change : (hash : K → ℕ) (a : ArraysView K V) (side : Side) (i : ℕ) (b : BucketView K V) → ArePlaced hash a → IsLocked a side i
      → All (IsEntryHome hash (length (buckets_on a side)) i) (entries_in b) → b.killed ≡ (bucket_at (buckets_on a side) i).killed
      → ArePlaced hash (arrays_with a side i b)
  placed_change hash a side i b law locked homes same = placed_after hash a side i b law (changeable_locked a side i locked) homes same

  -- the added entries and the earlier ones have their home there, so the present ones do
  pub homes_moved : (hash : K → ℕ) (len i : ℕ) (came out : List ((K × V) × ℕ))
      (b c : BucketView K V) → IsPermutation (came ++ entries_in b) (out ++ entries_in c)
      → All (IsEntryHome hash len i) (entries_in b) → All (IsEntryHome hash len i) came → All (IsEntryHome hash len i) (entries_in c)
  homes_moved hash len i came out b c moved here own =
      let P : (K × V) × ℕ → Type 0 = IsEntryHome hash len i in
      All-behind P out (entries_in c) (All-permutation P (came ++ entries_in b) (out ++ entries_in c) moved
      (All-append P came (entries_in b) own here))
