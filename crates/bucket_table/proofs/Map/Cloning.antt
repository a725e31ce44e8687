-- Buckets with a pair made of each pair of others, and the map that they are.
use Rattle.bucket_table.proofs.Words.{All, All-cons, All-nil, All-permutation, AllByRecursion, ArraysView, Bool, BucketView}
use Rattle.bucket_table.proofs.Words.{IsDistinct, IsDistinct-IsPermutation, IsDistinct-tail, IsEntryHome, IsEquivalence, IsHome, IsOneMap}
use Rattle.bucket_table.proofs.Words.{IsPermutation, IsPermutation-append_left, IsPermutation-append_right, IsPermutation-cons}
use Rattle.bucket_table.proofs.Words.{IsPermutation-map, IsPermutation-refl, IsPermutation-trans, List, MovesToNext, Option, Place, Some}
use Rattle.bucket_table.proofs.Words.{ap, append-nil, append_assoc, arith, bucket_at, cases_lt, counted_to, empty_bucket, entries_in, false}
use Rattle.bucket_table.proofs.Words.{first_tickets, get_or-set_other, get_or-set_same, length, length-set, length_permutation, live_pair}
use Rattle.bucket_table.proofs.Words.{map-entries_in, min, nil_from_length, null_place, pairs_ahead, pairs_in, pairs_in_all, pairs_of, refl}
use Rattle.bucket_table.proofs.Words.{replicate, same_Some, set, slot_in, slots_after_insertion, subst, suc, sym, true, ⊎_elim, ℕ, [], ◌%◌}
use Rattle.bucket_table.proofs.Words.{◌++◌, ◌+◌, ◌-◌, ◌<◌, ◌^◌, ◌∙◌, ◌∷◌, ◌≡◌, ◌≤◌}
use Rattle.std.proofs.lemmas.List.{get_or-replicate, length-replicate}
use Rattle.std.proofs.lemmas.List.Elements.{AllZip-push, length_all_zip}
use Rattle.std.proofs.lemmas.List.Sorted.{IsPermutation-to_front}
use Rattle.std.proofs.lemmas.Map.Keys.{IsDistinct-cons, IsDistinct-head}
use Rattle.std.specs.Borrow.{Bor}
use Rattle.std.specs.List.{AllZip}
use Rattle.std.specs.Map.{keys_of}
use Rattle.bucket_slots.proofs.MarksAfter.{entries_in-slots_after_insertion}
use Rattle.bucket_slots.proofs.RoomAfter.{killed-slots_after_insertion}
use Rattle.bucket_table.specs.Map.Cloning.{AreMadeBuckets, AreMadeOf, IsMadeBucket, IsMadeOf}
use Rattle.bucket_table.proofs.Map.LookUps.{pairs_are}
use Rattle.bucket_table.proofs.Views.Laws.{loses_none}

module _ {K V : Type 0} (hash : K → ℕ) (post : Bor K → Bor V → Option (K × V) → Type 0) where
  -- pairs are added
  added_pairs : (old new : BucketView K V) (pair : K × V) (byte : ℕ) → IsPermutation ((pair, byte) ∷ entries_in old) (entries_in new)
      → IsPermutation (pair ∷ pairs_in old) (pairs_in new)
  added_pairs old new pair byte added =
      let f : (K × V) × ℕ → K × V = λ entry. entry.0 in
      rw (← map-entries_in old, ← map-entries_in new) (IsPermutation-map f _ _ added)

  module _ (len index : ℕ) (own : BucketView K V) where
    -- the pairs of a bucket that aren't ahead of a pointer have each a pair made of it in another bucket, which has no other pair
    pub record IsCloning (at : Place) (copy : BucketView K V) : Type 0 where
      pub seen : List (K × V)
      pub pairs : List (K × V)
      pub whole : pairs_in own ≡ seen ++ pairs_ahead own at
      pub made : AllZip (IsMadeOf post) seen pairs
      pub all : IsPermutation pairs (pairs_in copy)
      pub home : All (IsEntryHome hash len index) (entries_in copy)
      pub alive : copy.killed ≡ false

    pub none_cloned : (at : Place) (copy : BucketView K V) → at ≡ null_place → copy ≡ empty_bucket → IsCloning at copy
    none_cloned at copy null empty = rw (null, empty) (record {
      seen = [];
      pairs = [];
      whole = refl;
      made = tt;
      all = IsPermutation-refl [];
      home = All-nil (IsEntryHome hash len index);
      alive = refl;
    })

    pub fewer_ahead : (at next : Place) → MovesToNext own at next → length (pairs_ahead own next) < length (pairs_ahead own at)
    fewer_ahead at next moves = let longer = ap length moves.ahead in omega (arith, longer)

    pub one_cloned : (kind : ℕ) (keeps : ℕ → Bool) (at next : Place) (copy new : BucketView K V) (key : Bor K) (value : Bor V)
        (pair : K × V) (h i : ℕ) → IsCloning at copy → MovesToNext own at next → live_pair (slot_in own next) ≡ Some (key.now, value.now)
        → post key value (Some pair) → h ≡ hash pair.0 → IsHome len h i → i ≡ index
        → new ≡ slots_after_insertion kind keeps copy pair (h % 256) → IsCloning next new
    one_cloned kind keeps at next copy new key value pair h i so_far moves here made hashed home at_index is =
        let entry : (K × V) × ℕ = (pair, hash pair.0 % 256) in
        let own_pair : moves.pair ≡ (key.now, value.now) = same_Some _ _ (sym moves.here ∙ here) in
        let after = slots_after_insertion kind keeps copy pair (hash pair.0 % 256) in
        let added = entries_in-slots_after_insertion kind keeps copy pair (hash pair.0 % 256) in
        rw (is, hashed) (record {
          seen = so_far.seen ++ moves.pair ∷ [];
          pairs = so_far.pairs ++ pair ∷ [];
          whole = so_far.whole ∙ ap (λ (l : List (K × V)). so_far.seen ++ l) moves.ahead
              ∙ sym (append_assoc so_far.seen (moves.pair ∷ []) (pairs_ahead own next));
          made = AllZip-push (IsMadeOf post) so_far.seen so_far.pairs moves.pair pair so_far.made (key, value, sym own_pair, made);
          all = IsPermutation-trans _ _ (pairs_in after) (IsPermutation-to_front so_far.pairs pair)
              (IsPermutation-trans _ _ (pairs_in after) (IsPermutation-cons pair so_far.pairs (pairs_in copy) so_far.all)
              (added_pairs copy after pair (hash pair.0 % 256) added));
          home = All-permutation (IsEntryHome hash len index) _ (entries_in after) added
              (All-cons (IsEntryHome hash len index) entry (entries_in copy)
              (record { home = rw (hashed, at_index) at home; own_byte = refl }) so_far.home);
          alive = killed-slots_after_insertion kind keeps copy pair (hash pair.0 % 256) ∙ so_far.alive;
        })

    pub all_cloned : (at : Place) (copy : BucketView K V) → IsCloning at copy → pairs_ahead own at ≡ []
        → IsMadeBucket hash post len index own copy
    all_cloned at copy so_far over =
        let whole : so_far.seen ≡ pairs_in own =
        sym (so_far.whole ∙ ap (λ (l : List (K × V)). so_far.seen ++ l) over ∙ append-nil so_far.seen) in
        record {
          pairs = so_far.pairs;
          made = subst (λ (l : List (K × V)). AllZip (IsMadeOf post) l so_far.pairs) whole so_far.made;
          all = so_far.all;
          home = so_far.home;
          alive = so_far.alive;
        }

  module _ (own : List (BucketView K V)) where
    -- the buckets below an index have the pairs made of another array's, and the others are empty
    pub record AreCloned (index : ℕ) (copy : List (BucketView K V)) : Type 0 where
      pub len : length copy ≡ length own
      pub done : (i : ℕ) → i < index → IsMadeBucket hash post (length own) i (bucket_at own i) (bucket_at copy i)
      pub empty : (i : ℕ) → index ≤ i → i < length own → bucket_at copy i ≡ empty_bucket

    pub no_bucket_cloned : (copy : List (BucketView K V)) → copy ≡ replicate (length own) empty_bucket → AreCloned 0 copy
    no_bucket_cloned copy fresh = rw fresh (record {
      len = length-replicate (length own) empty_bucket;
      done = λ i below. absurd (omega arith);
      empty = λ i low high. get_or-replicate (length own) i empty_bucket empty_bucket high;
    })

    pub one_bucket_cloned : (index : ℕ) (copy : List (BucketView K V)) (b : BucketView K V) → AreCloned index copy → index < length own
        → IsMadeBucket hash post (length own) index (bucket_at own index) b → AreCloned (index + 1) (set copy index b)
    one_bucket_cloned index copy b so_far within made = record {
      len = length-set copy index b ∙ so_far.len;
      done = λ i below. ⊎_elim
          (λ (before : i < index).
          rw (get_or-set_other copy index i b empty_bucket (λ e. absurd (omega (arith, e)))) (so_far.done i before))
          (λ (last : index ≤ i). let here : i ≡ index = omega arith in
          rw (here, get_or-set_same copy index b empty_bucket (omega (arith, so_far.len))) made)
          (cases_lt i index);
      empty = λ i low high. get_or-set_other copy index i b empty_bucket (λ e. absurd (omega (arith, e)))
          ∙ so_far.empty i (omega arith) high;
    }

    pub all_buckets_cloned : (index : ℕ) (copy : List (BucketView K V)) → AreCloned index copy → length own ≤ index
        → AreMadeBuckets hash post own copy
    all_buckets_cloned index copy so_far over = record {
      len = so_far.len;
      each = λ i within. so_far.done i (omega arith);
    }

module _ {K V : Type 0} (eq : K → K → Bool) (laws : IsEquivalence eq) (Made : K × V → K × V → Type 0)
    (equal : (own pair : K × V) → Made own pair → eq own.0 pair.0 ≡ true) where
  -- two keys are different if equal keys are
  apart_too : (own key other made : K) → eq own key ≡ true → eq other made ≡ true → eq own other ≡ false → eq key made ≡ false
  apart_too own key other made same same_other apart =
      sym (laws.congr own key made same) ∙ laws.symm own made ∙ sym (laws.congr other made own same_other) ∙ laws.symm other own ∙ apart

  apart_all : (own key : K) (es fs : List (K × V)) → eq own key ≡ true → AllZip Made es fs
      → AllByRecursion (λ k. eq own k ≡ false) (keys_of es) → AllByRecursion (λ k. eq key k ≡ false) (keys_of fs)
  apart_all own key [] [] same made apart = tt
  apart_all own key [] (f ∷ fs) same made apart = absurd made
  apart_all own key (e ∷ es) [] same made apart = absurd made
  apart_all own key (e ∷ es) (f ∷ fs) same made apart =
      (apart_too own key e.0 f.0 same (equal e f made.0) apart.0, apart_all own key es fs same made.1 apart.1)

  -- so no two keys of pairs that are made are equal if no two of the others are
  pub distinct_made : (es fs : List (K × V)) → AllZip Made es fs → IsDistinct eq (keys_of es) → IsDistinct eq (keys_of fs)
  distinct_made [] [] made distinct = distinct
  distinct_made [] (f ∷ fs) made distinct = absurd made
  distinct_made (e ∷ es) [] made distinct = absurd made
  distinct_made (e ∷ es) (f ∷ fs) made distinct =
      IsDistinct-cons eq f.0 (keys_of fs)
      (apart_all e.0 f.0 es fs (equal e f made.0) made.1 (IsDistinct-head eq e.0 (keys_of es) distinct))
      (distinct_made es fs made.1 (IsDistinct-tail eq e.0 (keys_of es) distinct))

module _ {K V : Type 0} (hash : K → ℕ) (post : Bor K → Bor V → Option (K × V) → Type 0) where
  all_joined_too : (xs ys us vs : List (K × V)) → AllZip (IsMadeOf post) xs us → AllZip (IsMadeOf post) ys vs
      → AllZip (IsMadeOf post) (xs ++ ys) (us ++ vs)
  all_joined_too [] ys [] vs front rest = rest
  all_joined_too [] ys (u ∷ us) vs front rest = absurd front
  all_joined_too (x ∷ xs) ys [] vs front rest = absurd front
  all_joined_too (x ∷ xs) ys (u ∷ us) vs front rest = (front.0, all_joined_too xs ys us vs front.1 rest)

  -- the pairs of all buckets are made of those of all others
  joined : (len : ℕ) (own copy : List (BucketView K V)) → length copy ≡ length own
      → ((i : ℕ) → i < length own → (k : ℕ) × IsMadeBucket hash post len k (bucket_at own i) (bucket_at copy i))
      → AreMadeOf post (pairs_in_all own) (pairs_in_all copy)
  joined len [] [] same each = record { pairs = []; made = tt; all = IsPermutation-refl [] }
  joined len [] (c ∷ copy) same each = absurd (omega (arith, same))
  joined len (o ∷ own) [] same each = absurd (omega (arith, same))
  joined len (o ∷ own) (c ∷ copy) same each =
      let here = (each 0 (omega arith)).1 in
      let rest = joined len own copy (omega (arith, same)) (λ i below. each (suc i) (omega (arith, below))) in
      record {
        pairs = here.pairs ++ rest.pairs;
        made = all_joined_too (pairs_in o) (pairs_in_all own) here.pairs rest.pairs here.made rest.made;
        all = IsPermutation-trans (here.pairs ++ rest.pairs) (here.pairs ++ pairs_in_all copy) (pairs_in c ++ pairs_in_all copy)
            (IsPermutation-append_right here.pairs rest.pairs (pairs_in_all copy) rest.all)
            (IsPermutation-append_left (pairs_in_all copy) here.pairs (pairs_in c) here.all);
      }

  -- arrays with such a current array alone
  abbrev alone_with : ℕ → ℕ → List (BucketView K V) → ArraysView K V
  alone_with minimum maximum current =
      record { minimum = minimum; maximum = maximum; current = current; linked = []; tickets = first_tickets 0 }

  pub made_of : (old new : ArraysView K V) → length old.linked ≡ 0 → AreMadeBuckets hash post old.current new.current
      → new ≡ alone_with old.minimum old.maximum new.current → AreMadeOf post (pairs_of old) (pairs_of new)
  made_of old new alone made is =
      let none = nil_from_length old.linked alone in
      let own : pairs_of old ≡ pairs_in_all old.current =
      pairs_are old ∙ ap (λ l. pairs_in_all old.current ++ pairs_in_all l) none ∙ append-nil (pairs_in_all old.current) in
      let copied : pairs_of new ≡ pairs_in_all new.current =
      pairs_are new ∙ ap (λ (a : ArraysView K V). pairs_in_all new.current ++ pairs_in_all a.linked) is
      ∙ append-nil (pairs_in_all new.current) in
      rw (own, copied) (joined (length old.current) old.current new.current made.len (λ i within. (i, made.each i within)))

  -- are one map
  pub one_made : (eq : K → K → Bool) → IsEquivalence eq → (old new : ArraysView K V)
      → ((key : Bor K) (value : Bor V) (pair : K × V) → post key value (Some pair) → eq key.now pair.0 ≡ true)
      → length old.linked ≡ 0 → AreMadeBuckets hash post old.current new.current → new ≡ alone_with old.minimum old.maximum new.current
      → IsDistinct eq (keys_of (pairs_of old)) → IsOneMap eq hash new
  one_made eq laws old new equal alone made is distinct =
      let of = made_of old new alone made is in
      record {
        distinct = IsDistinct-IsPermutation eq laws.symm (keys_of of.pairs) (keys_of (pairs_of new))
            (IsPermutation-map (λ (pair : K × V). pair.0) of.pairs (pairs_of new) of.all)
            (distinct_made eq laws (IsMadeOf post) (λ own pair m.
            subst (λ (k : K). eq k pair.0 ≡ true) (ap (λ (p : K × V). p.0) m.2) (equal m.0 m.1 pair m.3))
            (pairs_of old) of.pairs of.made distinct);
        placed = rw is (record {
          homes = record {
            current_home = λ i within. rw made.len ((made.each i (omega (arith, made.len, within))).home);
            linked_home = λ i within. absurd (omega arith);
            alive = λ j within. (made.each j (omega (arith, made.len, within))).alive;
            killed_empty = λ i within. absurd (omega arith);
            empty_targets = λ longer i j within. absurd (omega arith);
          };
          rehashed = loses_none;
        });
      }

  -- and the same number
  pub counted_made : (old new : ArraysView K V) (n : ℕ) → length old.linked ≡ 0 → AreMadeBuckets hash post old.current new.current
      → new ≡ alone_with old.minimum old.maximum new.current → n ≡ counted_to (pairs_of old) → n ≡ counted_to (pairs_of new)
  counted_made old new n alone made is count =
      let of = made_of old new alone made is in
      let same : length (pairs_of old) ≡ length (pairs_of new) =
      length_all_zip (IsMadeOf post) (pairs_of old) of.pairs of.made ∙ sym (length_permutation of.pairs (pairs_of new) of.all) in
      count ∙ ap (λ (k : ℕ). min k (2 ^ 64 - 1)) same
