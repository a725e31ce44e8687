-- Pairs that spread from a bucket's own slots over some buckets.
use Rattle.bucket_slots.proofs.Words.{[], cases_eq, false, get_or-set_other, get_or-set_same, inl, inr}
use Rattle.bucket_slots.proofs.Words.{AreParts, Bool, Bor, BucketView, List, Some, ap, append-nil, append_assoc, arith}
use Rattle.bucket_slots.proofs.Words.{div-add-mod, drop, drop-drop, drop_all, empty_bucket, first_place, flattened, is_free, length}
use Rattle.bucket_slots.proofs.Words.{length-append, length-drop, length-set, length-take-le, live, mod-lt, mul_comm}
use Rattle.bucket_slots.proofs.Words.{part_at, position, pow_pos, refl, replicate, set}
use Rattle.bucket_slots.proofs.Words.{slots_with, subst, suc, sym, take, take_all, unmade_bucket, with_slot, with_unmade}
use Rattle.bucket_slots.proofs.Words.{zero, ℕ, ◌%◌, ◌*◌, ◌++◌, ◌+◌, ◌-◌, ◌/◌, ◌<◌, ◌^◌, ◌∙◌, ◌≡◌, ◌≤◌}
use Rattle.std.proofs.lemmas.List.{get_or-append_right, get_or_append_left, set-append_left, set-append_right, take-append-drop}
use Rattle.std.proofs.lemmas.List.Elements.{All-set}
use Rattle.bucket_slots.specs.ArrayView.{bucket_at}
use Rattle.bucket_slots.specs.Homes.{IsHome}
use Rattle.bucket_slots.specs.Layout.ArrayFields.{IsArray}
use Rattle.bucket_slots.specs.Spreading.{IsShifted, Spreads, SpreadsOne, SpreadsSome}
use Rattle.bucket_slots.proofs.ArrayParts.{back, flattened-set, flattened_split, front, length-front, length_row, long_parts, long_view, place_is}
use Rattle.bucket_slots.specs.Layout.ArrayParts.{AreBuckets, buckets_of}
use Rattle.bucket_slots.proofs.Intervals.{home_by_offset}

module _ {K V : Type 0} where
  -- if an own slot is free, a pair is placed in the first free one
  pub put_in_own : (b : BucketView K V) (pos : ℕ) (pair : K × V) (byte : ℕ) → position is_free b.own ≡ Some pos
      → slots_with b pair byte ≡ with_slot b (record { block = 0; pos = pos }) (live pair byte)
  put_in_own b pos pair byte at =
      let first : first_place is_free b ≡ Some (record { block = 0; pos = pos }) = rw at refl in
      rw first refl

-- a wrapping difference is the true one, if it is below a bound that fits above the subtracted number
pub offset_is : (number start len : ℕ) → number < 2 ^ 64 → start < 2 ^ 64 → start + len ≤ 2 ^ 64
    → (number + (2 ^ 64 - start)) % 2 ^ 64 < len → number ≡ start + (number + (2 ^ 64 - start)) % 2 ^ 64
offset_is number start len fits begins bounded below = omega arith

-- elements written over others
pub put_over : {A : Type 0} (xs ws : List A) (i : ℕ) → i + length ws ≤ length xs
    → take (length xs) ((take i xs ++ (ws ++ drop (length ws) (drop i xs)))
    ++ drop (length (take i xs ++ (ws ++ drop (length ws) (drop i xs)))) xs)
    ≡ take i xs ++ (ws ++ drop (i + length ws) xs)
put_over xs ws i fits =
    let zs = take i xs ++ (ws ++ drop (length ws) (drop i xs)) in
    let long : length zs ≡ length xs = simp (length-append, length-drop) (omega (arith, length-take-le i xs (omega arith))) in
    let none = drop_all (length zs) xs (omega (arith, long)) in
    ap (λ l. take (length xs) (zs ++ l)) none ∙ ap (take (length xs)) (append-nil zs) ∙ take_all (length xs) zs (omega (arith, long))
    ∙ ap (λ l. take i xs ++ (ws ++ l)) (drop-drop (length ws) i xs)

module _ {K V : Type 0} (kind : ℕ) (answers : Bor K → ℕ → Type 0) (names : ℕ → ℕ → Type 0) where
  pub spread_len : (start count : ℕ) (s t : BucketView K V) (c d : List (BucketView K V)) → Spreads kind answers names start count s c t d
      → length d ≡ length c
  spread_len start zero s t c d (left, same) = ap length same
  spread_len start (suc count) s t c d (left, between, rest, one) =
      ap length one.placed ∙ length-set between one.index _ ∙ spread_len start count s left c between rest

  module _ (front back : List (BucketView K V)) (start at : ℕ) (stands : at ≡ start + length front) where
    -- what happens to some buckets happens to a list that contains them
    one_within : (s t : BucketView K V) (c d : List (BucketView K V)) → SpreadsOne kind answers names at s c t d
        → SpreadsOne kind answers names start s (front ++ (c ++ back)) t (front ++ (d ++ back))
    one_within s t c d one =
        let i : ℕ = length front + one.index in
        let left : i - length front ≡ one.index = omega arith in
        let read : bucket_at (front ++ (c ++ back)) i ≡ bucket_at c one.index =
        get_or-append_right front (c ++ back) (length front) i empty_bucket refl (omega arith) ∙ ap (bucket_at (c ++ back)) left
        ∙ get_or_append_left c back empty_bucket one.index one.within in
        let b = slots_with (bucket_at c one.index) (one.key.now, one.value) (one.number % 256) in
        let put : set (front ++ (c ++ back)) i b ≡ front ++ (set c one.index b ++ back) =
        set-append_right front (c ++ back) (length front) i b refl (omega arith) ∙ ap (λ k. front ++ set (c ++ back) k b) left
        ∙ ap (λ l. front ++ l) (set-append_left c back one.index b one.within) in
        record {
          at = one.at;
          next = one.next;
          key = one.key;
          value = one.value;
          here = one.here;
          number = one.number;
          answered = one.answered;
          index = i;
          within = simp length-append (omega (arith, one.within));
          named = (let same : at + one.index ≡ start + i = omega (arith, stands) in subst (names one.number) same one.named);
          laws = one.laws;
          home_laws = rw read one.home_laws;
          vacated = one.vacated;
          placed = rw (read, put) (ap (λ l. front ++ (l ++ back)) one.placed);
        }

    pub spread_within : (count : ℕ) (s t : BucketView K V) (c d : List (BucketView K V)) → Spreads kind answers names at count s c t d
        → Spreads kind answers names start count s (front ++ (c ++ back)) t (front ++ (d ++ back))
    spread_within zero s t c d (left, same) = (left, ap (λ l. front ++ (l ++ back)) same)
    spread_within (suc count) s t c d (left, between, rest, one) =
        (left, front ++ (between ++ back), spread_within count s left c between rest, one_within left t between d one)

  -- the same with another relation between a number and an index
  pub spread_named : (other : ℕ → ℕ → Type 0) → ((number index : ℕ) → names number index → other number index) → (start count : ℕ)
      (s t : BucketView K V) (c d : List (BucketView K V)) → Spreads kind answers names start count s c t d
      → Spreads kind answers other start count s c t d
  spread_named other means start zero s t c d same = same
  spread_named other means start (suc count) s t c d (left, between, rest, one) = (
    left,
    between,
    spread_named other means start count s left c between rest,
    record {
      at = one.at;
      next = one.next;
      key = one.key;
      value = one.value;
      here = one.here;
      number = one.number;
      answered = one.answered;
      index = one.index;
      within = one.within;
      named = means one.number (start + one.index) one.named;
      laws = one.laws;
      home_laws = one.home_laws;
      vacated = one.vacated;
      placed = one.placed;
    },
  )

module _ {K V : Type 0} where
  -- a part of which some initialized buckets are replaced, and what is before them and after them
  pub record IsPartOver (made : List (BucketView K V)) (len : ℕ) (released : Bool) (i : ℕ)
      (run ws made_after : List (BucketView K V)) : Type 0 where
    pub front : List (BucketView K V)
    pub back : List (BucketView K V)
    pub front_len : length front ≡ i
    pub was : with_unmade made len released ≡ front ++ (run ++ back)
    pub is : with_unmade made_after len released ≡ front ++ (ws ++ back)

  pub part_over : (made : List (BucketView K V)) (len count : ℕ) (released : Bool) (i n : ℕ) (run ws : List (BucketView K V))
      → count ≡ length made → i + n ≤ length made → run ≡ take (i + n - i) (drop i made) → length ws ≡ length run
      → IsPartOver made len released i run ws (take count ((take i made ++ (ws ++ drop (length ws) (drop i made)))
      ++ drop (length (take i made ++ (ws ++ drop (length ws) (drop i made)))) made))
  part_over made len count released i n run ws counted fits run_is same =
      let size : i + n - i ≡ n = omega arith in
      let run_at : run ≡ take n (drop i made) = run_is ∙ ap (λ k. take k (drop i made)) size in
      let long : length run ≡ n = ap length run_at ∙ length-take-le n (drop i made) (omega (arith, length-drop i made)) in
      let rest = replicate (len - length made) (unmade_bucket released) in
      let after = take i made ++ (ws ++ drop (i + length ws) made) in
      let put = put_over made ws i (omega (arith, same, long)) in
      let after_len : length after ≡ length made =
      simp (length-append, length-drop) (omega (arith, length-take-le i made (omega arith), same, long)) in
      let whole : take i made ++ (run ++ drop (i + n) made) ≡ made =
      ap (λ l. take i made ++ (l ++ drop (i + n) made)) run_at
      ∙ ap (λ l. take i made ++ (take n (drop i made) ++ l)) (sym (drop-drop n i made))
      ∙ ap (λ l. take i made ++ l) (take-append-drop n (drop i made)) ∙ take-append-drop i made in
      record {
        front = take i made;
        back = drop (i + n) made ++ rest;
        front_len = length-take-le i made (omega arith);
        was = ap (λ l. l ++ rest) (sym whole) ∙ append_assoc (take i made) (run ++ drop (i + n) made) rest
            ∙ ap (λ l. take i made ++ l) (append_assoc run (drop (i + n) made) rest);
        is =
            let count_is = ap (λ k. take k ((take i made ++ (ws ++ drop (length ws) (drop i made)))
            ++ drop (length (take i made ++ (ws ++ drop (length ws) (drop i made)))) made)) counted ∙ put in
            let ends : i + length ws ≡ i + n = omega (arith, same, long) in
            ap (λ l. with_unmade l len released) count_is
            ∙ ap (λ k. after ++ replicate (len - k) (unmade_bucket released)) after_len
            ∙ append_assoc (take i made) (ws ++ drop (i + length ws) made) rest
            ∙ ap (λ l. take i made ++ l) (append_assoc ws (drop (i + length ws) made) rest)
            ∙ ap (λ k. take i made ++ (ws ++ (drop k made ++ rest))) ends;
      }

  -- a list of buckets of which some are replaced, and what is before them and after them
  pub record IsListOver (made : List (BucketView K V)) (i : ℕ) (run ws after : List (BucketView K V)) : Type 0 where
    pub front : List (BucketView K V)
    pub back : List (BucketView K V)
    pub front_len : length front ≡ i
    pub was : made ≡ front ++ (run ++ back)
    pub is : after ≡ front ++ (ws ++ back)
    pub long : length after ≡ length made

  pub list_over : (made : List (BucketView K V)) (count i n : ℕ) (run ws : List (BucketView K V))
      → count ≡ length made → i + n ≤ length made → run ≡ take (i + n - i) (drop i made) → length ws ≡ length run
      → IsListOver made i run ws (take count ((take i made ++ (ws ++ drop (length ws) (drop i made)))
      ++ drop (length (take i made ++ (ws ++ drop (length ws) (drop i made)))) made))
  list_over made count i n run ws counted fits run_is same =
      let over = part_over made 0 count false i n run ws counted fits run_is same in
      let was = sym (unmade_none made) ∙ over.was in
      let is = sym (unmade_none _) ∙ over.is in
      record {
        front = over.front;
        back = over.back;
        front_len = over.front_len;
        was = was;
        is = is;
        long = ap length is ∙ simp length-append (omega (arith, same)) ∙ sym (ap length was);
      }
    where
      unmade_none : (buckets : List (BucketView K V)) → with_unmade buckets 0 false ≡ buckets
      unmade_none buckets =
          let none : 0 - length buckets ≡ 0 = omega arith in
          ap (λ n. buckets ++ replicate n (unmade_bucket false)) none ∙ append-nil buckets

  -- the parts of an array around the place of a bucket
  pub record IsAround (parts : List (List (BucketView K V))) (spare : List (BucketView K V)) (len bits part offset start : ℕ) : Type 0 where
    pub first : start ≡ part * 2 ^ bits + offset
    pub front : List (BucketView K V)
    pub back : List (BucketView K V)
    pub stands : part * 2 ^ bits ≡ 0 + length front
    pub was : flattened parts ≡ front ++ (part_at parts part ++ back)
    pub is : (left : List (BucketView K V)) → flattened (set parts part left) ≡ front ++ (left ++ back)
    pub kept : (left : List (BucketView K V)) → length left ≡ length (part_at parts part) → AreParts (set parts part left) spare len bits

  around : (parts : List (List (BucketView K V))) (spare : List (BucketView K V)) (len bits : ℕ) (kept : AreParts parts spare len bits)
      (part offset start : ℕ) → start < length (flattened parts) → part ≡ start / 2 ^ bits → offset ≡ start % 2 ^ bits
      → IsAround parts spare len bits part offset start
  around parts spare len bits kept part offset start below part_is offset_is =
      let m : ℕ = 2 ^ bits in
      let place = place_is parts spare len bits kept part offset start (flattened parts) refl below part_is offset_is in
      let inside : offset < m = rw offset_is (mod-lt start (pow_pos bits)) in
      let long = length_row parts m part offset kept.long place.within inside in
      let was = flattened_split parts m part offset kept.long place.within inside in
      let is = flattened-set parts m part offset kept.long place.within inside in
      let length_front = length-front parts m part offset kept.long place.within inside in
      record {
        first = rw (part_is, offset_is) (sym (ap (λ n. n + start % m) (mul_comm (start / m) m) ∙ div-add-mod start m));
        front = front parts m part offset kept.long place.within inside;
        back = back parts m part offset kept.long place.within inside;
        stands = omega (arith, length_front);
        was = was;
        is = is;
        kept = λ left same. record {
          long = All-set (λ p. length p ≡ m) parts part left (same ∙ long) kept.long;
          few_bits = kept.few_bits;
          len_is = kept.len_is ∙ ap length was ∙ sym (ap length (is left) ∙ simp length-append (omega (arith, same)));
          spare_is = kept.spare_is;
        };
      }

  -- what happens to one of the parts happens to all buckets
  pub spread_in_parts : (kind : ℕ) (answers : Bor K → ℕ → Type 0) (names : ℕ → ℕ → Type 0) (parts : List (List (BucketView K V)))
      (spare : List (BucketView K V)) (len bits : ℕ) (kept : AreParts parts spare len bits) (part offset start : ℕ)
      → start < length (flattened parts) → part ≡ start / 2 ^ bits → offset ≡ start % 2 ^ bits → (s t : BucketView K V)
      (left : List (BucketView K V)) → ((first : ℕ) → start ≡ first + offset
      → SpreadsSome kind answers names first s (part_at parts part) t left)
      → AreParts (set parts part left) spare len bits
      × SpreadsSome kind answers names 0 s (flattened parts) t (flattened (set parts part left))
  spread_in_parts kind answers names parts spare len bits kept part offset start below part_is offset_is s t left spreads =
      let there = around parts spare len bits kept part offset start below part_is offset_is in
      let (count, spread) = spreads (part * 2 ^ bits) there.first in
      let same = spread_len kind answers names (part * 2 ^ bits) count s t (part_at parts part) left spread in
      let whole = spread_within kind answers names there.front there.back 0 (part * 2 ^ bits) there.stands count s t
      (part_at parts part) left spread in
      let before = subst (λ cs. Spreads kind answers names 0 count s cs t (there.front ++ (left ++ there.back))) (sym there.was) whole in (
        there.kept left same,
        (count, subst (λ ds. Spreads kind answers names 0 count s (flattened parts) t ds) (sym (there.is left)) before),
      )

  pub spread_in_buckets : (kind : ℕ) (answers : Bor K → ℕ → Type 0) (names : ℕ → ℕ → Type 0) (parts : List (List (BucketView K V)))
      (beside : List (BucketView K V)) (len bits : ℕ) → AreBuckets parts beside len bits → 4 < len → (part offset start : ℕ)
      → start < length (buckets_of parts beside) → part ≡ start / 2 ^ bits → offset ≡ start % 2 ^ bits → (s t : BucketView K V)
      (left : List (BucketView K V)) → ((first : ℕ) → start ≡ first + offset
      → SpreadsSome kind answers names first s (part_at parts part) t left)
      → AreBuckets (set parts part left) beside len bits
      × SpreadsSome kind answers names 0 s (buckets_of parts beside) t (buckets_of (set parts part left) beside)
  spread_in_buckets kind answers names parts beside len bits all many part offset start below part_is offset_is s t left spreads =
      let kept = long_parts all many in
      let inside : start < length (flattened parts) = rw (← long_view kept many) below in
      let after = spread_in_parts kind answers names parts beside len bits kept part offset start inside part_is offset_is s t left
      spreads in
      (inr (after.0, many), rw (long_view kept many, long_view after.0 many) after.1)

  -- the buckets that a shift by an array's offset names are homes
  pub spread_homes : (kind : ℕ) (answers : Bor K → ℕ → Type 0) (now after : List (BucketView K V)) (shift size : ℕ)
      → IsArray (length now) shift size → (s t : BucketView K V) → SpreadsSome kind answers (IsShifted shift) 0 s now t after
      → SpreadsSome kind answers (IsHome (length now)) 0 s now t after × (length after ≡ length now)
  spread_homes kind answers now after shift size fields s t (count, spread) =
      let named : (number index : ℕ) → IsShifted shift number index → IsHome (length now) number index =
      λ number index shifted.
      subst (λ i. IsHome (length now) number i) shifted.1
      (home_by_offset number (length now) shift fields.offset_positive fields.offset_in_range fields.len_is shifted.0) in (
        (count, spread_named kind answers (IsShifted shift) (IsHome (length now)) named 0 count s t now after spread),
        spread_len kind answers (IsShifted shift) 0 count s t now after spread,
      )

  -- two lists with the same front have the same elements in it
  pub front_same : (front xs ys : List (BucketView K V)) (i : ℕ) → i < length front → bucket_at (front ++ xs) i ≡ bucket_at (front ++ ys) i
  front_same front xs ys i below = get_or_append_left front xs empty_bucket i below ∙ sym (get_or_append_left front ys empty_bucket i below)

  -- if one part changes after an offset, the buckets before that place stay
  pub same_before : (parts items : List (List (BucketView K V))) (spare : List (BucketView K V)) (len bits part offset start : ℕ)
      (left : List (BucketView K V)) → AreParts parts spare len bits → AreParts items spare len bits → start < length (flattened parts)
      → part ≡ start / 2 ^ bits → offset ≡ start % 2 ^ bits → items ≡ set parts part left
      → ((k : ℕ) → k < offset → bucket_at left k ≡ bucket_at (part_at parts part) k) → (i : ℕ) → i < start
      → bucket_at (flattened items) i ≡ bucket_at (flattened parts) i
  same_before parts items spare len bits part offset start left kept after below part_is offset_is is same i before =
      let m : ℕ = 2 ^ bits in
      let there = place_is parts spare len bits kept part offset start (flattened parts) refl below part_is offset_is in
      let here : i < length (flattened parts) = omega (arith, below) in
      let here_after : i < length (flattened items) = omega (arith, below, kept.len_is, after.len_is) in
      let p = place_is parts spare len bits kept (i / m) (i % m) i (flattened parts) refl here refl refl in
      let q = place_is items spare len bits after (i / m) (i % m) i (flattened items) refl here_after refl refl in
      let inner : bucket_at (part_at (set parts part left) (i / m)) (i % m) ≡ bucket_at (part_at parts (i / m)) (i % m) =
      elim (cases_eq (i / m) part) [
        | inl e ↦
            let products : m * (i / m) ≡ m * (start / m) = ap (λ n. m * n) (e ∙ part_is) in
            let less : i % m < offset = rw offset_is (omega (arith, div-add-mod i m, div-add-mod start m, products)) in
            rw (e, get_or-set_same parts part left [] there.within) (same (i % m) less)
        | inr other ↦ rw (get_or-set_other parts part (i / m) left [] other) refl
      ] in
      sym q.read ∙ ap (λ (ps : List (List (BucketView K V))). bucket_at (part_at ps (i / m)) (i % m)) is ∙ inner ∙ p.read

  pub same_buckets_before : (parts : List (List (BucketView K V))) (beside : List (BucketView K V)) (len bits part offset start : ℕ)
      (left : List (BucketView K V)) → AreBuckets parts beside len bits → AreBuckets (set parts part left) beside len bits → 4 < len
      → start < length (buckets_of parts beside) → part ≡ start / 2 ^ bits → offset ≡ start % 2 ^ bits
      → ((k : ℕ) → k < offset → bucket_at left k ≡ bucket_at (part_at parts part) k) → (i : ℕ) → i < start
      → bucket_at (buckets_of (set parts part left) beside) i ≡ bucket_at (buckets_of parts beside) i
  same_buckets_before parts beside len bits part offset start left all after many below part_is offset_is same i before =
      let kept = long_parts all many in
      let left_kept = long_parts after many in
      let inside : start < length (flattened parts) = rw (← long_view kept many) below in
      rw (long_view kept many, long_view left_kept many)
      (same_before parts (set parts part left) beside len bits part offset start left kept left_kept inside part_is offset_is refl same i
      before)
