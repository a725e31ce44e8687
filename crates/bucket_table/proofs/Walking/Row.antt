-- The buckets of both arrays in a row: which array one is in, and the pairs after a place.
use Rattle.bucket_table.proofs.Words.{AreArrays, ArraysView, BucketView, Current, List, MovesToNext, Old, Option, Place, Side, Slot, Some}
use Rattle.bucket_table.proofs.Words.{[], ap, append_assoc, arith, arrays_with, bucket_at, bucket_on, buckets_on, cases_lt, empty_bucket}
use Rattle.bucket_table.proofs.Words.{entries_among, entries_in, entries_of, flattened, get_or, get_or-set_same, inl, inr, length}
use Rattle.bucket_table.proofs.Words.{length-append, length-set, live_pair, live_pairs, marks_among, marks_in, tombstones_of, nil_from_length}
use Rattle.bucket_table.proofs.Words.{null_place, pairs_ahead, pairs_in, pairs_of, refl, set, slot_in, subst, suc, sym, take, zero, ℕ, ◌++◌}
use Rattle.bucket_table.proofs.Words.{◌+◌, ◌-◌, ◌<◌, ◌∙◌, ◌∷◌, ◌≡◌, ◌≤◌}
use Rattle.std.proofs.Common.{drop}
use Rattle.std.specs.Option.{unwrap_or}
use Rattle.std.proofs.Math.Numerals.{add-one}
use Rattle.std.proofs.Math.Seq.{drop-nil}
use Rattle.std.proofs.lemmas.Bool.{cond_above, cond_below}
use Rattle.std.proofs.lemmas.List.{append_cancel_right, at_drop_more, drop-set-lt, drop_all, get_or-append_right, get_or_append_left}
use Rattle.std.proofs.lemmas.List.{get_or_past, set-append_left, set-append_right, set-get_or, set_split, take-append-drop}
use Rattle.std.proofs.lemmas.List.Concat.{flat_map-append}
use Rattle.std.proofs.lemmas.List.Elements.{filter_map-append}
use Rattle.bucket_slots.specs.Walking.{IsEnd, position_after}
use Rattle.bucket_table.specs.Map.LookingUp.{pairs_in_all}
use Rattle.bucket_table.specs.Walking.Extracting.{KeepsShape}
use Rattle.bucket_table.specs.Walking.Row.{MovesOn, pairs_from, row_of, row_with}
use Rattle.bucket_table.proofs.Map.LookUps.{pairs_are}
use Rattle.bucket_table.proofs.Views.SideChanges.{arrays_with-same}

regrouped : {X : Type 0} (xs ys zs ws : List X) → xs ++ ((ys ++ zs) ++ ws) ≡ (xs ++ ys) ++ (zs ++ ws)
regrouped xs ys zs ws = ap (λ l. xs ++ l) (append_assoc ys zs ws) ∙ sym (append_assoc xs ys (zs ++ ws))

module _ {K V : Type 0} where
  -- the array that has the bucket at an index of the row
  pub record StandsOn (a : ArraysView K V) (index : ℕ) : Type 0 where
    pub side : Side
    pub own : ℕ
    pub within : own < length (buckets_on a side)
    pub bucket : bucket_on a side own ≡ bucket_at (row_of a) index
    pub with : (b : BucketView K V) → row_with a index b ≡ arrays_with a side own b

  pub with_current : (a : ArraysView K V) (index : ℕ) (b : BucketView K V) → index < length a.current
      → row_with a index b ≡ arrays_with a Current index b
  with_current a index b below = sym (cond_below index (length a.current) _ _ below)

  pub with_old : (a : ArraysView K V) (index : ℕ) (b : BucketView K V) → length a.current ≤ index
      → row_with a index b ≡ arrays_with a Old (index - length a.current) b
  with_old a index b past = sym (cond_above index (length a.current) (arrays_with a Current index b) _ _ past refl)

  pub stands : (a : ArraysView K V) (index : ℕ) → index < length (row_of a) → StandsOn a index
  stands a index within = elim (cases_lt index (length a.current)) [
    | inl below ↦ record {
      side = Current;
      own = index;
      within = below;
      bucket = sym (get_or_append_left a.current a.linked empty_bucket index below);
      with = λ b. with_current a index b below;
    }
    | inr past ↦ record {
      side = Old;
      own = index - length a.current;
      within = omega (arith, past, within, length-append a.current a.linked);
      bucket = sym (get_or-append_right a.current a.linked (length a.current) index empty_bucket refl past);
      with = λ b. with_old a index b past;
    }
  ]

  -- a bucket of the current array is in the row
  pub current_in_row : (a : ArraysView K V) (index : ℕ) → index < length a.current
      → (index < length (row_of a)) × (bucket_at a.current index ≡ bucket_at (row_of a) index)
  current_in_row a index below = (
    omega (arith, below, length-append a.current a.linked),
    sym (get_or_append_left a.current a.linked empty_bucket index below),
  )

  -- and one of the old array after them
  pub old_in_row : (a : ArraysView K V) (index own : ℕ) → own ≡ index - length a.current → length a.current ≤ index
      → own < length a.linked → (index < length (row_of a)) × (bucket_at a.linked own ≡ bucket_at (row_of a) index)
  old_in_row a index own same past within = (
    omega (arith, same, past, within, length-append a.current a.linked),
    ap (λ n. bucket_at a.linked n) same
        ∙ sym (get_or-append_right a.current a.linked (length a.current) index empty_bucket refl past),
  )

  pub row_of-row_with : (a : ArraysView K V) (index : ℕ) (b : BucketView K V) → row_of (row_with a index b) ≡ set (row_of a) index b
  row_of-row_with a index b = elim (cases_lt index (length a.current)) [
    | inl below ↦ ap row_of (with_current a index b below) ∙ sym (set-append_left a.current a.linked index b below)
    | inr past ↦ ap row_of (with_old a index b past) ∙ sym (set-append_right a.current a.linked (length a.current) index b refl past)
  ]

  pub row_with-same : (a : ArraysView K V) (index : ℕ) → index < length (row_of a) → row_with a index (bucket_at (row_of a) index) ≡ a
  row_with-same a index within =
      let on = stands a index within in
      on.with (bucket_at (row_of a) index) ∙ ap (arrays_with a on.side on.own) (sym on.bucket) ∙ arrays_with-same a on.side on.own

  -- replacing a bucket keeps the shape
  pub shape_with : (a : ArraysView K V) (index : ℕ) (b : BucketView K V) → KeepsShape a (row_with a index b)
  shape_with a index b = elim (cases_lt index (length a.current)) [
    | inl below ↦ rw (with_current a index b below) (record {
      minimum = refl;
      maximum = refl;
      tickets = refl;
      current_len = length-set a.current index b;
      linked_len = refl;
    })
    | inr past ↦ rw (with_old a index b past) (record {
      minimum = refl;
      maximum = refl;
      tickets = refl;
      current_len = refl;
      linked_len = length-set a.linked (index - length a.current) b;
    })
  ]

  pub shape_both : (a b c : ArraysView K V) → KeepsShape a b → KeepsShape b c → KeepsShape a c
  shape_both a b c one two = record {
    minimum = two.minimum ∙ one.minimum;
    maximum = two.maximum ∙ one.maximum;
    tickets = two.tickets ∙ one.tickets;
    current_len = two.current_len ∙ one.current_len;
    linked_len = two.linked_len ∙ one.linked_len;
  }

  pub all_joined : (xs ys : List (BucketView K V)) → pairs_in_all (xs ++ ys) ≡ pairs_in_all xs ++ pairs_in_all ys
  all_joined [] ys = refl
  all_joined (x ∷ xs) ys =
      ap (λ ps. pairs_in x ++ ps) (all_joined xs ys) ∙ sym (append_assoc (pairs_in x) (pairs_in_all xs) (pairs_in_all ys))

  -- all pairs are in the row
  pub pairs_in_row : (a : ArraysView K V) → pairs_in_all (row_of a) ≡ pairs_of a
  pairs_in_row a = all_joined a.current a.linked ∙ sym (pairs_are a)

  pub entries_in_row : (a : ArraysView K V) → entries_among (row_of a) ≡ entries_of a
  entries_in_row a = flat_map-append (λ (b : BucketView K V). entries_in b) a.current a.linked

  pub marks_in_row : (a : ArraysView K V) → marks_among (row_of a) ≡ tombstones_of a
  marks_in_row a = flat_map-append (λ (b : BucketView K V). marks_in b) a.current a.linked

  -- what is after a slot of some rows is at their end
  rows_behind : (rows : List (List (Slot K V))) (i n : ℕ)
      → (front : List (Slot K V)) × (flattened rows ≡ front ++ (drop n (get_or rows i []) ++ flattened (drop (suc i) rows)))
  rows_behind [] i n = ([], sym (ap (λ (l : List (Slot K V)). l ++ []) (drop-nil n)))
  rows_behind (row ∷ rows) zero n = (
    take n row,
    ap (λ l. l ++ flattened rows) (sym (take-append-drop n row)) ∙ append_assoc (take n row) (drop n row) (flattened rows),
  )
  rows_behind (row ∷ rows) (suc i) n =
      let r = rows_behind rows i n in (
        row ++ r.0,
        ap (λ l. row ++ l) r.1 ∙ sym (append_assoc row r.0 (drop n (get_or rows i []) ++ flattened (drop (suc i) rows))),
      )

  ahead_of : (s : BucketView K V) (block pos : ℕ)
      → (front : List (K × V)) × (pairs_in s ≡ front ++ pairs_ahead s (record { block = block; pos = pos }))
  ahead_of s zero pos =
      let r = rows_behind (s.own ∷ s.chain) zero (position_after pos) in
      (live_pairs r.0, ap live_pairs r.1 ∙ filter_map-append live_pair r.0 _)
  ahead_of s (suc i) pos =
      let r = rows_behind (s.own ∷ s.chain) (suc i) (position_after pos) in
      (live_pairs r.0, ap live_pairs r.1 ∙ filter_map-append live_pair r.0 _)

  -- the pairs ahead of any place are the last ones of a bucket
  ahead_last : (s : BucketView K V) (at : Place) → (front : List (K × V)) × (pairs_in s ≡ front ++ pairs_ahead s at)
  ahead_last s at = ahead_of s at.block at.pos

  none_ahead : (at : Place) → pairs_ahead (empty_bucket {K = K} {V = V}) at ≡ []
  none_ahead at =
      let r = ahead_last (empty_bucket {K = K} {V = V}) at in
      nil_from_length _ (omega (arith, ap length r.1, length-append r.0 (pairs_ahead (empty_bucket {K = K} {V = V}) at)))

  -- a bucket in which a pointer moves to a pair has pairs
  pub has_pairs : (b : BucketView K V) (from at : Place) → MovesToNext b from at → pairs_in b ≡ [] → ⊥
  has_pairs b from at moves none =
      let own = ahead_last b from in
      omega (arith, ap length none, ap length own.1, length-append own.0 (pairs_ahead b from), ap length moves.ahead)

  -- the pair that a pointer moves to was the first ahead
  pub moves_past : (bucket : BucketView K V) (from to : Place) (pair : K × V) → MovesToNext bucket from to
      → live_pair (slot_in bucket to) ≡ Some pair → pairs_ahead bucket from ≡ pair ∷ pairs_ahead bucket to
  moves_past bucket from to pair moves there =
      let first : moves.pair ≡ pair = ap (λ (o : Option (K × V)). unwrap_or o pair) (sym moves.here ∙ there) in
      moves.ahead ∙ ap (λ p. p ∷ pairs_ahead bucket to) first

  module _ (bs : List (BucketView K V)) where
    -- past the last bucket nothing is left
    pub none_past : (i : ℕ) (at : Place) → length bs ≤ i → pairs_from bs i at ≡ []
    none_past i at past =
        let here = ap (λ b. pairs_ahead b at) (get_or_past bs i empty_bucket past) ∙ none_ahead at in
        let rest = ap pairs_in_all (drop_all (i + 1) bs (omega (arith, past))) in
        λ j. here j ++ rest j

    pub none_without : (i : ℕ) (at : Place) → bs ≡ [] → pairs_from bs i at ≡ []
    none_without i at none = none_past i at (omega (arith, ap length none))

    -- from the null pointer of a bucket on, all its pairs are left
    pub all_left : (i : ℕ) → pairs_in_all (drop i bs) ≡ pairs_from bs i null_place
    all_left i =
        elim (cases_lt i (length bs)) [
          | inl within ↦ at_drop_more pairs_in_all bs i empty_bucket within
          | inr past ↦ ap pairs_in_all (drop_all i bs past) ∙ sym (none_past i null_place past)
        ]

    module _ (from_index : ℕ) (from : Place) (index : ℕ) (at to : Place) (b : BucketView K V) (is : b ≡ bucket_at bs index)
        (same : pairs_from bs from_index from ≡ pairs_from bs index at)
      where
        -- if only buckets without a pair ahead were passed, a pointer that moves in a bucket moves to the first pair
        pub moves_on : index < length bs → MovesToNext b at to → MovesOn bs from_index from b index to
        moves_on within moves =
            let m = subst (λ c. MovesToNext c at to) is moves in
            record {
              within = within;
              here = is;
              from = at;
              moves = m;
              first = same ∙ ap (λ ps. ps ++ pairs_in_all (drop (index + 1) bs)) m.ahead;
            }

        -- and one without a pair ahead is passed
        pub passes_on : IsEnd b at to → pairs_from bs from_index from ≡ pairs_from bs (index + 1) to
        passes_on end =
            same ∙ (λ j. pairs_ahead (sym is j) at ++ pairs_in_all (drop (index + 1) bs))
            ∙ ap (λ ps. ps ++ pairs_in_all (drop (index + 1) bs)) end.ahead ∙ all_left (index + 1)
            ∙ ap (λ (p : Place). pairs_from bs (index + 1) p) (sym end.null)

  -- all pairs are after the start
  pub begins : (a : ArraysView K V) (at : Place) → at ≡ null_place → pairs_from (row_of a) 0 at ≡ pairs_of a
  begins a at null = ap (pairs_from (row_of a) 0) null ∙ sym (all_left (row_of a) 0) ∙ pairs_in_row a

  -- the pair that a place moves to was the first one left
  pub first_left : (bs : List (BucketView K V)) (index : ℕ) (at : Place) (b : BucketView K V) (to_index : ℕ) (to : Place) (pair : K × V)
      → MovesOn bs index at b to_index to → live_pair (slot_in b to) ≡ Some pair
      → pairs_from bs index at ≡ pair ∷ pairs_from bs to_index to
  first_left bs index at b to_index to pair m there =
      let here = sym m.moves.here ∙ ap (λ c. live_pair (slot_in c to)) (sym m.here) ∙ there in
      let same : m.moves.pair ≡ pair = ap (λ (o : Option (K × V)). unwrap_or o pair) here in
      m.first ∙ ap (λ p. p ∷ pairs_from bs to_index to) same

  module _ (bs : List (BucketView K V)) (i : ℕ) (within : i < length bs) where
    abbrev behind : List (K × V)
    behind = pairs_in_all (drop (i + 1) bs)

    parted : (x : BucketView K V) → pairs_in_all (set bs i x) ≡ pairs_in_all (take i bs) ++ (pairs_in x ++ behind)
    parted x =
        ap pairs_in_all (set_split bs i x within) ∙ all_joined (take i bs) (x ∷ drop (suc i) bs)
        ∙ ap (λ n. pairs_in_all (take i bs) ++ (pairs_in x ++ pairs_in_all (drop n bs))) (sym (add-one i))

    -- another bucket with the same pairs ahead leaves the same pairs
    pub same_left : (x : BucketView K V) (at to : Place) → pairs_ahead x to ≡ pairs_ahead (bucket_at bs i) at
        → pairs_from (set bs i x) i to ≡ pairs_from bs i at
    same_left x at to ahead =
        let here = ap (λ b. pairs_ahead b to) (get_or-set_same bs i x empty_bucket within) ∙ ahead in
        let rest = ap pairs_in_all (drop-set-lt (i + 1) bs i x (omega arith)) in
        λ j. here j ++ rest j

    -- and it exchanges a pair for some among all, if it does so among its own
    pub exchanges : (x : BucketView K V) (from at : Place) (pair : K × V) (mid front : List (K × V))
        → pairs_ahead (bucket_at bs i) from ≡ pair ∷ pairs_ahead (bucket_at bs i) at
        → ((own : List (K × V)) → pairs_in (bucket_at bs i) ≡ own ++ pair ∷ pairs_ahead (bucket_at bs i) at
        → pairs_in x ≡ own ++ (mid ++ pairs_ahead (bucket_at bs i) at))
        → pairs_in_all bs ≡ front ++ pair ∷ pairs_from bs i at → pairs_in_all (set bs i x) ≡ front ++ (mid ++ pairs_from bs i at)
    exchanges x from at pair mid front moved pairs is =
        let ahead = pairs_ahead (bucket_at bs i) at in
        let before = pairs_in_all (take i bs) in
        let own = ahead_last (bucket_at bs i) from in
        let was = own.1 ∙ ap (λ ps. own.0 ++ ps) moved in
        let whole : pairs_in_all bs ≡ (before ++ own.0) ++ pair ∷ (ahead ++ behind) =
        ap pairs_in_all (sym (set-get_or bs i empty_bucket)) ∙ parted (bucket_at bs i) ∙ ap (λ ps. before ++ (ps ++ behind)) was
        ∙ regrouped before own.0 (pair ∷ ahead) behind in
        let same = append_cancel_right (before ++ own.0) front (pair ∷ (ahead ++ behind)) (sym whole ∙ is) in
        parted x ∙ ap (λ ps. before ++ (ps ++ behind)) (pairs own.0 was) ∙ regrouped before own.0 (mid ++ ahead) behind
        ∙ (λ j. same j ++ append_assoc mid ahead behind j)

  -- an old array has a current one beside it, so without a current one the row is empty
  pub no_row : (a : ArraysView K V) → AreArrays a → (0 < length a.current → ⊥) → row_of a ≡ []
  no_row a law none =
      let past : length a.current ≤ 0 = elim (cases_lt 0 (length a.current)) [ inl some ↦ absurd (none some) | inr past ↦ past ] in
      let linked : length a.linked ≤ 0 = elim (cases_lt 0 (length a.linked)) [
        | inl some ↦ omega (arith, past, law.beside some)
        | inr past ↦ past
      ] in
      nil_from_length (row_of a) (omega (arith, past, linked, length-append a.current a.linked))

  -- the pair at a place is removed
  pub takes_first : (a : ArraysView K V) (index : ℕ) (at : Place) (b : BucketView K V) (to_index : ℕ) (from to : Place)
      (pair : K × V) (left : BucketView K V) → MovesOn (row_of a) index at b to_index from
      → live_pair (slot_in (bucket_at (row_of a) to_index) from) ≡ Some pair
      → pairs_ahead left to ≡ pairs_ahead (bucket_at (row_of a) to_index) from
      → pairs_from (row_of a) index at ≡ pair ∷ pairs_from (row_of (row_with a to_index left)) to_index to
  takes_first a index at b to_index from to pair left m there ahead =
      first_left (row_of a) index at b to_index from pair m (ap (λ c. live_pair (slot_in c from)) m.here ∙ there)
      ∙ ap (λ ps. pair ∷ ps) (sym (ap (λ bs. pairs_from bs to_index to) (row_of-row_with a to_index left)
      ∙ same_left (row_of a) to_index m.within left from to ahead))
