-- The carried LRU order: what the targets list after the pairs of a bucket have landed and their slots were listed.
use Rattle.bucket_table.proofs.Words.{All-nil, AreHome, Bool, BucketView, CACHE, CarriesRecency, HasLanded, IsBucketOf, KeepsEntries, KeepsPlaces}
use Rattle.bucket_table.proofs.Words.{List, ListsArrivals, MovesInto, None, Option, Slot, Some, ℕ, [], ap, append-nil, arith, bucket_at}
use Rattle.bucket_table.proofs.Words.{cases_Bool, cases_eq, entries_in, eqb-true, false, false≢true, filter_map-append, free, homed_len}
use Rattle.bucket_table.proofs.Words.{if◌then◌else◌, inl, inr, is_listed, landing_of, length, listed_pairs, live, live_pair, live_pairs}
use Rattle.bucket_table.proofs.Words.{map, map-append, marked, marks_in, nil_from_length, null_place, pairs_in, refl, replicate, slot_at, slot_in}
use Rattle.bucket_table.proofs.Words.{subst, sym, take, true, ◌++◌, ◌-◌, ◌<◌, ◌==◌, ◌∙◌, ◌∷◌, ◌≡◌}
use Rattle.bucket_table.specs.Layout.Moving.{CanMoveInto}
use Rattle.bucket_table.specs.Rehash.Carrying.{WentFirst, WentInOrder}
use Rattle.bucket_table.specs.declared.arrays.relocate.Landing.{Landing}
use Rattle.std.proofs.Math.Seq.{take-append_seam}
use Rattle.std.specs.List.{filter}
use Rattle.bucket_slots.proofs.PlacedSlots.{listed_below}
use Rattle.bucket_slots.specs.Evicting.{slots_unlisted}
use Rattle.bucket_slots.specs.Recency.{order_and_zeros}
use Rattle.bucket_table.specs.Layout.Landings.{HasBegun, HasLandedFull, HaveLanded, IsTakenOrder, MoveInOrder, arrivals, carried_to}
use Rattle.bucket_table.specs.Layout.Landings.{is_own_of, slot_there}
use Rattle.bucket_table.proofs.Moves.Arriving.{with_more}
use Rattle.bucket_table.proofs.Moves.Landings.{none_left}
use Rattle.bucket_table.proofs.Moves.MovingPairs.{IsMoving, MovesInto-refl}
use Rattle.bucket_table.proofs.Moves.Staying.{contains_at, place_listed, stay_both, stay_same}
use Rattle.bucket_table.proofs.Views.MarksKept.{marks_alike}
use Rattle.bucket_table.proofs.Moves.Relocating.{entries_alike}

-- the bucket of a landing
abbrev pub home_of_landing : Option Landing → Option ℕ
home_of_landing None = None
home_of_landing (Some at) = Some at.home

filter_nothing : (xs : List ℕ) → filter (λ (x : ℕ). false) xs ≡ []
filter_nothing [] = refl
filter_nothing (x ∷ xs) = filter_nothing xs

-- no pair landed in this bucket
nothing_there : (j : ℕ) (found : Option Landing) → ((at : Landing) → found ≡ Some at → at.home ≡ j → ⊥) → slot_there j found ≡ []
nothing_there j None other = refl
nothing_there j (Some at) other = elim (cases_Bool (at.home == j)) [
  | inl here ↦ absurd (other at refl (eqb-true at.home j here))
  | inr apart ↦ rw apart refl
]

no_arrivals : (landings : List (Option Landing)) (j : ℕ) (order : List ℕ)
    → ((slot : ℕ) (at : Landing) → landing_of landings slot ≡ Some at → at.home ≡ j → ⊥) → arrivals landings j order ≡ []
no_arrivals landings j [] other = refl
no_arrivals landings j (slot ∷ order) other =
    ap (λ (those : List ℕ). those ++ arrivals landings j order) (nothing_there j (landing_of landings slot) (other slot))
    ∙ no_arrivals landings j order other

-- the first bytes of an order that was taken, as many as its length, are that order
pub order_back : (order : List ℕ) (bytes : List ℕ) (len : ℕ) → bytes ≡ order_and_zeros order → len ≡ length order → take len bytes ≡ order
order_back order bytes len bytes_is len_is = rw (bytes_is, len_is) (take-append_seam order (replicate (32 - length order) 0))

module _ {K V : Type 0} where
  live_pairs-alike : (x y : Slot K V) (xs ys : List (Slot K V)) → live_pair x ≡ live_pair y → live_pairs xs ≡ live_pairs ys
      → live_pairs (x ∷ xs) ≡ live_pairs (y ∷ ys)
  live_pairs-alike free free xs ys same rest = rest
  live_pairs-alike free (live q c) xs ys same rest = cc
  live_pairs-alike free (marked q c) xs ys same rest = rest
  live_pairs-alike (live p b) free xs ys same rest = cc
  live_pairs-alike (live p b) (live q c) xs ys same rest =
      let first : p ≡ q = cc in ap (λ (r : K × V). r ∷ live_pairs xs) first ∙ ap (λ (those : List (K × V)). q ∷ those) rest
  live_pairs-alike (live p b) (marked q c) xs ys same rest = cc
  live_pairs-alike (marked p b) free xs ys same rest = rest
  live_pairs-alike (marked p b) (live q c) xs ys same rest = cc
  live_pairs-alike (marked p b) (marked q c) xs ys same rest = rest

  -- one more slot has arrived, or its pair landed elsewhere
  carried_next : (own source_own : List (Slot K V)) (j slot : ℕ) (found : Option Landing) (xs ys : List ℕ)
      → ((at : Landing) → found ≡ Some at → at.home ≡ j → live_pair (slot_at own at.slot) ≡ live_pair (slot_at source_own slot))
      → live_pairs (map (slot_at own) xs) ≡ live_pairs (map (slot_at source_own) ys)
      → live_pairs (map (slot_at own) (slot_there j found ++ xs))
      ≡ live_pairs (map (slot_at source_own) (if is_own_of j (home_of_landing found) then slot ∷ ys else ys))
  carried_next own source_own j slot None xs ys same rest = rest
  carried_next own source_own j slot (Some at) xs ys same rest = elim (cases_Bool (at.home == j)) [
    | inl here ↦ rw here
        (live_pairs-alike (slot_at own at.slot) (slot_at source_own slot) (map (slot_at own) xs) (map (slot_at source_own) ys)
        (same at refl (eqb-true at.home j here)) rest)
    | inr apart ↦ rw apart rest
  ]

  carried_all : (own source_own : List (Slot K V)) (j : ℕ) (landings : List (Option Landing)) (order : List ℕ)
      → ((slot : ℕ) (at : Landing) → landing_of landings slot ≡ Some at → at.home ≡ j
      → live_pair (slot_at own at.slot) ≡ live_pair (slot_at source_own slot)) → live_pairs (map (slot_at own) (arrivals landings j order))
      ≡ live_pairs (map (slot_at source_own) (filter (λ slot. is_own_of j (home_of_landing (landing_of landings slot))) order))
  carried_all own source_own j landings [] same = refl
  carried_all own source_own j landings (slot ∷ order) same =
      carried_next own source_own j slot (landing_of landings slot) (arrivals landings j order)
      (filter (λ at. is_own_of j (home_of_landing (landing_of landings at))) order) (same slot)
      (carried_all own source_own j landings order same)

  -- nothing is carried if no listed slot has a pair
  carries_none : (s : BucketView K V) (c d : List (BucketView K V))
      → ((j : ℕ) → listed_pairs (bucket_at d j) ≡ listed_pairs (bucket_at c j))
      → ((slot : ℕ) (pair : K × V) → is_listed s.listed slot ≡ true → live_pair (slot_at s.own slot) ≡ Some pair → ⊥) → KeepsPlaces c d
      → WentInOrder d (pairs_in s) → CarriesRecency s c d
  carries_none s c d same_lists none stay in_order = record {
    landing = λ slot. None;
    landed = λ slot pair listed here. absurd (none slot pair listed here);
    in_order = in_order;
    stay = stay;
    order = λ j.
        let nothing : carried_to s (λ slot. None) j ≡ [] =
        ap (λ (order : List ℕ). live_pairs (map (slot_at s.own) order)) (filter_nothing s.listed) in
        same_lists j ∙ sym (append-nil (listed_pairs (bucket_at c j)))
        ∙ ap (λ (those : List (K × V)). listed_pairs (bucket_at c j) ++ those) (sym nothing);
  }

  -- a bucket with no pair
  pub carries_nothing : (s : BucketView K V) (c : List (BucketView K V)) → pairs_in s ≡ [] → CarriesRecency s c c
  carries_nothing s c none =
      carries_none s c c (λ j. refl) (λ slot pair listed here. none_left s slot pair none here) (stay_same c) (rw none tt)

  -- a bucket that lists nothing
  pub carries_unlisted : (s : BucketView K V) (c d : List (BucketView K V)) → length s.listed ≡ 0
      → ((j : ℕ) → listed_pairs (bucket_at d j) ≡ listed_pairs (bucket_at c j)) → KeepsPlaces c d → WentInOrder d (pairs_in s)
      → CarriesRecency s c d
  carries_unlisted s c d none same_lists stay =
      let is_empty : s.listed ≡ [] = nil_from_length s.listed none in
      carries_none s c d same_lists
      (λ slot pair listed here. false≢true (subst (λ (order : List ℕ). is_listed order slot ≡ true) is_empty listed)) stay

  -- room was made before
  pub carries_since : (s : BucketView K V) (c0 c d : List (BucketView K V)) → KeepsEntries c0 c → CarriesRecency s c d
      → CarriesRecency s c0 d
  carries_since s c0 c d kept carried = record {
    landing = carried.landing;
    landed = carried.landed;
    in_order = carried.in_order;
    stay = stay_both c0 c d kept.stay carried.stay;
    order = λ j.
        let before : listed_pairs (bucket_at c j) ≡ listed_pairs (bucket_at c0 j) = rw (kept.own j, kept.listed j) refl in
        carried.order j ∙ ap (λ (those : List (K × V)). those ++ carried_to s carried.landing j) before;
  }

  -- a bucket whose list was emptied has the same pairs
  pub moves_unlisted : (hash : K → ℕ) (s left : BucketView K V) (c d : List (BucketView K V)) → MovesInto hash (slots_unlisted s) c left d
      → MovesInto hash s c left d
  moves_unlisted hash s left c d moved = record {
    entries = moved.entries;
    len = moved.len;
    fewer = moved.fewer;
    others = moved.others;
    alive = moved.alive;
    as_alive = moved.as_alive;
    marks = moved.marks;
    same_marks = moved.same_marks;
  }

  -- and they can move as before
  pub can_move_unlisted : (hash : K → ℕ) {start end : ℕ} {s t : BucketView K V} {c : List (BucketView K V)} → t ≡ slots_unlisted s
      → CanMoveInto hash start end s c → CanMoveInto hash start end t c
  can_move_unlisted hash t_is ready = rw t_is (record {
    within = ready.within;
    in_range = ready.in_range;
    own_bytes = ready.own_bytes;
    homes = ready.homes;
    room = ready.room;
    alive = ready.alive;
  })

  -- the pairs of s landed in d, and their slots were listed in e
  module _ {kind : ℕ} {hash : K → ℕ} {s : BucketView K V} {c d e : List (BucketView K V)} {landings : List (Option Landing)}
      (laws : IsBucketOf kind s) (long : length landings ≡ 32)
      (landed : HaveLanded hash (slots_unlisted s) c d landings) (in_order : WentInOrder d (pairs_in s))
      (listed : ListsArrivals landings s.listed d e) where
    more_listed : (j : ℕ) → listed_pairs (with_more (bucket_at d j) (arrivals landings j s.listed))
        ≡ listed_pairs (bucket_at d j) ++ carried_to s (λ slot. home_of_landing (landing_of landings slot)) j
    more_listed j =
        let own = (bucket_at d j).own in
        let order = (bucket_at d j).listed in
        let same : (slot : ℕ) (at : Landing) → landing_of landings slot ≡ Some at → at.home ≡ j
        → live_pair (slot_at own at.slot) ≡ live_pair (slot_at s.own slot) =
        λ slot at said here. ap (λ (i : ℕ). live_pair (slot_at (bucket_at d i).own at.slot)) (sym here) ∙ landed.same_pair slot at said in
        ap live_pairs (map-append (slot_at own) order (arrivals landings j s.listed))
        ∙ filter_map-append live_pair (map (slot_at own) order) (map (slot_at own) (arrivals landings j s.listed))
        ∙ ap (λ (those : List (K × V)). listed_pairs (bucket_at d j) ++ those) (carried_all own s.own j landings s.listed same)

    has_landed : (slot : ℕ) (pair : K × V) (found : Option Landing) → slot < 32 → landing_of landings slot ≡ found
        → live_pair (slot_at s.own slot) ≡ Some pair → HasLanded e pair (home_of_landing found)
    has_landed slot pair None below said here =
        let chain = landed.in_chain slot pair (omega (arith, below, long)) here said in (chain.0, rw (listed.each chain.0) chain.1)
    has_landed slot pair (Some at) below said here =
        rw (listed.each at.home) (contains_at live_pair refl (bucket_at d at.home).own at.slot pair (landed.same_pair slot at said ∙ here))

    went_listed : (p q : K × V) → WentFirst d p q → WentFirst e p q
    went_listed p q (inl (j, own)) = inl (j, rw (listed.each j) own)
    went_listed p q (inr (inl (j, chain))) = inr (inl (j, rw (listed.each j) chain))
    went_listed p q (inr (inr (i, j, apart, one, two))) = inr (inr (i, j, apart, rw (listed.each i) one, rw (listed.each j) two))

    order_listed : (ps : List (K × V)) → WentInOrder d ps → WentInOrder e ps
    order_listed [] order = order
    order_listed (p ∷ ps) order = ((λ k q below. went_listed p _ (order.0 k q below)), order_listed ps order.1)

    pub carries_recency : CarriesRecency s c e
    carries_recency = record {
      landing = λ slot. home_of_landing (landing_of landings slot);
      landed = λ slot pair is here. has_landed slot pair (landing_of landings slot) (listed_below kind s slot laws is) refl here;
      in_order = order_listed (pairs_in s) in_order;
      stay = stay_both c d e landed.stay (λ j at occupied.
          ap (λ (b : BucketView K V). slot_in b at) (listed.each j) ∙ place_listed (bucket_at d j)
          ((bucket_at d j).listed ++ arrivals landings j s.listed) at.block at.pos);
      order = λ j. ap listed_pairs (listed.each j) ∙ more_listed j
          ∙ ap (λ (those : List (K × V)). those ++ carried_to s (λ slot. home_of_landing (landing_of landings slot)) j)
          (landed.same_lists j);
    }

    entries_same : (j : ℕ) → entries_in (bucket_at e j) ≡ entries_in (bucket_at d j)
    entries_same j = ap entries_in (listed.each j)

    bucket_same : (j : ℕ) → homed_len hash (length c) j (pairs_in s) ≡ 0 → bucket_at e j ≡ bucket_at d j
    bucket_same j none =
        let away = λ (slot : ℕ) (at : Landing) (said : landing_of landings slot ≡ Some at) (here : at.home ≡ j).
        landed.homed slot at said (subst (λ (i : ℕ). homed_len hash (length c) i (pairs_in s) ≡ 0) (sym here) none) in
        listed.each j ∙ ap (λ (those : List ℕ). with_more (bucket_at d j) those) (no_arrivals landings j s.listed away)
        ∙ ap (λ (those : List ℕ). record (bucket_at d j) { listed = those }) (append-nil (bucket_at d j).listed)

    -- the pairs are where they landed
    pub moves_still : (left : BucketView K V) → MovesInto hash (slots_unlisted s) c left d → MovesInto hash s c left e
    moves_still left moved = record {
      entries = rw (entries_alike d e listed.len entries_same) moved.entries;
      len = listed.len ∙ moved.len;
      fewer = moved.fewer;
      others = λ i none. bucket_same i none ∙ moved.others i none;
      alive = λ i. ap (λ (b : BucketView K V). b.killed) (listed.each i) ∙ moved.alive i;
      as_alive = moved.as_alive;
      marks = rw (marks_alike d e listed.len (λ j. ap marks_in (listed.each j))) moved.marks;
      same_marks = moved.same_marks;
    }

    pub homes_still : AreHome hash d → AreHome hash e
    homes_still homes i within = rw (listed.len, entries_same i) (homes i (omega (arith, listed.len, within)))

  -- everything that is carried
  pub record IsCarried (hash : K → ℕ) (s left : BucketView K V) (c e : List (BucketView K V)) : Type 0 where
    pub moved : MovesInto hash s c left e
    pub homes : AreHome hash e
    pub recency : CarriesRecency s c e

  -- the same as the calls state it: t is s with its list taken, and the order is the first `len` of the bytes
  pub carried_over : (kind : ℕ) (hash : K → ℕ) {s t left : BucketView K V} {c c1 d e : List (BucketView K V)}
      {landings : List (Option Landing)} {bytes : List ℕ} {len : ℕ} → IsBucketOf kind s → length landings ≡ 32 → HasBegun hash s c t c1
      → bytes ≡ order_and_zeros s.listed → len ≡ length s.listed → 0 < length s.listed → HaveLanded hash t c1 d landings
      → WentInOrder d (pairs_in s) → MovesInto hash t c1 left d → AreHome hash d → ListsArrivals landings (take len bytes) d e
      → IsCarried hash s left c e
  carried_over kind hash {s} {left} {bytes} {len} laws long begun bytes_is len_is some landed in_order moved homes listed =
      let only = begun.only_emptied some in
      let landed_here = rw (only.0, only.1) at landed in
      let listed_here = rw (order_back s.listed bytes len bytes_is len_is) at listed in
      record {
        moved = moves_still laws long landed_here in_order listed_here left (rw (only.0, only.1) at moved);
        homes = homes_still laws long landed_here in_order listed_here homes;
        recency = carries_recency laws long landed_here in_order listed_here;
      }

  -- the list of a bucket was emptied
  order_unlisted : (s t : BucketView K V) (c : List (BucketView K V)) → t ≡ slots_unlisted s → MoveInOrder s t c
  order_unlisted s t c t_is = rw t_is (record { gone = []; rest = refl; landed = All-nil (HasLandedFull c); order = tt })

  -- and no pair has moved
  pub begun_only : (hash : K → ℕ) {s t : BucketView K V} (c : List (BucketView K V)) → t ≡ slots_unlisted s → HasBegun hash s c t c
  begun_only hash {s} {t} c t_is = record {
    moved = rw t_is (moves_unlisted hash s (slots_unlisted s) c c (MovesInto-refl hash (slots_unlisted s) c));
    in_order = order_unlisted s t c t_is;
    stay = stay_same c;
    same_lists = λ j. refl;
    only_emptied = λ some. (t_is, refl);
  }

  -- and its first pairs have moved
  pub begun_spread : (hash : K → ℕ) {start end : ℕ} {s t left : BucketView K V} {c d : List (BucketView K V)} → t ≡ slots_unlisted s
      → length s.listed ≡ 0 → IsMoving hash start end t c left d [] null_place → HasBegun hash s c left d
  begun_spread hash {s} {t} {left} {c} {d} t_is none moving = record {
    moved = moves_unlisted hash s left c d (subst (λ (x : BucketView K V). MovesInto hash x c left d) t_is moving.moves);
    in_order = moving.order s (order_unlisted s t c t_is);
    stay = moving.landing.stay;
    same_lists = moving.landing.same_lists;
    only_emptied = λ some. absurd (omega (arith, some, none));
  }

-- an order that isn't empty is that of a cache, whose list is kept
is_cache : {K V : Type 0} (kind : ℕ) (s : BucketView K V) (order : List ℕ) → IsBucketOf kind s → order ≡ s.listed → 0 < length order
    → kind ≡ CACHE
is_cache kind s order laws is some = elim (cases_eq kind CACHE) [
  | inl same ↦ same
  | inr other ↦ absurd (omega (arith, some, ap length is, ap length (laws.unlisted other)))
]

is_kept : (keeps : Bool) (listed order : List ℕ) → (keeps ≡ false → listed ≡ []) → order ≡ listed → 0 < length order → keeps ≡ true
is_kept true listed order none is some = refl
is_kept false listed order none is some = absurd (omega (arith, some, ap length is, ap length (none refl)))

-- what holds of the order that was taken from a bucket
pub taken_order : {K V : Type 0} {kind : ℕ} {keeps : Bool} {s : BucketView K V} {bytes : List ℕ} {len : ℕ} → IsBucketOf kind s
    → bytes ≡ order_and_zeros s.listed → len ≡ length s.listed → (keeps ≡ false → s.listed ≡ []) → IsTakenOrder kind keeps (take len bytes)
taken_order {kind} {keeps} {s} {bytes} {len} laws bytes_is len_is none =
    let order = order_back s.listed bytes len bytes_is len_is in
    record {
      once = rw order laws.listed_once;
      cache = is_cache kind s (take len bytes) laws order;
      keeps_slots = is_kept keeps s.listed (take len bytes) none order;
    }
