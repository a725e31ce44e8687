-- Pairs that move one after another from a bucket to their homes in an array.
use Rattle.bucket_table.proofs.Words.{All, All-cons, All-head, All-permutation, All-tail, Bool, BucketView, HasNoNewMark, IsEntryHome}
use Rattle.bucket_table.proofs.Words.{IsHome, IsInRange, IsPermutation, IsPermutation-append_left, IsPermutation-append_right}
use Rattle.bucket_table.proofs.Words.{IsPermutation-map, IsPermutation-refl, IsPermutation-trans, List, MovesInto, MovesToNext, None}
use Rattle.bucket_table.proofs.Words.{Option, Place, Slot, Some, ℕ, [], ap, arith, bucket_at, cond, entries_among, entries_in, false}
use Rattle.bucket_table.proofs.Words.{first_place, home_of, homed_len, is_free, landing_of, length, live_pair, map-entries_in, marks_among}
use Rattle.bucket_table.proofs.Words.{marks_in, no_new-refl, no_new-trans, null_place, pairs_ahead, pairs_in, pairs_in-slots_vacated, refl}
use Rattle.bucket_table.proofs.Words.{rotated, set, slot_in, slots_vacated, subst, sum_by-cons, sym, true, ◌%◌, ◌++◌, ◌+◌, ◌<◌, ◌==◌, ◌∙◌}
use Rattle.bucket_table.proofs.Words.{◌∷◌, ◌≡◌, ◌≤◌}
use Rattle.bucket_slots.proofs.MarksAfter.{marks_in-slots_with, no_new-append, no_new-same}
use Rattle.bucket_slots.specs.Placing.{slots_with}
use Rattle.bucket_table.specs.Layout.Moving.{CanMoveInto, HasOwnByte, MovesHome}
use Rattle.bucket_table.specs.declared.arrays.relocate.Landing.{Landing}
use Rattle.std.proofs.lemmas.Bool.Decides.{nat_tests}
use Rattle.std.proofs.lemmas.List.Sorted.{sum_by-IsPermutation}
use Rattle.bucket_table.specs.Layout.Landings.{MoveInOrder}
use Rattle.bucket_slots.proofs.PairsAfter.{entries_in-slots_vacated, entries_in-slots_with}
use Rattle.bucket_slots.proofs.RoomAfter.{free_len_in-none, free_len_in-slots_with, killed-slots_vacated, killed-slots_with}
use Rattle.bucket_slots.specs.Reserving.{free_len_in}
use Rattle.bucket_table.specs.Rehash.Relocation.{IsWay}
use Rattle.bucket_table.proofs.Moves.Exchanges.{ChangesAt, changes_at, each_after, exchanged}
use Rattle.bucket_table.proofs.Moves.HomesByDivision.{home_of-interval}
use Rattle.bucket_table.proofs.Moves.Landings.{AreLanding, landing_first, landing_step}
use Rattle.bucket_table.proofs.Moves.MarksLeft.{marks_in-vacated_at}
use Rattle.bucket_table.proofs.Views.MarksKept.{marks_among-set}
use Rattle.bucket_table.proofs.Moves.MovingInOrder.{goes_on}
use Rattle.bucket_table.proofs.Moves.Vacating.{walked}

module _ {K V : Type 0} (hash : K → ℕ) where
  pub homed-cons : (len index : ℕ) (p : K × V) (ps : List (K × V))
      → homed_len hash len index (p ∷ ps) ≡ cond (home_of len (hash p.0) == index) 1 0 + homed_len
      hash len index ps
  homed-cons len index p ps = sum_by-cons (λ (q : K × V). cond (home_of len (hash q.0) == index) 1 0) p ps

  pub homed-permutation : (len index : ℕ) (ps qs : List (K × V)) → IsPermutation ps qs
      → homed_len hash len index qs ≡ homed_len hash len index ps
  homed-permutation len index ps qs moved = sum_by-IsPermutation (λ (q : K × V). cond (home_of len (hash q.0) == index) 1 0) ps qs moved

  -- a pair whose home it is counts
  pub homed_here : (len index : ℕ) (p : K × V) (ps : List (K × V)) → home_of len (hash p.0) ≡ index
      → homed_len hash len index (p ∷ ps) ≡ 1 + homed_len hash len index ps
  homed_here len index p ps here =
      let yes : (home_of len (hash p.0) == index) ≡ true = rw here (grind (arith, nat_tests)) in
      homed-cons len index p ps ∙ ap (λ (t : Bool). cond t 1 0 + homed_len hash len index ps) yes

  -- no other pair counts
  pub homed_elsewhere : (len index : ℕ) (p : K × V) (ps : List (K × V)) → (home_of len (hash p.0) ≡ index → ⊥)
      → homed_len hash len index (p ∷ ps) ≡ homed_len hash len index ps
  homed_elsewhere len index p ps apart =
      let other : (home_of len (hash p.0) == index) ≡ false = grind (arith, nat_tests) in
      homed-cons len index p ps ∙ ap (λ (t : Bool). cond t 1 0 + homed_len hash len index ps) other ∙ omega arith

  pub MovesInto-refl : (s : BucketView K V) (c : List (BucketView K V)) → MovesInto hash s c s c
  MovesInto-refl s c = record {
    entries = IsPermutation-refl (entries_in s ++ entries_among c);
    len = refl;
    fewer = λ i. omega arith;
    others = λ i none. refl;
    alive = λ i. refl;
    as_alive = refl;
    marks = no_new-refl (marks_in s ++ marks_among c);
    same_marks = refl;
  }

  pub MovesInto-trans : (s t u : BucketView K V) (c d e : List (BucketView K V)) → MovesInto hash s c t d → MovesInto hash t d u e
      → MovesInto hash s c u e
  MovesInto-trans s t u c d e one two =
      record {
        entries = IsPermutation-trans _ _ _ one.entries two.entries;
        len = two.len ∙ one.len;
        fewer = λ i. omega (arith, rw one.len at (two.fewer i), one.fewer i);
        others = λ i none. (rw one.len at (two.others i)) (omega (arith, none, one.fewer i)) ∙ one.others i none;
        alive = λ i. two.alive i ∙ one.alive i;
        as_alive = two.as_alive ∙ one.as_alive;
        marks = no_new-trans _ _ _ one.marks two.marks;
        same_marks = two.same_marks ∙ one.same_marks;
      }

  -- between two moves: what has moved from s0 to c0 and where it landed, and that the rest, which is all ahead of the pointer, can move
  pub record IsMoving (start end : ℕ) (s0 : BucketView K V) (c0 : List (BucketView K V)) (s : BucketView K V) (c : List (BucketView K V))
      (landings : List (Option Landing)) (at : Place) : Type 0 where
    pub moves : MovesInto hash s0 c0 s c
    pub ready : CanMoveInto hash start end s c
    pub landing : AreLanding hash s0 c0 s c landings
    pub order : (first : BucketView K V) → MoveInOrder first s0 c0 → MoveInOrder first s c
    pub walked : pairs_in s ≡ pairs_ahead s at

  pairs_left : (s t : BucketView K V) (p : K × V) (byte : ℕ) → IsPermutation (entries_in s) ((p, byte) ∷ entries_in t)
      → IsPermutation (pairs_in s) (p ∷ pairs_in t)
  pairs_left s t p byte out = rw (← map-entries_in s, ← map-entries_in t) (IsPermutation-map (λ (e : (K × V) × ℕ). e.0) _ _ out)

  -- the next pair's home has a free slot
  at_home_of : (start end : ℕ) (s t : BucketView K V) (c : List (BucketView K V)) (p : K × V) (byte j : ℕ) → CanMoveInto hash start end s c
      → IsPermutation (entries_in s) ((p, byte) ∷ entries_in t) → IsHome (length c) (hash p.0) j → 0 < free_len_in (bucket_at c j)
  at_home_of start end s t c p byte j ready out home =
      let left = homed-permutation (length c) j (pairs_in s) (p ∷ pairs_in t) (pairs_left s t p byte out) in
      let here = homed_here (length c) j p (pairs_in t) (home_of-interval (length c) j (hash p.0) home.own) in
      omega (arith, ready.room j home.within, left, here)

  -- p, whose home is bucket j, moves there from s, of which t is left; d is the array after that
  module _ {start end : ℕ} {s : BucketView K V} {c d : List (BucketView K V)} {j : ℕ} (t : BucketView K V) (p : K × V) (h byte : ℕ)
      (ready : CanMoveInto hash start end s c) (out : IsPermutation (entries_in s) ((p, byte) ∷ entries_in t))
      (way : IsWay hash (length c) p j h)
      (put : ChangesAt j (slots_with (bucket_at c j) p (h % 256)) c d) (moved : IsPermutation ((p, h % 256) ∷ entries_among c)
      (entries_among d)) where
    at_home : home_of (length c) (hash p.0) ≡ j
    at_home = home_of-interval (length c) j (hash p.0) way.home.own

    pairs_out : IsPermutation (pairs_in s) (p ∷ pairs_in t)
    pairs_out = pairs_left s t p byte out

    fewer : (i : ℕ) → homed_len hash (length c) i (pairs_in t) ≤ homed_len hash (length c) i (pairs_in s)
    fewer i = omega (arith, homed-permutation (length c) i (pairs_in s) (p ∷ pairs_in t) pairs_out, homed-cons (length c) i p (pairs_in t))

    fewer_here : homed_len hash (length c) j (pairs_in s) ≡ 1 + homed_len hash (length c) j (pairs_in t)
    fewer_here =
        sym (homed-permutation (length c) j (pairs_in s) (p ∷ pairs_in t) pairs_out) ∙ homed_here (length c) j p (pairs_in t) at_home

    room_here : 0 < free_len_in (bucket_at c j)
    room_here = at_home_of start end s t c p byte j ready out way.home

    bytes : All (HasOwnByte hash) ((p, byte) ∷ entries_in t)
    bytes = All-permutation (HasOwnByte hash) (entries_in s) ((p, byte) ∷ entries_in t) out ready.own_bytes

    byte_is : byte ≡ h % 256
    byte_is = All-head (HasOwnByte hash) (p, byte) (entries_in t) bytes ∙ sym way.own_byte

    pub moved_one : t.killed ≡ s.killed → marks_in t ≡ marks_in s → HasNoNewMark (marks_among c) (marks_among d)
        → MovesInto hash s c t d
    moved_one alive left there = record {
      entries =
          let taken : IsPermutation (entries_in s) ((p, h % 256) ∷ entries_in t) = rw (← byte_is) out in
          IsPermutation-trans _ _ _ (IsPermutation-append_left (entries_among c) _ _ taken)
          (IsPermutation-trans _ _ _ (rotated ((p, h % 256) ∷ []) (entries_in t) (entries_among c))
          (IsPermutation-append_right (entries_in t) _ _ moved));
      len = put.len;
      fewer = fewer;
      others = λ i none. put.other i (λ same. absurd (omega (arith, fewer_here, rw same at none)));
      alive = each_after put (λ i b. b.killed ≡ (bucket_at c i).killed) (killed-slots_with (bucket_at c j) p (h % 256)) (λ i apart. refl);
      as_alive = alive;
      marks = no_new-append (marks_in s) (marks_among c) (marks_in t) (marks_among d) (no_new-same (marks_in s) (marks_in t) left) there;
      same_marks = left;
    }

    homes_at : (i : ℕ) → i < length c → All (IsEntryHome hash (length c) i) (entries_in (bucket_at d i))
    homes_at = each_after put (λ i b. i < length c → All (IsEntryHome hash (length c) i) (entries_in b))
        (λ within. All-permutation (IsEntryHome hash (length c) j) _ _ (entries_in-slots_with (bucket_at c j) p (h % 256))
        (All-cons (IsEntryHome hash (length c) j) (p, h % 256) (entries_in (bucket_at c j))
        (record { home = way.home; own_byte = way.own_byte }) (ready.homes j within))) (λ i apart. ready.homes i)

    room_at : (i : ℕ) → i < length c → homed_len hash (length c) i (pairs_in t) ≤ free_len_in (bucket_at d i)
    room_at = each_after put (λ i b. i < length c → homed_len hash (length c) i (pairs_in t) ≤ free_len_in b)
        (λ within. omega (arith, free_len_in-slots_with (bucket_at c j) p (h % 256) room_here, fewer_here, ready.room j within))
        (λ i apart within. omega (arith, fewer i, ready.room i within))

    alive_at : (i : ℕ) → i < length c → (bucket_at d i).killed ≡ false
    alive_at = each_after put (λ i b. i < length c → b.killed ≡ false)
        (λ within. killed-slots_with (bucket_at c j) p (h % 256) ∙ ready.alive j within) (λ i apart. ready.alive i)

    left_in_range : All (λ (q : K × V). IsInRange start end (home_of (length c) (hash q.0))) (pairs_in t)
    left_in_range =
        let here = λ (q : K × V). IsInRange start end (home_of (length c) (hash q.0)) in
        All-tail here p (pairs_in t) (All-permutation here (pairs_in s) (p ∷ pairs_in t) pairs_out ready.in_range)

    pub ready_still : CanMoveInto hash start end t d
    ready_still = record {
      within = omega (arith, ready.within, put.len);
      in_range = rw put.len left_in_range;
      own_bytes = All-tail (HasOwnByte hash) (p, byte) (entries_in t) bytes;
      homes = subst (λ (n : ℕ). (i : ℕ) → i < n → All (IsEntryHome hash n i) (entries_in (bucket_at d i))) (sym put.len) homes_at;
      room = subst (λ (n : ℕ). (i : ℕ) → i < n → homed_len hash n i (pairs_in t) ≤ free_len_in (bucket_at d i)) (sym put.len) room_at;
      alive = subst (λ (n : ℕ). (i : ℕ) → i < n → (bucket_at d i).killed ≡ false) (sym put.len) alive_at;
    }

  -- before the first move
  pub moving_first : {start end : ℕ} {s : BucketView K V} {c : List (BucketView K V)} {landings : List (Option Landing)}
      → CanMoveInto hash start end s c → ((slot : ℕ) → landing_of landings slot ≡ None) → IsMoving start end s c s c landings null_place
  moving_first {s} {c} {landings} ready unsaid = record {
    moves = MovesInto-refl s c;
    ready = ready;
    landing = landing_first hash s c landings unsaid;
    order = λ first amid. amid;
    walked = refl;
  }

  same_pair : (x : Slot K V) (p q : K × V) → live_pair x ≡ Some p → live_pair x ≡ Some q → q ≡ p
  same_pair x p q one two = cc

  -- the home of the pair at a place, which a number shows
  pub record IsHomeThere (s : BucketView K V) (c : List (BucketView K V)) (at : Place) (home number : ℕ) : Type 0 where
    pub way : (pair : K × V) → live_pair (slot_in s at) ≡ Some pair → IsWay hash (length c) pair home number
    pub within : home < length c
    pub alive : (b : BucketView K V) → b ≡ bucket_at c home → b.killed ≡ false

  pub home_there : {start end : ℕ} {s : BucketView K V} {c : List (BucketView K V)} {at : Place} {home number : ℕ}
      → CanMoveInto hash start end s c → (p : K × V) → live_pair (slot_in s at) ≡ Some p
      → ((pair : K × V) → live_pair (slot_in s at) ≡ Some pair → IsWay hash (length c) pair home number) → IsHomeThere s c at home number
  home_there {home} ready p here way =
      let within = (way p here).home.within in
      record { way = way; within = within; alive = λ b b_is. rw b_is (ready.alive home within) }

  -- the home of a pair that is in the bucket has a free slot
  pub home_has_room : {start end : ℕ} {s : BucketView K V} {c : List (BucketView K V)} (at : Place) (p : K × V) {h j : ℕ}
      → CanMoveInto hash start end s c → live_pair (slot_in s at) ≡ Some p → IsWay hash (length c) p j h
      → first_place is_free (bucket_at c j) ≡ None → ⊥
  home_has_room {start} {end} {s} {c} at p {j} ready here way none =
      let out = entries_in-slots_vacated s at p here in
      let some = at_home_of start end s (slots_vacated s at) c p out.0 j ready out.1 way.home in
      omega (arith, some, free_len_in-none (bucket_at c j) none)

  module _ {start end kind : ℕ} {s0 s t : BucketView K V} {c0 c d : List (BucketView K V)} {landings said : List (Option Landing)}
      {old new : Place} (moving : IsMoving start end s0 c0 s c landings old) (next : MovesToNext s old new)
      (one : MovesHome kind hash new s c landings t d said) where
    -- the bucket that a pair moves to is the home of a pair of the bucket that is moved
    homed_there : homed_len hash (length c0) one.home (pairs_in s0) ≡ 0 → ⊥
    homed_there none =
        let j = one.home in
        let rest = pairs_in (slots_vacated s new) in
        let out = pairs_in-slots_vacated s new one.pair one.here in
        let here = homed_here (length c) j one.pair rest (home_of-interval (length c) j (hash one.pair.0) one.way.home.own) in
        let some = sym (homed-permutation (length c) j (pairs_in s) (one.pair ∷ rest) out) ∙ here in
        omega (arith, some, ap (λ (n : ℕ). homed_len hash n j (pairs_in s)) moving.moves.len, none, moving.moves.fewer j)

    -- a step of the walk and a move
    pub moving_step : IsMoving start end s0 c0 t d said new × (length (pairs_ahead t new) < length (pairs_ahead s old))
    moving_step =
        let p = one.pair in
        let j = one.home in
        let h = one.number in
        let out = entries_in-slots_vacated s new p one.here in
        let same : p ≡ next.pair = same_pair (slot_in s new) next.pair p next.here one.here in
        let ahead : pairs_ahead s old ≡ p ∷ pairs_ahead s new = rw same next.ahead in
        let step = walked kind s old new p one.bucket_laws moving.walked one.here ahead in
        let b = slots_with (bucket_at c j) p (h % 256) in
        let put = changes_at j b c one.way.home.within in
        let placed = exchanged ((p, h % 256) ∷ []) [] c j b one.way.home.within (entries_in-slots_with (bucket_at c j) p (h % 256)) in
        let there = marks_among-set c j b (marks_in-slots_with (bucket_at c j) p (h % 256)) in
        let moved = moved_one (slots_vacated s new) p h out.0 moving.ready out.1 one.way put placed
        (killed-slots_vacated s new) (marks_in-vacated_at s new.block new.pos p one.here) there in
        let still = ready_still (slots_vacated s new) p h out.0 moving.ready out.1 one.way put placed in
        let landing : AreLanding hash s0 c0 (slots_vacated s new) (set c j b) said =
        rw (one.vacated, one.placed) at (landing_step hash moving.landing one homed_there
        (home_has_room new one.pair moving.ready one.here one.way)) in
        rw (one.vacated, one.placed) (
          record {
            moves = MovesInto-trans s0 s (slots_vacated s new) c0 c (set c j b) moving.moves moved;
            ready = still;
            landing = landing;
            order = λ first amid. goes_on kind j (h % 256) first s (slots_vacated s new) c p step.0 one.home_laws one.way.home.within
                (home_has_room new p moving.ready one.here one.way) (moving.order first amid);
            walked = step.1;
          },
          omega (arith, ap length step.0, ap length step.1, ap length moving.walked),
        )

    -- and with the null pointer: no pair is left before the one that moved
    pub moving_again : IsMoving start end s0 c0 t d said null_place × (length (pairs_ahead t null_place) < length (pairs_ahead s old))
    moving_again =
        let step = moving_step in (
          record { moves = step.0.moves; ready = step.0.ready; landing = step.0.landing; order = step.0.order; walked = refl },
          omega (arith, step.1, ap length step.0.walked),
        )

  -- after the last
  pub moving_done : {start end : ℕ} {s0 s : BucketView K V} {c0 c : List (BucketView K V)} {landings : List (Option Landing)} {at : Place}
      → IsMoving start end s0 c0 s c landings at → pairs_ahead s at ≡ [] → pairs_in s ≡ []
  moving_done moving nothing = moving.walked ∙ nothing
