-- A walk continues by one bucket.
use Rattle.bucket_table.proofs.Words.{AllByRecursion, AreSourcesKilled, ArraysView, Bool, BucketView, Current, IsInRange, IsPermutation}
use Rattle.bucket_table.proofs.Words.{IsPermutation-append_right, IsPermutation-refl, IsPermutation-trans, KeepsArrays, List, WorksUnits}
use Rattle.bucket_table.proofs.Words.{[], and_from, ap, append-nil, append_assoc, arith, arrays_with, bucket_on, cases_Bool, cases_lt}
use Rattle.bucket_table.proofs.Words.{false, false_from_ne_true, filter, filter-append, filter_agree, has_home_in, inl, inr, interval_width}
use Rattle.bucket_table.proofs.Words.{length, mul-le-mul_right, not, not_from_false, not_from_true, pairs_in, pairs_of, refl, subst, sym}
use Rattle.bucket_table.proofs.Words.{true, true≢false, ℕ, ◌&&◌, ◌*◌, ◌++◌, ◌+◌, ◌∙◌, ◌∷◌, ◌≡◌, ◌≤◌}
use Rattle.std.proofs.lemmas.Bool.{and_left, and_right}
use Rattle.std.proofs.lemmas.List.{length_push}
use Rattle.bucket_table.specs.Walking.Visits.{AreCalls, HasStopped, Visited}
use Rattle.bucket_table.specs.Walking.Walks.{AreLent, IsWalk, MovesOn, VisitsEach, pairs_left}
use Rattle.bucket_table.proofs.Walking.Bounds.{bounds, is_in, is_out, next_multiple}
use Rattle.bucket_table.proofs.Walking.Each.{each, each_append, each_implies, to_front}
use Rattle.bucket_table.proofs.Walking.Filters.{IsPermutation-filter, filter_all, filter_filter, filter_none}
use Rattle.bucket_table.proofs.Map.MapKept.{keeps_pairs}
use Rattle.bucket_table.proofs.Views.Keeping.{kept_both, kept_none}
use Rattle.bucket_table.proofs.Rehash.UnitRuns.{stands_still, units_as, units_both}

-- bucket `index` was lent with all the pairs of the map that have their home there, and the map is the pairs that it was left with, and the
-- others
pub record IsVisitOf {K V : Type 0} (hash : K → ℕ) (old : ArraysView K V) (index : ℕ) (lent left : BucketView K V)
    (new : ArraysView K V) : Type 0 where
  pub lent_is : IsPermutation (filter (has_home_in hash (length old.current) index (index + 1)) (pairs_of old)) (pairs_in lent)
  pub left_homes : AllByRecursion (λ pair. has_home_in hash (length old.current) index (index + 1) pair ≡ true) (pairs_in left)
  pub pairs : IsPermutation
      (pairs_in left ++ filter (λ pair. not (has_home_in hash (length old.current) index (index + 1) pair)) (pairs_of old))
      (pairs_of new)
  pub len : length new.current ≡ length old.current

module _ {S B : Type 0} (step : S → B → Bool → Bool → B → Bool → S → Type 0) where
  -- one more call, if none before it stopped the walk
  pub calls_more : (first now new : S) (flag next last : Bool) (visits : List (Visited B)) (visit : Visited B)
      → AreCalls step first flag visits now next → (HasStopped visits → ⊥)
      → step now visit.lent next visit.more visit.left last new → AreCalls step first flag (visits ++ visit ∷ []) new last
  calls_more first now new flag next last [] visit so_far going call =
      subst (λ state. AreCalls step state flag (visit ∷ []) new last) (sym so_far.0)
      (subst (λ flag. AreCalls step now flag (visit ∷ []) new last) (sym so_far.1) (new, last, call, (λ stopped. refl), (refl, refl)))
  calls_more first now new flag next last (one ∷ visits) visit so_far going call = (
    so_far.0,
    so_far.1,
    so_far.2,
    (λ stopped. absurd (going (inl stopped))),
    calls_more so_far.0 now new so_far.1 next last visits visit so_far.4 (λ stopped. going (inr stopped)) call,
  )

module _ {B : Type 0} where
  pub stopped_more : (visits : List (Visited B)) (visit : Visited B) → visit.more ≡ false → HasStopped (visits ++ visit ∷ [])
  stopped_more [] visit is = inl is
  stopped_more (one ∷ visits) visit is = inr (stopped_more visits visit is)

  pub going_more : (visits : List (Visited B)) (visit : Visited B) → (HasStopped visits → ⊥) → visit.more ≡ true
      → HasStopped (visits ++ visit ∷ []) → ⊥
  going_more [] visit going is (inl stopped) = let no : true ≡ false = sym is ∙ stopped in absurd cc
  going_more [] visit going is (inr stopped) = stopped
  going_more (one ∷ visits) visit going is (inl stopped) = going (inl stopped)
  going_more (one ∷ visits) visit going is (inr stopped) = going_more visits visit (λ later. going (inr later)) is stopped

module _ {K V : Type 0} (hash : K → ℕ) (len : ℕ) where
  abbrev pub within : ℕ → ℕ → K × V → Bool
  within low high = has_home_in hash len low high

  lent_more : (pairs : List (K × V)) (index : ℕ) (visits : List (Visited (BucketView K V))) (visit : Visited (BucketView K V))
      → AreLent hash len pairs index visits
      → IsPermutation (filter (within (index + length visits) (index + length visits + 1)) pairs) (pairs_in visit.lent)
      → AreLent hash len pairs index (visits ++ visit ∷ [])
  lent_more pairs index [] visit so_far lent =
      let here : index + 0 ≡ index = omega arith in
      (subst (λ (at : ℕ). IsPermutation (filter (within at (at + 1)) pairs) (pairs_in visit.lent)) here lent, tt)
  lent_more pairs index (one ∷ visits) visit so_far lent =
      let here : index + length (one ∷ visits) ≡ index + 1 + length visits = omega arith in (
        so_far.0,
        lent_more pairs (index + 1) visits visit so_far.1
            (subst (λ at. IsPermutation (filter (within at (at + 1)) pairs) (pairs_in visit.lent)) here lent),
      )

  left_more : (visits : List (Visited (BucketView K V))) (visit : Visited (BucketView K V))
      → pairs_left (visits ++ visit ∷ []) ≡ pairs_left visits ++ pairs_in visit.left
  left_more [] visit = append-nil (pairs_in visit.left)
  left_more (one ∷ visits) visit = ap (λ left. pairs_in one.left ++ left) (left_more visits visit) ∙ sym
      (append_assoc (pairs_in one.left) (pairs_left visits) (pairs_in visit.left))

  -- a hash in a later interval is in none of the earlier ones
  later : (start index : ℕ) (pair : K × V) → within index (index + 1) pair ≡ true → within start index pair ≡ false
  later start index pair is =
      let within = bounds _ _ (hash pair.0) is in is_out _ _ (hash pair.0) (λ low high. omega (arith, within.0, high))

  module _ (start index : ℕ) (order : start ≤ index) where
    abbrev pub behind : K × V → Bool
    behind = within start index

    abbrev pub inside : K × V → Bool
    inside = within index (index + 1)

    abbrev pub through : K × V → Bool
    through = within start (index + 1)

    abbrev pub outside : K × V → Bool
    outside pair = not (inside pair)

    abbrev pub ahead : K × V → Bool
    ahead pair = not (behind pair)

    abbrev pub beyond : K × V → Bool
    beyond pair = not (through pair)

    behind_through : (pair : K × V) → behind pair ≡ true → through pair ≡ true
    behind_through pair is = let within = bounds _ _ (hash pair.0) is in is_in _ _ (hash pair.0) within.0
        (omega (arith, within.1, next_multiple index (interval_width len)))

    inside_through : (pair : K × V) → inside pair ≡ true → through pair ≡ true
    inside_through pair is = let within = bounds _ _ (hash pair.0) is in is_in _ _ (hash pair.0)
        (omega (arith, within.0, mul-le-mul_right (interval_width len) order)) within.1

    inside_ahead : (pair : K × V) → inside pair ≡ true → ahead pair ≡ true
    inside_ahead pair is = not_from_false (behind pair) (later start index pair is)

    through_parts : (pair : K × V) → behind pair ≡ false → inside pair ≡ false → through pair ≡ false
    through_parts pair is_ahead is_outside = is_out _ _ (hash pair.0) (λ low high. elim
        (cases_lt (hash pair.0) (index * interval_width len)) [
          | inl less ↦ let passes : behind pair ≡ true = is_in _ _ (hash pair.0) low less in true≢false (sym passes ∙ is_ahead)
          | inr more ↦ let passes : inside pair ≡ true = is_in _ _ (hash pair.0) more high in true≢false (sym passes ∙ is_outside)
        ])

    still_inside : (pair : K × V) → (ahead pair && inside pair) ≡ inside pair
    still_inside pair = elim (cases_Bool (inside pair)) [
      | inl in_it ↦ and_from (ahead pair) (inside pair) (inside_ahead pair in_it) in_it ∙ sym in_it
      | inr other ↦ and_right (ahead pair) (inside pair) other ∙ sym other
    ]

    still_ahead : (pair : K × V) → (ahead pair && outside pair) ≡ beyond pair
    still_ahead pair = elim (cases_Bool (behind pair)) [
      | inl back ↦ and_left (ahead pair) (outside pair) (not_from_true (behind pair) back) ∙ sym
          (not_from_true (through pair) (behind_through pair back))
      | inr other ↦ elim (cases_Bool (inside pair)) [
        | inl in_it ↦ and_right (ahead pair) (outside pair) (not_from_true (inside pair) in_it) ∙ sym
            (not_from_true (through pair) (inside_through pair in_it))
        | inr out ↦ and_from (ahead pair) (outside pair) (not_from_false (behind pair) other) (not_from_false (inside pair) out) ∙ sym
            (not_from_false (through pair) (through_parts pair other out))
      ]
    ]

    not_inside : (pair : K × V) → behind pair ≡ true → inside pair ≡ false
    not_inside pair is = false_from_ne_true (inside pair) (λ yes. true≢false (sym is ∙ later start index pair yes))

    module _ (old before done : List (K × V)) (homes : AllByRecursion (λ pair. behind pair ≡ true) done)
        (so_far : IsPermutation (done ++ filter ahead old) before) where
      pub lent_now : {lent : List (K × V)} → IsPermutation (filter inside before) lent → IsPermutation (filter inside old) lent
      lent_now is =
          let same = filter-append inside done (filter ahead old)
          ∙ ap (λ pairs. pairs ++ filter inside (filter ahead old)) (filter_none inside done (each_implies _ not_inside homes))
          ∙ filter_filter ahead inside old ∙ filter_agree (λ pair. ahead pair && inside pair) inside still_inside old in
          IsPermutation-trans _ _ _
          (subst (λ pairs. IsPermutation pairs (filter inside before)) same (IsPermutation-filter inside _ _ so_far)) is

      pub map_now : {after : List (K × V)} (left : List (K × V)) → IsPermutation (left ++ filter outside before) after
          → IsPermutation ((done ++ left) ++ filter beyond old) after
      map_now left is =
          let all = filter_all outside done (each_implies _ (λ pair is. not_from_false (inside pair) (not_inside pair is)) homes) in
          let same = filter-append outside done (filter ahead old) ∙ ap (λ pairs. pairs ++ filter outside (filter ahead old)) all
          ∙ ap (λ pairs. done ++ pairs)
          (filter_filter ahead outside old ∙ filter_agree (λ pair. ahead pair && outside pair) beyond still_ahead old) in
          let rest = subst (λ pairs. IsPermutation pairs (filter outside before)) same (IsPermutation-filter outside _ _ so_far) in
          let front : IsPermutation ((done ++ left) ++ filter beyond old) (left ++ (done ++ filter beyond old)) =
          rw (append_assoc done left (filter beyond old)) (to_front done left (filter beyond old)) in
          IsPermutation-trans _ _ _ front (IsPermutation-trans _ _ _ (IsPermutation-append_right left _ _ rest) is)

      pub homes_now : (left : List (K × V)) → AllByRecursion (λ pair. inside pair ≡ true) left
          → AllByRecursion (λ pair. through pair ≡ true) (done ++ left)
      homes_now left are = each_append _ _ _ (each_implies _ behind_through homes) (each_implies _ inside_through are)

module _ {K V : Type 0} (hash : K → ℕ) where
  -- the state of a walk between two calls
  pub record IsPartOfWalk (old : ArraysView K V) (start : ℕ) (visits : List (Visited (BucketView K V))) (now : ArraysView K V) : Type
      0 where
    pub walk : IsWalk hash old start visits now
    pub len : length now.current ≡ length old.current
    pub homes : AllByRecursion (λ pair. has_home_in hash (length old.current) start (start + length visits) pair ≡ true) (pairs_left visits)

  pub walk_begins : (old : ArraysView K V) (start : ℕ) → IsPartOfWalk old start [] old
  walk_begins old start =
      let away : K × V → Bool = λ pair. not (has_home_in hash (length old.current) start (start + 0) pair) in
      let all = filter_all away (pairs_of old)
      (each (λ pair. not_from_false _ (is_out _ _ (hash pair.0) (λ low high. omega (arith, low, high)))) (pairs_of old)) in
      record {
        walk = record {
          lent = tt;
          pairs = subst (λ pairs. IsPermutation pairs (pairs_of old)) (sym all) (IsPermutation-refl (pairs_of old));
        };
        len = refl;
        homes = tt;
      }

  -- the map stays the same while old buckets move
  pub walk_waits : {old now next : ArraysView K V} {start : ℕ} {visits : List (Visited (BucketView K V))}
      → IsPartOfWalk old start visits now → KeepsArrays now next → IsPartOfWalk old start visits next
  walk_waits {now = now} {next = next} part kept = record {
    walk = record { lent = part.walk.lent; pairs = IsPermutation-trans _ _ _ part.walk.pairs (keeps_pairs now next kept.keeps) };
    len = kept.current_len ∙ part.len;
    homes = part.homes;
  }

  pub walk_more : {old now new : ArraysView K V} {start index : ℕ} {visits : List (Visited (BucketView K V))}
      (visit : Visited (BucketView K V)) → index ≡ start + length visits → IsPartOfWalk old start visits now
      → IsVisitOf hash now index visit.lent visit.left new → IsPartOfWalk old start (visits ++ visit ∷ []) new
  walk_more {old} {now} {new} {start} {index} {visits} visit reached part is =
      let len : ℕ = length old.current in
      let end : ℕ = start + length visits in
      let order : start ≤ end = omega arith in
      let lent = lent_now hash len start end order _ _ _ part.homes part.walk.pairs (rw (reached, part.len) at is.lent_is) in
      let pairs = map_now hash len start end order _ _ _ part.homes part.walk.pairs _ (rw (reached, part.len) at is.pairs) in
      let homes = homes_now hash len start end order _ _ _ part.homes part.walk.pairs _ (rw (reached, part.len) at is.left_homes) in
      let next : start + length (visits ++ visit ∷ []) ≡ end + 1 = omega (arith, length_push visits visit) in
      let left = left_more hash len visits visit in
      record {
        walk = record { lent = lent_more hash len (pairs_of old) start visits visit part.walk.lent lent; pairs = rw (left, next) pairs };
        len = is.len ∙ part.len;
        homes = rw (left, next) homes;
      }

module _ {K V : Type 0} where
  moves_none : (arrays : ArraysView K V) → MovesOn arrays arrays
  moves_none arrays = (kept_none arrays, λ none. refl)

  moves_both : {old now new : ArraysView K V} → MovesOn old now → MovesOn now new → MovesOn old new
  moves_both {old} {now} {new} first second = (
    kept_both old now new first.0 second.0,
    λ none. second.1 (rw (first.1 none) none) ∙ first.1 none,
  )

  -- old buckets move once more
  pub each_waits : (old now ready : ArraysView K V) (start : ℕ) (visits : List (Visited (BucketView K V)))
      → VisitsEach old start visits now → MovesOn now ready → VisitsEach old start visits ready
  each_waits old now ready start [] so_far moves = moves_both so_far moves
  each_waits old now ready start (one ∷ visits) (first, moved, killed, lent, rest) moves =
      (first, moved, killed, lent, each_waits (arrays_with first Current start one.left) now ready (start + 1) visits rest moves)

  -- one more visit
  each_more : (old now ready : ArraysView K V) (start index : ℕ) (visits : List (Visited (BucketView K V)))
      (visit : Visited (BucketView K V)) → index ≡ start + length visits → VisitsEach old start visits now → MovesOn now ready
      → AreSourcesKilled ready index → visit.lent ≡ bucket_on ready Current index
      → VisitsEach old start (visits ++ visit ∷ []) (arrays_with ready Current index visit.left)
  each_more old now ready start index [] visit at so_far moves killed lent =
      let here : index ≡ start = omega (arith, at) in
      rw here (
        ready,
        moves_both so_far moves,
        subst (λ (index : ℕ). AreSourcesKilled ready index) here killed,
        subst (λ (index : ℕ). visit.lent ≡ bucket_on ready Current index) here lent,
        moves_none (arrays_with ready Current start visit.left),
      )
  each_more old now ready start index (one ∷ visits) visit at (first, moved, killed_first, lent_first, rest) moves killed lent = (
    first,
    moved,
    killed_first,
    lent_first,
    each_more (arrays_with first Current start one.left) now ready (start + 1) index visits visit (omega (arith, at)) rest moves
        killed lent,
  )

module _ {S K V : Type 0} (step : S → BucketView K V → Bool → Bool → BucketView K V → Bool → S → Type 0) (hash : K → ℕ) where
  -- what is known between two calls of a walk
  pub record WalksOn (first now : S) (old : ArraysView K V) (start index : ℕ) (flag more : Bool) (table : ArraysView K V) : Type 0 where
    pub visits : List (Visited (BucketView K V))
    pub calls : AreCalls step first false visits now flag
    pub part : IsPartOfWalk hash old start visits table
    pub units : WorksUnits (length visits) (IsInRange start (start + length visits)) old table
    pub visited : VisitsEach old start visits table
    pub reached : index ≡ start + length visits
    pub going : more ≡ true → HasStopped visits → ⊥
    pub stopped : more ≡ false → HasStopped visits

  pub begins : (first : S) (old : ArraysView K V) (start : ℕ) → WalksOn first first old start start false true old
  begins first old start = record {
    visits = [];
    calls = (refl, refl);
    part = walk_begins hash old start;
    units = stands_still (IsInRange start (start + 0)) old;
    visited = moves_none old;
    reached = omega arith;
    going = λ is stopped. stopped;
    stopped = λ is. absurd (true≢false is);
  }

  -- a bucket is made ready
  pub walk_units : {first now : S} {old table ready : ArraysView K V} {start index : ℕ} {flag more : Bool}
      (walk : WalksOn first now old start index flag more table) → WorksUnits 1 (λ home. home ≡ index) table ready
      → WorksUnits (length walk.visits + 1) (IsInRange start (start + (length walk.visits + 1))) old ready
  walk_units {old = old} {table = table} {ready = ready} {start = start} walk unit =
      units_both (IsInRange start (start + (length walk.visits + 1))) (length walk.visits) 1 old table ready
      (λ i one. (one.0, omega (arith, one.1)))
      (λ i here. (omega (arith, here, walk.reached), omega (arith, here, walk.reached))) walk.part.len walk.units unit

  -- and visited
  pub goes_on : {first now next : S} {old table ready : ArraysView K V} {start index : ℕ} {flag last more : Bool} (left : BucketView K V)
      → WalksOn first now old start index flag true table → KeepsArrays table ready → WorksUnits 1 (λ home. home ≡ index) table ready
      → (length table.linked ≡ 0 → ready ≡ table)
      → AreSourcesKilled ready index → step now (bucket_on ready Current index) flag more left last next
      → IsVisitOf hash ready index (bucket_on ready Current index) left (arrays_with ready Current index left)
      → WalksOn first next old start (index + 1) last more (arrays_with ready Current index left)
  goes_on {first} {now} {next} {old} {table} {ready} {start} {index} {flag} {last} {more} left walk kept unit waits killed call is =
      let visit : Visited (BucketView K V) = record { lent = bucket_on ready Current index; left = left; more = more } in
      record {
        visits = walk.visits ++ visit ∷ [];
        calls = calls_more step first now next false flag last walk.visits visit walk.calls (walk.going refl) call;
        part = walk_more hash visit walk.reached (walk_waits hash walk.part kept) is;
        units = rw (length_push walk.visits visit) (units_as (length walk.visits + 1) old ready _ (walk_units walk unit) refl refl);
        visited = each_more old table ready start index walk.visits visit walk.reached walk.visited (kept, waits) killed refl;
        reached = omega (arith, walk.reached, length_push walk.visits visit);
        going = going_more walk.visits visit (walk.going refl);
        stopped = stopped_more walk.visits visit;
      }
