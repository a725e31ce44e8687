-- A cursor passes empty buckets.
use Rattle.bucket_table.proofs.Words.{All, AllByRecursion, AreArrays, ArePlaced, AreSourcesKilled, ArraysView, BucketView, Current, Err}
use Rattle.bucket_table.proofs.Words.{HasNoneFrom, IfOk, IsEntryHome, IsInInterval, IsLength, KeepsArrays, List, Meets, MovesToNext, Ok}
use Rattle.bucket_table.proofs.Words.{Place, Result, [], ap, arith, bound_of, bucket_at, bucket_on, cases_Bool, cases_lt, entries_in, false}
use Rattle.bucket_table.proofs.Words.{inl, inr, interval_width, length, length_permutation, map-entries_in, mul-le-mul_right}
use Rattle.bucket_table.proofs.Words.{nil_from_length, null_place, pairs_ahead, pairs_in, pairs_of, recursion_from_All, refl, subst, suc}
use Rattle.bucket_table.proofs.Words.{sym, true≢false, zero, ℕ, ◌*◌, ◌++◌, ◌+◌, ◌<◌, ◌^◌, ◌∙◌, ◌∷◌, ◌≡◌, ◌≤◌}
use Rattle.bucket_slots.specs.Walking.{IsEnd}
use Rattle.bucket_table.specs.Walking.Cursors.{IsFirstFrom, IsFoundFrom, ReachesPast}
use Rattle.bucket_table.specs.Map.LookingUp.{pairs_in_all}
use Rattle.bucket_table.specs.declared.arrays.Missing.{Missing}
use Rattle.bucket_table.proofs.Walking.Bounds.{HasNoneBetween, all_hashes, is_in, is_inside, next_multiple, still_past, wide}
use Rattle.bucket_table.proofs.Walking.Each.{all_permuted, each, each_back, each_both, each_front, each_implies, each_map, none_pass}
use Rattle.bucket_table.proofs.Walking.HomeSplit.{splits, taken_there}
use Rattle.bucket_table.proofs.Views.Keeping.{kept_both, kept_none}
use Rattle.bucket_table.proofs.Map.LookUps.{pairs_are}
use Rattle.bucket_table.proofs.Map.MapKept.{keeps_pairs}
use Rattle.bucket_table.proofs.Views.SideChanges.{locked_current}

module _ {K V : Type 0} where
  each_in : (P : K × V → Type 0) (bs : List (BucketView K V)) (k : ℕ) → k < length bs
      → AllByRecursion P (pairs_in_all bs) → AllByRecursion P (pairs_in (bucket_at bs k))
  each_in P [] k less h = absurd (omega (arith, less))
  each_in P (b ∷ bs) zero less h = each_front _ (pairs_in b) (pairs_in_all bs) h
  each_in P (b ∷ bs) (suc k) less h = each_in P bs k (omega (arith, less)) (each_back _ (pairs_in b) (pairs_in_all bs) h)

  -- without a current array there is no pair
  pub no_map : (arrays : ArraysView K V) → AreArrays arrays → length arrays.current ≡ 0 → pairs_of arrays ≡ []
  no_map arrays law none = elim (cases_lt 0 (length arrays.linked)) [
    | inl some ↦ absurd (omega (arith, none, law.beside some))
    | inr alone ↦ rw (pairs_are arrays, nil_from_length arrays.current none, nil_from_length arrays.linked (omega (arith, alone))) refl
  ]

module _ {K V : Type 0} (hash : K → ℕ) where
  homes_in : (len i : ℕ) (b : BucketView K V) → All (IsEntryHome hash len i) (entries_in b)
      → AllByRecursion (λ (pair : K × V). IsInInterval len i (hash pair.0)) (pairs_in b)
  homes_in len i b h =
      let f : (K × V) × ℕ → K × V = λ e. e.0 in
      subst (AllByRecursion (λ (pair : K × V). IsInInterval len i (hash pair.0))) (map-entries_in b)
      (each_map (λ (pair : K × V). IsInInterval len i (hash pair.0)) f (entries_in b)
      (each_implies _ (λ e own. own.home.own) (recursion_from_All (IsEntryHome hash len i) (entries_in b) h)))

  module _ (arrays : ArraysView K V) (bound index : ℕ) (law : ArePlaced hash arrays) (within : index < length arrays.current)
      (passed : HasNoneBetween hash bound (bound_of (length arrays.current) index) (pairs_of arrays)) where
    parted : AllByRecursion (λ pair. bound ≤ hash pair.0 → hash pair.0 < bound_of (length arrays.current) index → ⊥)
        (pairs_in_all arrays.current ++ pairs_in_all arrays.linked)
    parted = subst (HasNoneBetween hash bound (bound_of (length arrays.current) index)) (pairs_are arrays) passed

    -- a cursor at a bucket has passed the lower current buckets
    pub none_below : (j : ℕ) → j < index → HasNoneFrom hash bound (pairs_in (bucket_on arrays Current j))
    none_below j below =
        let c = arrays.current in
        let n : ℕ = length c in
        let never = each_in _ c j (omega (arith, below, within)) (each_front _ (pairs_in_all c) (pairs_in_all arrays.linked) parted) in
        let homes = homes_in n j (bucket_at c j) (law.homes.current_home j (omega (arith, below, within))) in
        let step : j + 1 ≤ index = omega (arith, below) in
        let up : bound_of n (j + 1) ≤ bound_of n index = mul-le-mul_right (interval_width n) step in
        each_both _ (λ pair none own. elim (cases_lt (hash pair.0) bound) [
          | inl less ↦ less
          | inr more ↦ absurd (none more (omega (arith, own.1, up)))
        ]) never homes

    -- and the old buckets with a lower target
    pub none_behind : AreSourcesKilled arrays index → 0 < interval_width (length arrays.current) → (k target : ℕ)
        → k < length arrays.linked → target < index → Meets (length arrays.linked) k (length arrays.current) target
        → HasNoneFrom hash bound (pairs_in (bucket_at arrays.linked k))
    none_behind ready some k target inside below meets =
        let l = arrays.linked in
        let n : ℕ = length arrays.current in
        let w : ℕ = interval_width n in
        let b = bucket_at l k in
        elim (cases_Bool b.killed) [
          | inl killed ↦ subst (HasNoneFrom hash bound) (sym (law.homes.killed_empty k inside killed)) tt
          | inr alive ↦
              let never = each_in _ l k inside (each_back _ (pairs_in_all arrays.current) (pairs_in_all l) parted) in
              let homes = homes_in (length l) k b (law.homes.linked_home k inside) in
              each_both _ (λ pair none own. elim (cases_lt (hash pair.0) bound) [
                | inl less ↦ less
                | inr more ↦ elim (cases_lt (hash pair.0) (bound_of n index)) [
                  | inl early ↦ absurd (none more early)
                  | inr late ↦
                      let step : target + 1 ≤ index = omega (arith, below) in
                      let up : (target + 1) * w ≤ index * w = mul-le-mul_right w step in
                      let spans : Meets (length l) k n index = (
                        index * w,
                        (omega (arith, meets.1.0, meets.2.1, up), omega (arith, own.1, late)),
                        (omega arith, omega (arith, next_multiple index w, some)),
                      ) in
                      absurd (true≢false (sym (ready k inside spans) ∙ alive))
                ]
              ]) never homes
        ]

  -- what a cursor has done so far
  pub record HasPassed (old : ArraysView K V) (start index : ℕ) (now : ArraysView K V) (at : Place) : Type 0 where
    pub placed : ArePlaced hash now
    pub kept : KeepsArrays old now
    pub order : start ≤ index
    pub null : at ≡ null_place
    pub none : HasNoneBetween hash (bound_of (length old.current) start) (bound_of (length old.current) index) (pairs_of now)

  pub sets_out : (old : ArraysView K V) (start : ℕ) (at : Place) → ArePlaced hash old → at ≡ null_place → HasPassed old start start old at
  sets_out old start at law null = record {
    placed = law;
    kept = kept_none old;
    order = omega arith;
    null = null;
    none = each (λ pair low high. omega (arith, low, high)) (pairs_of old);
  }

  pub waits : (old now next : ArraysView K V) (start index : ℕ) (at : Place) → HasPassed old start index now at
      → ArePlaced hash next → KeepsArrays now next → HasPassed old start index next at
  waits old now next start index at p law kept = record {
    placed = law;
    kept = kept_both old now next p.kept kept;
    order = p.order;
    null = p.null;
    none = all_permuted _ (keeps_pairs now next kept.keeps) p.none;
  }

  -- a bucket that exists still exists
  still_within : (before now : ArraysView K V) (len index : ℕ) → KeepsArrays before now → len ≡ length before.current → index < len
      → index < length now.current
  still_within before now len index kept is within =
      let same = kept.current_len in
      omega (arith, within, is, same)

  -- the bucket at the index is empty, and no pair of it is in the old buckets
  pub passes_at : (old before now : ArraysView K V) (start index len : ℕ) (at next : Place) (b : BucketView K V)
      → HasPassed old start index before at → ArePlaced hash now → KeepsArrays before now
      → len ≡ length before.current → index < len → AreSourcesKilled now index → b ≡ bucket_on now Current index → IsEnd b at next
      → HasPassed old start (index + 1) now next
  passes_at old before now start index len at next b done law kept is below ready here end =
      let p = waits old before now start index at done law kept in
      let within = still_within before now len index kept is below in
      let n : ℕ = length now.current in
      let m : ℕ = length old.current in
      let empty : pairs_in (bucket_on now Current index) ≡ [] =
      subst (λ (q : Place). pairs_ahead (bucket_on now Current index) q ≡ []) p.null
      (ap (λ (x : BucketView K V). pairs_ahead x at) (sym here) ∙ end.ahead) in
      let home = taken_there hash now index (splits hash now index p.placed within ready) in
      let none = none_pass (λ (pair : K × V). is_inside n index (hash pair.0)) (pairs_of now)
      (nil_from_length _ (omega (arith, length_permutation _ _ home, ap length empty))) in
      let none' = subst (λ (k : ℕ). AllByRecursion (λ (pair : K × V). is_inside k index (hash pair.0) ≡ false) (pairs_of now))
      p.kept.current_len none in
      record {
        placed = p.placed;
        kept = p.kept;
        order = omega (arith, p.order);
        null = end.null;
        none = each_both _ (λ pair before out low high. elim (cases_lt (hash pair.0) (bound_of m index)) [
          | inl less ↦ before low less
          | inr more ↦ true≢false (sym (is_in _ _ (hash pair.0) more high) ∙ out)
        ]) p.none none';
      }

  -- the cursor stops at the first live pair
  pub stops_at : (old before now : ArraysView K V) (start index len : ℕ) (at next : Place) (b : BucketView K V)
      → HasPassed old start index before at → ArePlaced hash now → KeepsArrays before now
      → len ≡ length before.current → index < len → (0 < len → IsLength len)
      → AreSourcesKilled now index → b ≡ bucket_on now Current index → MovesToNext b at next
      → IsFirstFrom hash now (bound_of (length old.current) start) index next
  stops_at old before now start index len at next b done law kept is below long ready here moved =
      let p = waits old before now start index at done law kept in
      let within = still_within before now len index kept is below in
      let moves = subst (λ (x : BucketView K V). MovesToNext x at next) here moved in
      let now_long = subst IsLength (is ∙ sym kept.current_len) (long (omega (arith, below))) in
      let bound : ℕ = bound_of (length old.current) start in
      let passed : HasNoneBetween hash bound (bound_of (length now.current) index)
      (pairs_of now) = subst (λ (m : ℕ). HasNoneBetween hash bound (bound_of m index) (pairs_of now)) (sym p.kept.current_len) p.none in
      record {
        locked = locked_current now index within ready;
        pair = moves.pair;
        slot = moves.here;
        first = subst (λ (q : Place). pairs_ahead (bucket_on now Current index) q ≡ moves.pair ∷
            pairs_ahead (bucket_on now Current index) next) p.null moves.ahead;
        current = none_below now bound index p.placed within passed;
        old = none_behind now bound index p.placed within passed ready (wide _ now_long);
        passed = passed;
      }

  -- past the array's end there is nothing
  pub ends : (old now : ArraysView K V) (start index : ℕ) (at : Place) → HasPassed old start index now at → ((k : K) → hash k < 2 ^ 64)
      → AreArrays now → (0 < length now.current → IsLength (length now.current)) → length now.current ≤ index → HasNoneFrom hash
      (bound_of (length old.current) start) (pairs_of now)
  ends old now start index at p fits law long past = elim (cases_lt 0 (length now.current)) [
    | inl some ↦
        let n : ℕ = length now.current in
        let top : 2 ^ 64 ≤ bound_of n index = subst (λ (k : ℕ). k ≤ bound_of n index)
        (all_hashes n (long some)) (mul-le-mul_right (interval_width n) past) in
        let top' = subst (λ (k : ℕ). 2 ^ 64 ≤ bound_of k index) p.kept.current_len top in
        each_implies _ (λ pair none. elim (cases_lt (hash pair.0) (bound_of (length old.current) start)) [
          | inl less ↦ less
          | inr more ↦ absurd (none more (omega (arith, top', fits pair.0)))
        ]) p.none
    | inr none ↦
        subst (HasNoneFrom hash (bound_of (length old.current) start)) (sym (no_map now law (omega (arith, none)))) tt
  ]

  -- what holds from an earlier hash on holds from a later one on
  pub from_later : (low lower : ℕ) → lower ≤ low → (ps : List (K × V)) → HasNoneFrom hash lower ps → HasNoneFrom hash low ps
  from_later low lower less ps h = each_implies _ (λ pair below. omega (arith, less, below)) h

  pub none_past : (low : ℕ) → 2 ^ 64 ≤ low → ((k : K) → hash k < 2 ^ 64) → (ps : List (K × V)) → HasNoneFrom hash low ps
  none_past low top fits [] = tt
  none_past low top fits (p ∷ ps) = (omega (arith, top, fits p.0), none_past low top fits ps)

  first_later : (arrays : ArraysView K V) (low lower index : ℕ) (at : Place) → lower ≤ low
      → IsFirstFrom hash arrays lower index at → IsFirstFrom hash arrays low index at
  first_later arrays low lower index at less f = record {
    locked = f.locked;
    pair = f.pair;
    slot = f.slot;
    first = f.first;
    current = λ j below. from_later low lower less _ (f.current j below);
    old = λ k target inside below meets. from_later low lower less _ (f.old k target inside below meets);
    passed = each_implies _ (λ pair none a b. none (omega (arith, less, a)) b) f.passed;
  }

  pub goes_later : (r : Result ℕ Missing) (arrays : ArraysView K V) (low lower : ℕ)
      (at : Place) → lower ≤ low → IsFoundFrom hash lower r arrays at → IsFoundFrom hash low r arrays at
  goes_later (Ok index) arrays low lower at less h = first_later arrays low lower index at less h
  goes_later (Err e) arrays low lower at less h =
      record { null = h.null; none = λ nothing. from_later low lower less (pairs_of arrays) (h.none nothing) }

module _ {K V : Type 0} where
  pub reaches_on : (r : Result ℕ Missing) (from index low : ℕ) (old new : ArraysView K V) → bound_of from index < bound_of
      (length old.current) (low + 1) → KeepsArrays old new → IfOk r (λ found. low ≤ found) → ReachesPast (bound_of from index) r new
  reaches_on (Ok at) from index low old new past kept order = still_past from index (length old.current) (length new.current) low at past
      (sym kept.current_len) order
  reaches_on (Err e) from index low old new past kept order = tt

  -- a pointer that moves had something ahead
  pub some_ahead : (b other : BucketView K V) (at next : Place) → b ≡ other → MovesToNext b at next → pairs_ahead other at ≡ [] → ⊥
  some_ahead b other at next is m none =
      let no : [] ≡ m.pair ∷ pairs_ahead b next = sym none ∙ ap (λ (x : BucketView K V). pairs_ahead x at) (sym is) ∙ m.ahead in absurd cc

  pub none_ahead : (b other : BucketView K V) (at next : Place) → b ≡ other → IsEnd b at next → pairs_ahead other at ≡ []
  none_ahead b other at next is e = ap (λ (x : BucketView K V). pairs_ahead x at) (sym is) ∙ e.ahead

  pub moves_in : (b other : BucketView K V) (at next : Place) → b ≡ other → MovesToNext b at next → MovesToNext other at next
  moves_in b other at next is m = subst (λ (x : BucketView K V). MovesToNext x at next) is m
