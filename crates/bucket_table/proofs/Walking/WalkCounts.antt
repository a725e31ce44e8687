-- What a script's walk counts, and what its `Clear` leaves.
use Rattle.bucket_table.proofs.Words.{ArraysView, Bool, BucketView, Err, IsLength, IsPermutation, IsPermutation-refl, List, MarksBy, Ok}
use Rattle.bucket_table.proofs.Words.{Result, TableView, [], ap, append-nil, arith, bound_of, cases_lt, counted, counted_to, false}
use Rattle.bucket_table.proofs.Words.{false_from_ne_true, filter, filter_agree, has_home_in, inl, inr, length, length_permutation, lt-ltb}
use Rattle.bucket_table.proofs.Words.{ltb-true, map, marks_in, min, nat_le, nat_lt, nil_from_length, not, pairs_in, pairs_of, reading, refl}
use Rattle.bucket_table.proofs.Words.{set, subst, sym, true, true≢false, ℕ, ◌++◌, ◌+◌, ◌-◌, ◌<◌, ◌^◌, ◌∙◌, ◌∷◌, ◌≡◌, ◌≤◌, ◌⊎◌}
use Rattle.std.proofs.Common.{◌||◌}
use Rattle.bucket_table.specs.Map.MapState.{Becomes, state_of}
use Rattle.bucket_table.specs.Walking.Retains.{IsLeftOf, Retains}
use Rattle.bucket_table.specs.Scripts.Tallying.{Empties, Tallies, sum_to}
use Rattle.bucket_table.specs.Walking.Visits.{AreCalls, HasStopped, Visited}
use Rattle.bucket_table.specs.Walking.Walks.{EndsWalk, IsWalk, KeepsBuckets, WalksBy, keys_in, pairs_left}
use Rattle.bucket_table.proofs.Views.Killed.{no_entries}
use Rattle.bucket_table.proofs.Walking.LentPairs.{all_from, counted_from, is_from, lent_len, none_past, outside_is_from}
use Rattle.bucket_table.proofs.Map.MapKept.{others_than_pairs, pairs_kept}
use Rattle.bucket_table.proofs.Walking.Retaining.{retains_none}

module _ {K V : Type 0} where
  -- the walk reached the array's end, or was stopped
  abbrev pub IsWhole : ArraysView K V → ℕ → List (Visited (BucketView K V)) → Type 0
  IsWhole old start visits = (length old.current ≤ start + length visits) ⊎ HasStopped visits

  -- what the resize at the end leaves
  ended_pairs : (flag : Bool) (ended new : ArraysView K V) → EndsWalk flag ended new → IsPermutation (pairs_of ended) (pairs_of new)
  ended_pairs true ended new ends = pairs_kept _ _ ends.1.pairs
  ended_pairs false ended new ends = subst (λ (a : ArraysView K V). IsPermutation (pairs_of ended) (pairs_of a)) (sym ends)
      (IsPermutation-refl (pairs_of ended))

module _ {S K V : Type 0} (step : S → BucketView K V → Bool → Bool → BucketView K V → Bool → S → Type 0) (hash : K → ℕ)
    (old : ArraysView K V)
  where
    -- a walk from the first bucket on
    from_first : {A E : Type 0} {r : Result A E} {first now : S} {new : ArraysView K V} (w : WalksBy step hash 0 0 first old r now new)
        → IsWalk hash old 0 w.visits w.ended
    from_first w = subst (λ (from : ℕ). IsWalk hash old from w.visits w.ended) (w.begins.as_given refl) w.walk

    module _ (empties : (s t : S) (lent left : BucketView K V) (flag more last : Bool) → step s lent flag more left last t
        → pairs_in left ≡ [])
      where
        none_left : (s t : S) (flag last : Bool) (vs : List (Visited (BucketView K V))) → AreCalls step s flag vs t last
            → pairs_left vs ≡ []
        none_left s t flag last [] calls = refl
        none_left s t flag last (v ∷ vs) calls =
            ap (λ (ps : List (K × V)). ps ++ pairs_left vs) (empties _ _ _ _ _ _ _ calls.2) ∙ none_left calls.0 t calls.1 last vs calls.4

        -- the pairs of buckets that weren't visited are left
        beyond : {A E : Type 0} {r : Result A E} {first now : S} {new : ArraysView K V} (w : WalksBy step hash 0 0 first old r now new)
            → IsPermutation (filter (is_from hash (length old.current) (length w.visits)) (pairs_of old)) (pairs_of w.ended)
        beyond w =
            let n : ℕ = length old.current in
            let m : ℕ = length w.visits in
            let away : K × V → Bool = λ p. not (has_home_in hash n 0 (0 + m) p) in
            let e : pairs_left w.visits ++ filter away (pairs_of old) ≡ filter (is_from hash n m) (pairs_of old) =
            ap (λ (ps : List (K × V)). ps ++ filter away (pairs_of old)) (none_left _ _ _ _ w.visits w.calls)
            ∙ filter_agree away (is_from hash n m) (outside_is_from hash n m) (pairs_of old) in
            subst (λ (ps : List (K × V)). IsPermutation ps (pairs_of w.ended)) e (from_first w).pairs

        left_from : {A E : Type 0} {e : E} {first now : S} {new : ArraysView K V} → WalksBy {A = A} step hash 0 0 first old (Err e) now new
            → (bound : ℕ) × IsPermutation (filter (λ pair. nat_le bound (hash pair.0)) (pairs_of old)) (pairs_of new)
        left_from w = (
          bound_of (length old.current) (length w.visits),
          subst (λ (a : ArraysView K V). IsPermutation (filter (is_from hash (length old.current) (length w.visits)) (pairs_of old))
              (pairs_of a)) (sym w.ends) (beyond w),
        )

    module _ (goes : (s t : S) (lent left : BucketView K V) (flag more last : Bool) → step s lent flag more left last t → more ≡ true)
        (empty : length old.current ≡ 0 → pairs_of old ≡ []) (long : 0 < length old.current → IsLength (length old.current))
        (fits : (k : K) → hash k < 2 ^ 64)
      where
        never_stops : (s t : S) (flag last : Bool) (vs : List (Visited (BucketView K V))) → AreCalls step s flag vs t last
            → HasStopped vs → ⊥
        never_stops s t flag last [] calls stopped = stopped
        never_stops s t flag last (v ∷ vs) calls (inl h) = true≢false (sym (goes _ _ _ _ _ _ _ calls.2) ∙ h)
        never_stops s t flag last (v ∷ vs) calls (inr h) = never_stops calls.0 t calls.1 last vs calls.4 h

        reached : (s t : S) (flag last : Bool) (vs : List (Visited (BucketView K V))) → AreCalls step s flag vs t last → IsWhole old 0 vs
            → length old.current ≤ length vs
        reached s t flag last vs calls (inl all) = omega (arith, all)
        reached s t flag last vs calls (inr stopped) = absurd (never_stops s t flag last vs calls stopped)

        -- no pair is past its end
        none_beyond : {A E : Type 0} {a : A} {first now : S} {new : ArraysView K V}
            (w : WalksBy {E = E} step hash 0 0 first old (Ok a) now new)
            → filter (is_from hash (length old.current) (length w.visits)) (pairs_of old) ≡ []
        none_beyond w =
            none_past hash (length old.current) (length w.visits) (pairs_of old) empty long fits
            (reached _ _ _ _ w.visits w.calls (subst (λ (from : ℕ). IsWhole old from w.visits) (w.begins.as_given refl) w.whole))

        module _ (count : S → ℕ) (adds : (s t : S) (lent left : BucketView K V) (flag more last : Bool)
            → step s lent flag more left last t → count t ≡ sum_to (count s) (length (pairs_in lent)))
          where
            counts : (s t : S) (flag last : Bool) (vs : List (Visited (BucketView K V))) → count s ≤ 2 ^ 64 - 1
                → AreCalls step s flag vs t last
                → count t ≡ min (count s + lent_len vs) (2 ^ 64 - 1)
            counts s t flag last [] small calls = let same = ap count calls.0 in omega (arith, same, small)
            counts s t flag last (v ∷ vs) small calls =
                let first : count calls.0 ≡ min (count s + length (pairs_in v.lent)) (2 ^ 64 - 1) = adds _ _ _ _ _ _ _ calls.2 in
                let rest = counts calls.0 t calls.1 last vs (omega (arith, first)) calls.4 in
                omega (arith, first, rest)

            -- a whole walk counts all pairs
            all_counted : {A E : Type 0} {a : A} {first now : S} {new : ArraysView K V} → count first ≡ 0
                → WalksBy {E = E} step hash 0 0 first old (Ok a) now new → count now ≡ counted_to (pairs_of old)
            all_counted fresh w =
                let n : ℕ = length old.current in
                let told = counts _ _ _ _ w.visits (omega (arith, fresh)) w.calls in
                let lent = counted_from hash n 0 (pairs_of old) w.visits (from_first w).lent in
                let all = ap length (all_from hash n (pairs_of old)) in
                let m_is : 0 + length w.visits ≡ length w.visits = omega arith in
                let past = ap (λ (k : ℕ). length (filter (is_from hash n k) (pairs_of old))) m_is ∙ ap length (none_beyond w) in
                omega (arith, told, fresh, lent, all, past)

        all_gone : ((s t : S) (lent left : BucketView K V) (flag more last : Bool) → step s lent flag more left last t → pairs_in left ≡ [])
            → {A E : Type 0} {a : A} {first now : S} {new : ArraysView K V} → WalksBy {E = E} step hash 0 0 first old (Ok a) now new
            → pairs_of new ≡ []
        all_gone empties {new = new} w =
            let past = ap length (none_beyond w) in
            let ended = length_permutation _ _ (beyond empties w) in
            let after = length_permutation _ _ (ended_pairs w.flag w.ended new w.ends) in
            nil_from_length (pairs_of new) (after ∙ ended ∙ past)

pub none_counted : {A : Type 0} (xs : List A) → xs ≡ [] → 0 ≡ counted_to xs
none_counted {A} xs none = let e = ap (λ (ys : List A). length ys) none in omega (arith, e)

none_is : (n : ℕ) → n ≤ 0 → nat_lt 0 n ≡ false
none_is n small = false_from_ne_true (nat_lt 0 n) (λ e. let less = ltb-true 0 n e in omega (arith, less, small))

same_some : (a b : ℕ) → a ≡ min b (2 ^ 64 - 1) → nat_lt 0 a ≡ nat_lt 0 b
same_some a b is = elim (cases_lt 0 b) [
  | inl some ↦ lt-ltb 0 a (omega (arith, is, some)) ∙ sym (lt-ltb 0 b some)
  | inr none ↦ none_is a (omega (arith, is, none)) ∙ sym (none_is b none)
]

module _ {K V : Type 0} where
  -- what a tally does with a bucket, and what an emptier does
  pub tallies_bucket : (lent : BucketView K V) (buckets pairs len buckets_then pairs_then : ℕ) → len ≡ length (pairs_in lent)
      → buckets_then ≡ min (buckets + 1) (2 ^ 64 - 1) → pairs_then ≡ min (pairs + len) (2 ^ 64 - 1)
      → Tallies buckets pairs lent true buckets_then pairs_then
  tallies_bucket lent buckets pairs len buckets_then pairs_then is first second = record {
    goes_on = refl;
    buckets_are = first;
    pairs_are = omega (arith, is, second);
  }

  pub empties_bucket : (IsTest : (K × V → Bool) → Type 0) (lent left : BucketView K V) (kind epoch count taken count_then : ℕ)
      (flag last : Bool) → IsTest (λ pair. false) → IsLeftOf kind epoch lent left → MarksBy epoch (marks_in lent) (marks_in left)
      → Retains IsTest lent left taken → count_then ≡ min (count + taken) (2 ^ 64 - 1) → last ≡ (flag || nat_lt 0 taken)
      → Empties kind epoch count lent flag true left last count_then
  empties_bucket IsTest lent left kind epoch count taken count_then flag last means slots marks r is set =
      let none = retains_none IsTest lent left taken means r in
      let taken_is = none.1 in
      record {
        goes_on = refl;
        none_left = none.0;
        alive = r.alive;
        slots = slots;
        marks = marks;
        count_is = omega (arith, is, taken_is);
        flag_is = set ∙ ap (λ (b : Bool). flag || b) (same_some taken (length (pairs_in lent)) taken_is);
      }

module _ {S K V : Type 0} (buckets pairs : S → ℕ) where
  abbrev pub tallying : S → BucketView K V → Bool → Bool → BucketView K V → Bool → S → Type 0
  tallying = reading (λ (s : S) (lent : BucketView K V) (more : Bool) (t : S). Tallies (buckets s) (pairs s) lent more (buckets t)
      (pairs t))

  pub tallied : (hash : K → ℕ) (old : ArraysView K V) → (length old.current ≡ 0 → pairs_of old ≡ [])
      → (0 < length old.current → IsLength (length old.current)) → ((k : K) → hash k < 2 ^ 64)
      → {A E : Type 0} (a : A) (first now : S) (new : ArraysView K V) → pairs first ≡ 0
      → WalksBy {E = E} tallying hash 0 0 first old (Ok a) now new → pairs now ≡ counted_to (pairs_of old)
  tallied hash old empty long fits a first now new fresh w =
      all_counted tallying hash old (λ s t lent left flag more last call. call.0.goes_on) empty long fits pairs
      (λ s t lent left flag more last call. call.0.pairs_are) fresh w

module _ {S K V : Type 0} (kind : ℕ) (epoch count : S → ℕ) where
  abbrev pub emptying : S → BucketView K V → Bool → Bool → BucketView K V → Bool → S → Type 0
  emptying s lent flag more left last t = Empties kind (epoch s) (count s) lent flag more left last (count t)

  -- an emptier does what a walk requires of its visitor
  pub keeps_emptied : KeepsBuckets emptying
  keeps_emptied f g lent left flag more last alive call =
      let key : (K × V) × ℕ → K × ℕ = λ e. (e.0.0, e.1) in
      let none : keys_in left ≡ [] = ap (map key) (no_entries left call.none_left) in
      let same : keys_in lent ++ keys_in left ≡ keys_in lent =
      ap (λ (ks : List (K × ℕ)). keys_in lent ++ ks) none ∙ append-nil (keys_in lent) in
      record {
        gone = keys_in lent;
        keys = subst (λ (ks : List (K × ℕ)). IsPermutation (keys_in lent) ks) (sym same) (IsPermutation-refl (keys_in lent));
        alive = call.alive ∙ alive;
      }

  goes_emptied : (s t : S) (lent left : BucketView K V) (flag more last : Bool) → emptying s lent flag more left last t → more ≡ true
  goes_emptied s t lent left flag more last call = call.goes_on

  pub emptied : (hash : K → ℕ) (old : ArraysView K V) → (length old.current ≡ 0 → pairs_of old ≡ [])
      → (0 < length old.current → IsLength (length old.current)) → ((k : K) → hash k < 2 ^ 64)
      → {A E : Type 0} (a : A) (first now : S) (new : ArraysView K V) → count first ≡ 0
      → WalksBy {E = E} emptying hash 0 0 first old (Ok a) now new → (pairs_of new ≡ []) × (count now ≡ counted_to (pairs_of old))
  emptied hash old empty long fits a first now new fresh w = (
    all_gone emptying hash old goes_emptied empty long fits (λ s t lent left flag more last call. call.none_left) w,
    all_counted emptying hash old goes_emptied empty long fits count (λ s t lent left flag more last call. call.count_is) fresh w,
  )

  pub emptied_below : (hash : K → ℕ) (old : ArraysView K V) {A E : Type 0} (e : E) (first now : S) (new : ArraysView K V)
      → WalksBy {A = A} emptying hash 0 0 first old (Err e) now new
      → (bound : ℕ) × IsPermutation (filter (λ pair. nat_le bound (hash pair.0)) (pairs_of old)) (pairs_of new)
  emptied_below hash old e first now new w =
      left_from emptying hash old (λ s t lent left flag more last call. call.none_left) w

module _ {K V H : Type 0} (kind : ℕ) (t s : TableView K V H) (hasher : s.hasher ≡ t.hasher) where
  -- the map of a table whose pairs were removed, all or in part
  pub clears_all : (count : ℕ) → s.arrays.minimum ≡ t.arrays.minimum → s.arrays.maximum ≡ t.arrays.maximum
      → (pairs_of s.arrays ≡ []) × (count ≡ counted_to (pairs_of t.arrays))
      → (count ≡ counted_to (pairs_of t.arrays)) × (state_of kind s ≡ record (state_of kind t) { pairs = [] })
  clears_all count minimum maximum (none, counted) = (
    counted,
    others_than_pairs kind t s hasher minimum maximum ∙ ap (λ (ps : List (K × V)). record (state_of kind t) { pairs = ps }) none,
  )

  pub clears_below : (hash : H → K → ℕ) → s.arrays.minimum ≡ t.arrays.minimum → s.arrays.maximum ≡ t.arrays.maximum
      → ((bound : ℕ) × IsPermutation (filter (λ pair. nat_le bound (hash t.hasher pair.0)) (pairs_of t.arrays)) (pairs_of s.arrays))
      → (bound : ℕ) × Becomes (state_of kind t) (filter (λ pair. nat_le bound (hash t.hasher pair.0)) (pairs_of t.arrays))
      (state_of kind s)
  clears_below hash minimum maximum (bound, left) =
      (bound, record { pairs = left; others = others_than_pairs kind t s hasher minimum maximum })
