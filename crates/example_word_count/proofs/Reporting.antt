-- Rows that are sorted, and are those of the lines that a map counts, are the report of the lines.
use Rattle.std.proofs.Common.{ℕ, ◌≡◌, ◌+◌, ◌<◌, ◌∙◌, Bool, true, false, cond, List, [], ◌∷◌, length, map, get_or, Some, option_map, arith}
use Rattle.std.proofs.Common.{refl, sym, ap, subst, nat_eq}
use Rattle.std.specs.Cmp.{IsEquivalence, IsTotalOrder, unsigned_ties}
use Rattle.std.specs.Cmp.Lexicographic.{bytes_decides, lists_ties, pointwise, slice_cmp}
use Rattle.std.specs.List.{AllByRecursion, Contains, IsDistinct, count_by, slice_get}
use Rattle.std.specs.List.Sorted.{IsPermutation, IsSorted, IsStrictlySortedBy}
use Rattle.std.specs.Map.{keys_of, lookup}
use Rattle.std.specs.Ordering.{is_eq, is_lt, nat_cmp, on, ordering_reverse, ordering_then}
use Rattle.std.specs.declared.cmp.Ordering.{Ordering}
use Rattle.std.specs.declared.cmp.Ordering.TheVariants.{Less, Equal, Greater}
use Rattle.std.proofs.lemmas.Cmp.{back_total, nat_cmp_total, nat_list_cmp_total, nat_list_eq_equiv, on_equiv, on_total, then_total}
use Rattle.std.proofs.lemmas.List.{get_or-map, get_or_default, length-map}
use Rattle.std.proofs.lemmas.List.Elements.{All-map}
use Rattle.std.proofs.lemmas.List.Sorted.{All-permutation, Contains-permutation, IsPermutation-map}
use Rattle.std.proofs.lemmas.List.Sums.{get_or-le-sum_by, sum_by-cons}
use Rattle.std.proofs.lemmas.Map.Entries.{lookup_from_place, place_from_lookup}
use Rattle.std.proofs.lemmas.Map.Keys.{IsDistinct-IsPermutation, apart_from_distinct, sorted_from_all_adjacent}
use Rattle.std.proofs.lemmas.Option.{get_or_from_slice_get, slice_get-get_or, slice_get-map, slice_get_within}
use Rattle.example_callers.specs.Counts.{unless_zero}
use Rattle.example_word_count.specs.Reports.{IsReport, Row, row_cmp}

abbrev same_bytes : List ℕ → List ℕ → Bool
same_bytes = pointwise nat_eq

abbrev same_line : Row → Row → Bool
same_line = on (λ row. row.line) same_bytes

row_cmp_total : IsTotalOrder row_cmp
row_cmp_total = then_total (on_total (λ row. row.count) (back_total nat_cmp_total)) (on_total (λ row. row.line) nat_list_cmp_total)

tied_second : (first second : Ordering) → ordering_then first second ≡ Equal → second ≡ Equal
tied_second Less second is = absurd cc
tied_second Equal second is = is
tied_second Greater second is = absurd cc

-- what isn't behind a row of another line is in front of it
in_front : (row other : Row) → is_lt (row_cmp other row) ≡ false → same_line row other ≡ false → row_cmp row other ≡ Less
in_front row other sorted apart = row_cmp_total.antisymm row other ∙ from (row_cmp other row) refl sorted
  where
    from : (o : Ordering) → row_cmp other row ≡ o → is_lt o ≡ false → ordering_reverse o ≡ Less
    from Less is late = absurd cc
    from Equal is late =
        let second = tied_second (nat_cmp row.count other.count) (slice_cmp nat_cmp other.line row.line) is in
        let tied : same_line other row ≡ true = lists_ties nat_cmp unsigned_ties other.line row.line ∙ ap is_eq second in
        let both : false ≡ true = sym apart ∙ nat_list_eq_equiv.symm row.line other.line ∙ tied in
        absurd cc
    from Greater is late = refl

-- sorted rows of distinct lines are in strict order
strictly_sorted : (rows : List Row) → IsSorted row_cmp rows → IsDistinct same_line rows → IsStrictlySortedBy row_cmp rows
strictly_sorted [] sorted apart =
    sorted_from_all_adjacent row_cmp_total [] (record { count = 0; line = [] }) (λ k below. absurd (omega arith))
strictly_sorted (row ∷ rows) sorted apart =
    sorted_from_all_adjacent row_cmp_total (row ∷ rows) row
    (λ k below. in_front (get_or (row ∷ rows) k row) (get_or (row ∷ rows) (k + 1) row) (sorted k row (omega arith) below)
    (apart_from_distinct same_line (row ∷ rows) k (k + 1) row apart (omega arith) below))

-- items that are sorted by the order of their rows have sorted rows
rows_sorted : {X : Type 0} (row : X → Row) (cmp : X → X → Ordering) → ((x y : X) → cmp x y ≡ row_cmp (row x) (row y)) → (items : List X)
    → IsSorted cmp items → IsSorted row_cmp (map row items)
rows_sorted row cmp same [] sorted = λ k d low below. absurd (omega arith)
rows_sorted row cmp same (x ∷ xs) sorted = λ k d low below.
    let inside : k + 1 < length (x ∷ xs) = subst (λ n. k + 1 < n) (length-map (x ∷ xs) row) below in
    let this = get_or (x ∷ xs) k x in
    let next = get_or (x ∷ xs) (k + 1) x in
    ap (λ r. is_lt (row_cmp r (get_or (map row (x ∷ xs)) k d))) (get_or-map row (x ∷ xs) (k + 1) x d inside)
    ∙ ap (λ r. is_lt (row_cmp (row next) r)) (get_or-map row (x ∷ xs) k x d (omega arith))
    ∙ ap is_lt (sym (same next this)) ∙ sorted k x low inside

-- a number that is present is the count, and isn't zero
counted : (n m : ℕ) → unless_zero n ≡ Some m → (0 < m) × (m ≡ n)
counted n m there = (grind (arith, there), grind (arith, there))

there_counted : (n : ℕ) → 0 < n → unless_zero n ≡ Some n
there_counted n some = grind (arith, some)

module _ {K : Type 0} (bytes : K → List ℕ) where
  abbrev same_key : K → K → Bool
  same_key = on bytes same_bytes

  abbrev row_with : K × ℕ → Row
  row_with pair = record { count = pair.1; line = bytes pair.0 }

  key_laws : IsEquivalence same_key
  key_laws = on_equiv bytes nat_list_eq_equiv

  -- keys are counted as their bytes are
  count_bytes : (line : List ℕ) (keys : List K)
      → count_by (λ key. same_bytes line (bytes key)) keys ≡ count_by (same_bytes line) (map bytes keys)
  count_bytes line [] = refl
  count_bytes line (key ∷ keys) =
      sum_by-cons _ key keys ∙ ap (λ n. cond (same_bytes line (bytes key)) 1 0 + n) (count_bytes line keys)
      ∙ sym (sum_by-cons _ (bytes key) (map bytes keys))

  -- keys that are apart give rows that are
  rows_apart_from : (pair : K × ℕ) (pairs : List (K × ℕ)) → AllByRecursion (λ key. same_key pair.0 key ≡ false) (keys_of pairs)
      → AllByRecursion (λ row. same_line (row_with pair) row ≡ false) (map row_with pairs)
  rows_apart_from pair [] all = tt
  rows_apart_from pair (next ∷ pairs) all = (all.0, rows_apart_from pair pairs all.1)

  rows_apart : (pairs : List (K × ℕ)) → IsDistinct same_key (keys_of pairs) → IsDistinct same_line (map row_with pairs)
  unfolding IsDistinct
  rows_apart [] apart = tt
  rows_apart (pair ∷ pairs) apart = (rows_apart_from pair pairs apart.0, rows_apart pairs apart.1)

  module _ (keys : List K) (pairs : List (K × ℕ)) (apart : IsDistinct same_key (keys_of pairs))
      (counts : (key : K) → lookup (same_key key) pairs ≡ unless_zero (count_by (same_key key) keys)) where
    -- a pair has the count of its key
    pair_counted : (place : ℕ) (pair : K × ℕ) → slice_get pairs place ≡ Some pair
        → (0 < pair.1) × (pair.1 ≡ count_by (same_bytes (bytes pair.0)) (map bytes keys))
    pair_counted place pair there =
        let found = lookup_from_place key_laws pairs place pair.0 pair.1 apart there in
        let is = counted (count_by (same_key pair.0) keys) pair.1 (sym (counts pair.0) ∙ found) in
        (is.0, is.1 ∙ count_bytes (bytes pair.0) keys)

    -- a key that is present has a pair
    key_there : (place : ℕ) (key : K) → place < length keys → key ≡ get_or keys place key
        → Contains (map (λ row. row.line) (map row_with pairs)) (bytes key)
    key_there place key below is =
        let n = count_by (same_key key) keys in
        let one = get_or-le-sum_by (λ other. cond (same_key key other) 1 0) keys place key below in
        let same : same_key key (get_or keys place key) ≡ true = subst (λ k. same_key key k ≡ true) is (key_laws.refl key) in
        let some : 0 < n = omega (arith, one, ap {B = ℕ} (λ b. cond b 1 0) same) in
        let found = place_from_lookup (same_key key) pairs n (counts key ∙ there_counted n some) in
        let line : bytes key ≡ bytes found.1 = (bytes_decides (bytes key) (bytes found.1)).0 found.3 in
        let row = slice_get-map row_with pairs found.0 ∙ ap (option_map row_with) found.2 in
        let at = slice_get-map (λ row. row.line) (map row_with pairs) found.0 ∙ ap (option_map (λ row. row.line)) row in (
          found.0,
          slice_get_within _ found.0 (bytes found.1) at,
          get_or_from_slice_get _ found.0 (bytes found.1) (bytes key) at ∙ sym line,
        )

    -- so their rows in order are the report
    report_from_rows : (rows : List Row) → IsPermutation (map row_with pairs) rows → IsSorted row_cmp rows
        → IsReport (map bytes keys) rows
    report_from_rows rows moved sorted = record {
      counts = All-permutation (λ row. (0 < row.count) × (row.count ≡ count_by (same_bytes row.line) (map bytes keys)))
          (map row_with pairs) rows moved
          (All-map (λ row. (0 < row.count) × (row.count ≡ count_by (same_bytes row.line) (map bytes keys))) row_with pairs
          (λ place pair below. pair_counted place (get_or pairs place pair) (slice_get-get_or pairs place pair below)));
      complete = All-map (Contains (map (λ row. row.line) rows)) bytes keys (λ place other below.
          let key = get_or keys place other in
          Contains-permutation (map (λ row. row.line) (map row_with pairs)) (map (λ row. row.line) rows) (bytes key)
          (IsPermutation-map (λ row. row.line) (map row_with pairs) rows moved)
          (key_there place key below (get_or_default keys place other key below)));
      order = strictly_sorted rows sorted (IsDistinct-IsPermutation same_line (λ row other. nat_list_eq_equiv.symm row.line other.line)
          (map row_with pairs) rows moved (rows_apart pairs apart));
    }

    -- and so are items in order whose rows they are
    pub reported : {X : Type 0} (row : X → Row) (cmp : X → X → Ordering) → ((x y : X) → cmp x y ≡ row_cmp (row x) (row y))
        → (items in_order : List X) → map row items ≡ map row_with pairs → IsPermutation items in_order → IsSorted cmp in_order
        → IsReport (map bytes keys) (map row in_order)
    reported row cmp same items in_order rows moved sorted =
        report_from_rows (map row in_order)
        (subst (λ rs. IsPermutation rs (map row in_order)) rows (IsPermutation-map row items in_order moved))
        (rows_sorted row cmp same in_order sorted)
