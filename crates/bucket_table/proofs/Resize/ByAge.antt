-- The pairs of a bucket by age, and of a row of buckets: each own slot is taken once.
use Rattle.bucket_table.proofs.Words.{ArraysView, BucketView, IsPermutation, IsPermutation-append_comm, IsPermutation-refl}
use Rattle.bucket_table.proofs.Words.{IsPermutation-trans, List, Slot, ℕ, [], ap, append_assoc, arith, bucket_at, cases_eq, drop}
use Rattle.bucket_table.proofs.Words.{empty_bucket, eq-eqb, false, false≢true, filter_map-append, flattened, get_or, inl, inr, is_listed}
use Rattle.bucket_table.proofs.Words.{length, live_pair, live_pairs, map, ne_eqb, order_without, pairs_in, pairs_in_all, pairs_of, refl}
use Rattle.bucket_table.proofs.Words.{slot_at, suc, sym, take, take_all, true, zero, ◌++◌, ◌+◌, ◌-◌, ◌<◌, ◌∙◌, ◌∷◌, ◌≡◌, ◌≢◌, ◌≤◌}
use Rattle.bucket_slots.specs.ByUse.{each_once, slots_by_use}
use Rattle.bucket_table.specs.Resize.Renewing.{all_by_age, arrays_by_age, chain_pairs, own_backwards, own_by_age, pairs_by_age}
use Rattle.bucket_table.specs.Walking.ByUse.{own_left}
use Rattle.bucket_table.specs.Walking.Row.{row_of, row_with}
use Rattle.std.proofs.lemmas.List.Folds.{list_any_at}
use Rattle.std.proofs.lemmas.Bool.{or_parts}
use Rattle.std.proofs.lemmas.List.{at_drop_more, drop-set-lt, map_more, reverse-append}
use Rattle.std.proofs.lemmas.List.Sorted.{IsPermutation-append, IsPermutation-reverse}
use Rattle.std.specs.List.{range_with_len}
use Rattle.std.specs.Prelude.{reverse}
use Rattle.bucket_slots.proofs.Recency.Orders.{eqb-same, is_listed-order_without, listed_apart}
use Rattle.bucket_table.proofs.Walking.Row.{row_of-row_with}
use Rattle.bucket_table.proofs.Map.LookUps.{pairs_are}
use Rattle.bucket_table.proofs.Walking.EachByUse.{other_listed, own_by_use}
use Rattle.bucket_table.proofs.Walking.Filters.{IsPermutation-filter_map}

-- each slot is listed once

abbrev IsOnce : List ℕ → Type 0
IsOnce [] = Unit {0}
IsOnce (slot ∷ slots) = (is_listed slots slot ≡ false) × IsOnce slots

once_without : (order : List ℕ) (slot : ℕ) → IsOnce order → IsOnce (order_without order slot)
once_without [] slot once = tt
once_without (first ∷ order) slot once = elim (cases_eq first slot) [
  | inl same ↦ rw (eq-eqb first slot same) (once_without order slot once.1)
  | inr apart ↦ rw (ne_eqb first slot apart) (other_listed order first slot apart ∙ once.0, once_without order slot once.1)
]

once_each : (slots : List ℕ) → IsOnce (each_once slots)
once_each [] = tt
once_each (slot ∷ slots) = (is_listed-order_without (each_once slots) slot, once_without (each_once slots) slot (once_each slots))

not_earlier : (slots : List ℕ) (i d : ℕ) → IsOnce slots → i < length slots → is_listed (take i slots) (get_or slots i d) ≡ false
not_earlier [] i d once within = absurd (omega arith)
not_earlier (first ∷ slots) zero d once within = refl
not_earlier (first ∷ slots) (suc i) d once within =
    let later : i < length slots = omega arith in
    let slot = get_or slots i d in
    let there : is_listed slots slot ≡ true = list_any_at _ slots i d later (eqb-same slot) in
    rw (ne_eqb slot first (listed_apart slots slot first there once.0)) (not_earlier slots i d once.1 later)

module _ {K V : Type 0} where
  -- slots that stay the same give the same pairs
  slots_stay : (old new : List (Slot K V)) (slot : ℕ) (slots : List ℕ)
      → ((other : ℕ) → other ≢ slot → slot_at new other ≡ slot_at old other) → is_listed slots slot ≡ false
      → map (slot_at new) slots ≡ map (slot_at old) slots
  slots_stay old new slot [] others absent = refl
  slots_stay old new slot (first ∷ slots) others absent =
      let (isnt, later) = or_parts _ (is_listed slots slot) absent in
      let rest = slots_stay old new slot slots others later in
      λ i. others first (λ same. false≢true (sym isnt ∙ eq-eqb slot first (sym same))) i ∷ rest i

  -- the pair of the last of some slots is first, and taking it leaves the others
  takes_at : (old new : BucketView K V) (slots : List ℕ) (i d : ℕ) → IsOnce slots → i < length slots
      → ((other : ℕ) → other ≢ get_or slots i d → slot_at new.own other ≡ slot_at old.own other)
      → own_backwards old (take (i + 1) slots) ≡ own_left old (get_or slots i d ∷ []) ++ own_backwards new (take i slots)
  takes_at old new slots i d once within others =
      let slot = get_or slots i d in
      let row = map (slot_at old.own) (take i slots) in
      let stays = slots_stay old.own new.own slot (take i slots) others (not_earlier slots i d once within) in
      ap (λ (those : List (Slot K V)). live_pairs (reverse those)) (map_more (slot_at old.own) slots i d within)
      ∙ ap live_pairs (reverse-append row (slot_at old.own slot ∷ []))
      ∙ filter_map-append live_pair (slot_at old.own slot ∷ []) (reverse row)
      ∙ ap (λ (those : List (Slot K V)). own_left old (slot ∷ []) ++ live_pairs (reverse those)) (sym stays)

  pub takes_last : (old new : BucketView K V) (listed slots : List ℕ) (left d : ℕ) → slots ≡ slots_by_use 32 listed → 0 < left
      → left ≤ length slots → ((other : ℕ) → other ≢ get_or slots (left - 1) d → slot_at new.own other ≡ slot_at old.own other)
      → own_backwards old (take left slots) ≡ own_left old (get_or slots (left - 1) d ∷ []) ++ own_backwards new (take (left - 1) slots)
  takes_last old new listed slots left d is some within others =
      let last : left ≡ left - 1 + 1 = omega arith in
      let once : IsOnce slots = rw is (once_each (listed ++ range_with_len 0 32)) in
      ap (λ (n : ℕ). own_backwards old (take n slots)) last ∙ takes_at old new slots (left - 1) d once (omega arith) others

  -- at first all slots are left, in LRU order
  pub all_at_first : (bucket : BucketView K V) (slots : List ℕ) → length bucket.own ≡ 32 → slots ≡ slots_by_use 32 bucket.listed
      → length slots ≤ 32 → own_by_age bucket ≡ own_backwards bucket (take 32 slots)
  all_at_first bucket slots long is few =
      ap (λ (n : ℕ). own_backwards bucket (slots_by_use n bucket.listed)) long ∙ ap (own_backwards bucket) (sym is)
      ∙ ap (own_backwards bucket) (sym (take_all 32 slots few))

  -- the own slots' pairs by age depend only on the slots and their order
  pub own_same : (old new : BucketView K V) → new.own ≡ old.own → new.listed ≡ old.listed → own_by_age new ≡ own_by_age old
  own_same old new own listed =
      λ i. live_pairs (reverse (map (slot_at (own i)) (slots_by_use (length (own i)) (listed i))))

  -- the pairs of the buckets from one on are its own and those of the buckets after it, whatever the bucket is then
  pub next_bucket : (arrays : ArraysView K V) (index : ℕ) (left : BucketView K V) → index < length (row_of arrays)
      → all_by_age (drop index (row_of arrays))
      ≡ pairs_by_age (bucket_at (row_of arrays) index) ++ all_by_age (drop (index + 1) (row_of (row_with arrays index left)))
  next_bucket arrays index left within =
      let behind = drop-set-lt (index + 1) (row_of arrays) index left (omega arith) in
      at_drop_more all_by_age (row_of arrays) index empty_bucket within
      ∙ ap (λ (buckets : List (BucketView K V)). pairs_by_age (bucket_at (row_of arrays) index) ++ all_by_age buckets)
      (sym behind ∙ ap (drop (index + 1)) (sym (row_of-row_with arrays index left)))

  age_joined : (xs ys : List (BucketView K V)) → all_by_age (xs ++ ys) ≡ all_by_age xs ++ all_by_age ys
  age_joined [] ys = refl
  age_joined (x ∷ xs) ys =
      ap (λ ps. pairs_by_age x ++ ps) (age_joined xs ys) ∙ sym (append_assoc (pairs_by_age x) (all_by_age xs) (all_by_age ys))

  -- the pairs of the row by age are those of the arrays
  pub age_in_row : (arrays : ArraysView K V) → all_by_age (row_of arrays) ≡ arrays_by_age arrays
  age_in_row arrays = age_joined arrays.current arrays.linked

  -- all pairs occur by age, each once

  own_once : (bucket : BucketView K V) → IsPermutation (live_pairs bucket.own) (own_by_age bucket)
  own_once bucket =
      let row = map (slot_at bucket.own) (slots_by_use (length bucket.own) bucket.listed) in
      IsPermutation-trans _ _ _ (own_by_use bucket.own bucket.listed)
      (IsPermutation-filter_map live_pair row (reverse row) (IsPermutation-reverse row))

  bucket_once : (bucket : BucketView K V) → IsPermutation (pairs_in bucket) (pairs_by_age bucket)
  bucket_once bucket =
      rw (filter_map-append live_pair bucket.own (flattened bucket.chain))
      (IsPermutation-trans _ _ _ (IsPermutation-append_comm (live_pairs bucket.own) (chain_pairs bucket))
      (IsPermutation-append _ _ _ _ (IsPermutation-refl (chain_pairs bucket)) (own_once bucket)))

  all_once : (buckets : List (BucketView K V)) → IsPermutation (pairs_in_all buckets) (all_by_age buckets)
  all_once [] = IsPermutation-refl []
  all_once (bucket ∷ buckets) = IsPermutation-append _ _ _ _ (bucket_once bucket) (all_once buckets)

  pub each_by_age : (arrays : ArraysView K V) → IsPermutation (pairs_of arrays) (arrays_by_age arrays)
  each_by_age arrays = rw (pairs_are arrays) (IsPermutation-append _ _ _ _ (all_once arrays.current) (all_once arrays.linked))
