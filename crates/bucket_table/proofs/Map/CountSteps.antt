-- Counts of pairs, bucket by bucket, and what a table without pairs drops.
use Rattle.bucket_table.proofs.Words.{All, ArraysView, Bool, BucketView, Err, Keeps, List, Ok, Result, TableView, ℕ, [], ap}
use Rattle.bucket_table.proofs.Words.{arith, bucket_at, counted, counted_to, entries_among, entries_in, entries_of, false, flattened}
use Rattle.bucket_table.proofs.Words.{get_or, inl, inr, is_live, length, length-entries_in, length-map, length_permutation, live_counts}
use Rattle.bucket_table.proofs.Words.{live_pairs, map, min, nil_from_length, pairs_in, pairs_of, refl, suc, sum_by-cons, take, true, zero}
use Rattle.bucket_table.proofs.Words.{◌*◌, ◌++◌, ◌+◌, ◌-◌, ◌/◌, ◌<◌, ◌^◌, ◌∙◌, ◌∷◌, ◌≡◌, ◌≤◌}
use Rattle.bucket_slots.proofs.Counting.{length-live_pairs, length-live_pairs-append}
use Rattle.bucket_table.specs.Resize.Resizing.{IsPlanOf, TriesResize}
use Rattle.bucket_table.specs.declared.arrays.resize.Plan.TheVariants.{Resize}
use Rattle.std.proofs.Common.{length-append, sum, zero-mul}
use Rattle.std.proofs.lemmas.List.Sums.{count_by-le-length}
use Rattle.bucket_table.specs.Map.Counting.{IsHeldBy, chained_among}
use Rattle.bucket_table.specs.Resize.Asking.{ResizesIf}
use Rattle.bucket_table.specs.Resize.Sampling.{estimate}
use Rattle.bucket_table.proofs.Resize.GivingUp.{plan_alone, plan_code, plan_stands}

-- counts of 0 sum up to 0
zeros_taken : (n : ℕ) (xs : List ℕ) → All (λ count. count ≡ 0) xs → sum (take n xs) ≡ 0
zeros_taken zero xs all = refl
zeros_taken (suc n) [] all = refl
zeros_taken (suc n) (x ∷ xs) all =
    let one = sum_by-cons (λ (count : ℕ). count) x (take n xs) in
    let e : sum (take (suc n) (x ∷ xs)) ≡ sum (x ∷ take n xs) = refl in
    e ∙ one ∙ omega (arith, all 0 0 (omega arith), zeros_taken n xs (λ i d below. all (suc i) d (omega arith)))

zeros_counted : (counts : List ℕ) (start size : ℕ) → All (λ count. count ≡ 0) counts → counted counts start size ≡ 0
zeros_counted counts zero size all = zeros_taken size counts all
zeros_counted [] (suc start) size all = zeros_taken size [] all
zeros_counted (x ∷ counts) (suc start) size all = zeros_counted counts start size (λ i d below. all (suc i) d (omega arith))

zeros_estimated : (counts : List ℕ) (start size : ℕ) → All (λ count. count ≡ 0) counts → estimate counts start size ≡ 0
zeros_estimated counts start size all =
    let e : estimate counts start size ≡ min (0 * (length counts / size)) (2 ^ 64 - 1) = ap
    (λ (n : ℕ). min (n * (length counts / size)) (2 ^ 64 - 1)) (zeros_counted counts start size all) in
    e ∙ ap (λ (n : ℕ). min n (2 ^ 64 - 1)) (zero-mul (length counts / size)) ∙ refl

module _ {K V : Type 0} where
  -- one more bucket of an array
  pub entries_among_more : (bs : List (BucketView K V)) (i : ℕ) → i < length bs
      → length (entries_among (take (i + 1) bs)) ≡ length (entries_among (take i bs)) + length (pairs_in (bucket_at bs i))
  entries_among_more [] i within = absurd (omega arith)
  entries_among_more (b ∷ bs) zero within =
      let e : take (0 + 1) (b ∷ bs) ≡ b ∷ [] = refl in
      rw (length-append (entries_in b) []) (omega (arith, length-entries_in b))
  entries_among_more (b ∷ bs) (suc i) within =
      let e : suc i + 1 ≡ suc (i + 1) = omega arith in
      rw (e, length-append (entries_in b) (entries_among (take (i + 1) bs)), length-append (entries_in b) (entries_among (take i bs)))
      (omega (arith, entries_among_more bs i (omega arith)))

  -- buckets with 32 own slots have at most as many pairs as those slots and the pairs of their chains
  pub held_by : (bs : List (BucketView K V)) → ((i : ℕ) → i < length bs → length (bucket_at bs i).own ≡ 32)
      → IsHeldBy (entries_among bs) bs
  held_by [] long = omega arith
  held_by (b ∷ bs) long =
      let own = long 0 (omega arith) in
      let here = length-entries_in b in
      let parts = length-live_pairs-append b.own (flattened b.chain) in
      let live = length-live_pairs b.own in
      let few = count_by-le-length is_live b.own in
      rw (length-append (entries_in b) (entries_among bs), length-append (live_pairs (flattened b.chain)) (chained_among bs))
      (omega (arith, held_by bs (λ i within. long (suc i) (omega (arith, within))), own, here, parts, live, few))

  zero_counts : (bs : List (BucketView K V)) → length (entries_among bs) ≡ 0 → All (λ count. count ≡ 0) (live_counts bs)
  zero_counts bs none i d below = each bs none i d below
    where
      each : (bs : List (BucketView K V)) → length (entries_among bs) ≡ 0 → (i d : ℕ)
          → i < length (live_counts bs) → get_or (live_counts bs) i d ≡ 0
      each [] none i d below = absurd (omega arith)
      each (b ∷ bs) none zero d below =
          let both = length-append (entries_in b) (entries_among bs) in
          let here = length-entries_in b in
          omega arith
      each (b ∷ bs) none (suc i) d below =
          let both = length-append (entries_in b) (entries_among bs) in
          each bs (omega arith) i d (omega arith)

  -- without pairs, and with the minimum 0, no array is pushed
  never_pushed : (old : ArraysView K V) (capacity : ℕ) → IsPlanOf old (Resize capacity) → entries_of old ≡ [] → old.minimum ≡ 0 → ⊥
  never_pushed old capacity is empty least =
      let both = length-append (entries_among old.current) (entries_among old.linked) in
      let all = zero_counts old.current (omega (arith, both, ap (λ (es : List ((K × V) × ℕ)). length es) empty)) in
      let plan = is.alone (plan_stands old (Resize capacity) is (omega arith)) (plan_alone old (Resize capacity) is (omega arith)) in
      let f = ap plan_code (plan.emptied (zeros_estimated (live_counts old.current) _ plan.large all) least all) in
      absurd (omega arith)

  pub dropped : {E : Type 0} (old new : ArraysView K V) (answer : Result Bool E) → TriesResize old answer new → entries_of old ≡ []
      → old.minimum ≡ 0
      → (new.linked ≡ old.linked) × (new.tickets ≡ old.tickets)
  dropped old new (Ok false) tries empty least = rw tries.1 (refl, refl)
  dropped old new (Ok true) tries empty least = elim tries [
    | inl given_up ↦ rw given_up.1.new_is (refl, refl)
    | inr pushed ↦ absurd (never_pushed old pushed.0 pushed.1 empty least)
  ]
  dropped old new (Err refused) (capacity, is, same) empty least = rw same (refl, refl)

  pub length-pairs_of : (arrays : ArraysView K V) → length (pairs_of arrays) ≡ length (entries_of arrays)
  length-pairs_of arrays = length-map (entries_of arrays) (λ (e : (K × V) × ℕ). e.0)

  -- if the count is at most the number of own slots, there are at most that many pairs
  pub held_by_own : (a : ArraysView K V) {count slots : ℕ} → count ≡ counted_to (pairs_of a) → slots < 2 ^ 64
      → slots ≡ 32 * length (a.current ++ a.linked) → count ≤ slots → IsHeldBy (pairs_of a) (a.current ++ a.linked)
  held_by_own a is fits own few = omega (arith, is, fits, own, few)

  -- if none was counted, there is none
  pub none_kept : (old new : ArraysView K V) (n : ℕ) → Keeps old new → n ≡ counted_to (pairs_of old) → n ≡ 0 → entries_of new ≡ []
  none_kept old new n kept is none =
      nil_from_length (entries_of new) (omega (arith, length_permutation _ _ kept.pairs, length-pairs_of old, is, none))

  -- and if some were counted, there are some, so nothing is asked for
  pub some_kept : (old new : ArraysView K V) (n : ℕ) → Keeps old new → n ≡ counted_to (pairs_of old) → (n ≡ 0 → ⊥)
      → ResizesIf ((entries_of new ≡ []) × (new.minimum ≡ 0)) new new
  some_kept old new n kept is some = inr (
    λ asked. some (is ∙ omega (
      arith,
      length_permutation _ _ kept.pairs,
      length-pairs_of old,
      ap (λ (es : List ((K × V) × ℕ)). length es) asked.0,
    )),
    refl,
  )

  no_pairs_of : (arrays : ArraysView K V) → entries_of arrays ≡ [] → pairs_of arrays ≡ []
  no_pairs_of arrays empty = ap (λ (es : List ((K × V) × ℕ)). map (λ (e : (K × V) × ℕ). e.0) es) empty

module _ {K V H : Type 0} where
  pub kept_alone : (hasher : H) (a new : ArraysView K V) → (length a.linked ≡ 0 → (entries_of a ≡ [] → ⊥) → new ≡ a)
      → length a.linked ≡ 0 → (pairs_of a ≡ [] → ⊥)
      → ◌≡◌ {A = TableView K V H} (record { hasher = hasher; arrays = new }) (record { hasher = hasher; arrays = a })
  kept_alone hasher a new same alone some =
      ap (λ (b : ArraysView K V). record { hasher = hasher; arrays = b }) (same alone (λ empty. some (no_pairs_of a empty)))
