-- A closure is called with each pair of a table, bucket after bucket.
use Rattle.bucket_table.proofs.Words.{ArraysView, Bool, BucketView, IsEquivalence, IsOneMap, List, MarksBy, [], ap, append-nil, arith}
use Rattle.bucket_table.proofs.Words.{bucket_at, by-no_new, cases_lt, empty_bucket, inl, inr, length, length-append, marks_in, tombstones_of}
use Rattle.bucket_table.proofs.Words.{min, no_new-refl, pairs_in, pairs_of, refl, set, subst, sym, take, ℕ, ◌++◌, ◌+◌, ◌-◌, ◌<◌, ◌^◌, ◌∙◌}
use Rattle.bucket_table.proofs.Words.{TableView, suc, zero, ◌∷◌, ◌≡◌, ◌≤◌}
use Rattle.std.specs.Borrow.{Bor, MutBor}
use Rattle.std.proofs.Common.{drop, drop-drop, drop-set-lt, get_or-drop}
use Rattle.std.proofs.lemmas.List.{get_or-append-add, get_or_append_left, get_or_past, take_all, take_more, take_more_set}
use Rattle.std.proofs.lemmas.List.Concat.{flat_map-append}
use Rattle.bucket_slots.proofs.MarksAfter.{by-append}
use Rattle.bucket_table.specs.Rehash.Relocation.{marks_among}
use Rattle.bucket_table.specs.Map.LookingUp.{pairs_in_all}
use Rattle.bucket_table.specs.Walking.Extracting.{KeepsShape}
use Rattle.bucket_table.specs.Walking.Retains.{AreLeftOf, LosesKeys, RetainsEach, RetainsIn, gone_len}
use Rattle.bucket_table.specs.Walking.Row.{row_of, row_with}
use Rattle.bucket_table.specs.Views.Settings.{KeepsSettings}
use Rattle.bucket_table.proofs.Views.SideChanges.{changeable_filled}
use Rattle.bucket_table.proofs.Walking.Leaving.{all_left_at, all_left_both, all_left_same, gone_changed, left_same, one_map_losing_on}
use Rattle.bucket_table.proofs.Walking.Row.{all_joined, marks_in_row, pairs_in_row, row_of-row_with, row_with-same, shape_both, shape_with}
use Rattle.bucket_table.proofs.Walking.Row.{stands}
use Rattle.bucket_table.proofs.Walking.RetainingEach.{asked_both, asked_fewer}

-- if two lists together are empty, each of them is
pub none_joined : {A : Type 0} (xs ys : List A) → xs ++ ys ≡ [] → (xs ≡ []) × (ys ≡ [])
none_joined [] ys none = (refl, none)
none_joined (x ∷ xs) ys none = absurd cc

module _ {K V : Type 0} where
  -- a bucket with a pair may lose keys
  pub one_map_losing : {eq : K → K → Bool} → IsEquivalence eq → (hash : K → ℕ) {arrays : ArraysView K V} {index : ℕ} {left : BucketView K V}
      → IsOneMap eq hash arrays → index < length (row_of arrays) → (pairs_in (bucket_at (row_of arrays) index) ≡ [] → ⊥)
      → LosesKeys (bucket_at (row_of arrays) index) left → IsOneMap eq hash (row_with arrays index left)
  one_map_losing {eq} laws hash {arrays} {index} {left} one within some lost =
      let on = stands arrays index within in
      rw (on.with left)
      (one_map_losing_on eq laws hash arrays on.side on.own left one
      (changeable_filled hash arrays on.side on.own one.placed on.within
      (subst (λ bucket. pairs_in bucket ≡ [] → ⊥) (sym on.bucket) some))
      (subst (λ bucket. LosesKeys bucket left) (sym on.bucket) lost))

  pairs_in_all-more : (bs : List (BucketView K V)) (b : BucketView K V) → pairs_in_all (bs ++ b ∷ []) ≡ pairs_in_all bs ++ pairs_in b
  pairs_in_all-more bs b = all_joined bs (b ∷ []) ∙ ap (λ l. pairs_in_all bs ++ l) (append-nil (pairs_in b))

  marks_among-more : (xs : List (BucketView K V)) (b : BucketView K V) → marks_among (xs ++ b ∷ []) ≡ marks_among xs ++ marks_in b
  marks_among-more xs b =
      flat_map-append (λ (c : BucketView K V). marks_in c) xs (b ∷ []) ∙ ap (λ l. marks_among xs ++ l) (append-nil (marks_in b))

  -- no pair is in a bucket if there is none in all
  none_at : (bs : List (BucketView K V)) (index : ℕ) → pairs_in_all bs ≡ [] → pairs_in (bucket_at bs index) ≡ []
  none_at [] index none = refl
  none_at (b ∷ bs) zero none = (none_joined (pairs_in b) (pairs_in_all bs) none).0
  none_at (b ∷ bs) (suc index) none = none_at bs index (none_joined (pairs_in b) (pairs_in_all bs) none).1

-- a bucket of the first of two lists, or of the second
pub left_ahead : {K V : Type 0} (kind epoch : ℕ) (xs ys us vs : List (BucketView K V)) → length us ≡ length xs
    → AreLeftOf kind epoch (xs ++ ys) (us ++ vs) → AreLeftOf kind epoch xs us
left_ahead kind epoch xs ys us vs len all = record {
  len = len;
  each = λ i. elim (cases_lt i (length xs)) [
    | inl within ↦ rw (
      ← get_or_append_left xs ys empty_bucket i within,
      ← get_or_append_left us vs empty_bucket i (omega (arith, len, within)),
    ) (all.each i)
    | inr past ↦ rw (get_or_past xs i empty_bucket past, get_or_past us i empty_bucket (omega (arith, len, past)))
        (left_same kind epoch empty_bucket)
  ];
}

pub left_behind : {K V : Type 0} (kind epoch : ℕ) (xs ys us vs : List (BucketView K V)) → length us ≡ length xs
    → AreLeftOf kind epoch (xs ++ ys) (us ++ vs) → AreLeftOf kind epoch ys vs
left_behind kind epoch xs ys us vs len all = record {
  len = omega (arith, len, all.len, length-append xs ys, length-append us vs);
  each = λ i.
      rw (← get_or-append-add xs ys i empty_bucket, ← get_or-append-add us vs i empty_bucket, len) (all.each (length xs + i));
}

module _ {S K V : Type 0} (step : S → Bor K → MutBor V → Bool → MutBor V → S → Type 0) (kind epoch : ℕ) where
  -- a bucket without a pair stays
  retains_none : {first : S} {now : ArraysView K V} {index : ℕ} → index < length (row_of now) → pairs_in (bucket_at (row_of now) index) ≡ []
      → RetainsIn step kind epoch first now index 0 now first
  retains_none {now = now} {index = index} within none =
      let bucket = bucket_at (row_of now) index in
      record {
        left = bucket;
        retains = record {
          asked = rw none (refl, refl);
          counted = omega arith;
        };
        slots = left_same kind epoch bucket;
        new_is = sym (row_with-same now index within);
      }

  -- the buckets of the row below an index are done, and the others are as they were
  pub record IsThrough (first : S) (old : ArraysView K V) (state : S) (now : ArraysView K V) (index count : ℕ) : Type 0 where
    pub asked : RetainsEach step first (pairs_in_all (take index (row_of old))) (pairs_in_all (take index (row_of now))) state
    pub rest : drop index (row_of now) ≡ drop index (row_of old)
    pub counted : count ≡ gone_len (pairs_in_all (take index (row_of old))) (pairs_in_all (take index (row_of now)))
    pub marks : MarksBy epoch (marks_among (take index (row_of old))) (marks_among (take index (row_of now)))
    pub left : AreLeftOf kind epoch (row_of old) (row_of now)
    pub shape : KeepsShape old now

  pub sets_out : {first : S} {old : ArraysView K V} → IsThrough first old first old 0 0
  sets_out {old = old} = record {
    asked = (refl, refl);
    rest = refl;
    counted = omega arith;
    marks = by-no_new epoch [] [] (no_new-refl []);
    left = all_left_same kind epoch (row_of old);
    shape = record { minimum = refl; maximum = refl; tickets = refl; current_len = refl; linked_len = refl };
  }

  pub goes_on : {first state last : S} {old now new : ArraysView K V} {index count gone sum : ℕ} → index < length (row_of now)
      → RetainsIn step kind epoch state now index gone new last → sum ≡ min (count + gone) (2 ^ 64 - 1)
      → IsThrough first old state now index count → IsThrough first old last new (index + 1) sum
  goes_on {first} {state} {last} {old} {now} {new} {index} within bucket sum_is amid =
      let xs = row_of old in
      let ys = row_of now in
      let set_is : row_of new ≡ set ys index bucket.left = ap row_of bucket.new_is ∙ row_of-row_with now index bucket.left in
      let inside : index < length xs = omega (arith, within, amid.left.len) in
      let zero_more : index + 0 ≡ index = omega arith in
      let same : bucket_at ys index ≡ bucket_at xs index =
      sym (ap (λ k. bucket_at ys k) zero_more) ∙ sym (get_or-drop index ys 0 empty_bucket) ∙ ap (λ bs. bucket_at bs 0) amid.rest
      ∙ get_or-drop index xs 0 empty_bucket ∙ ap (λ k. bucket_at xs k) zero_more in
      let were = take_more xs index empty_bucket inside in
      let are = ap (take (index + 1)) set_is ∙ take_more_set ys index bucket.left within in
      let pairs_were = ap pairs_in_all were ∙ pairs_in_all-more (take index xs) (bucket_at xs index)
      ∙ ap (λ b. pairs_in_all (take index xs) ++ pairs_in b) (sym same) in
      let pairs_are = ap pairs_in_all are ∙ pairs_in_all-more (take index ys) bucket.left in
      let marks_were = ap marks_among were ∙ marks_among-more (take index xs) (bucket_at xs index)
      ∙ ap (λ b. marks_among (take index xs) ++ marks_in b) (sym same) in
      let marks_are = ap marks_among are ∙ marks_among-more (take index ys) bucket.left in
      let less = asked_fewer step first state (pairs_in_all (take index xs)) (pairs_in_all (take index ys)) amid.asked in
      let long_were = ap length pairs_were ∙ length-append (pairs_in_all (take index xs)) (pairs_in (bucket_at ys index)) in
      let long_are = ap length pairs_are ∙ length-append (pairs_in_all (take index ys)) (pairs_in bucket.left) in
      record {
        asked = rw (pairs_were, pairs_are)
            (asked_both step first state last (pairs_in_all (take index xs)) (pairs_in_all (take index ys)) (pairs_in (bucket_at ys index))
            (pairs_in bucket.left) amid.asked bucket.retains.asked);
        rest = ap (drop (index + 1)) set_is ∙ drop-set-lt (index + 1) ys index bucket.left (omega arith) ∙ sym (drop-drop 1 index ys)
            ∙ ap (λ bs. drop 1 bs) amid.rest ∙ drop-drop 1 index xs;
        counted = omega (arith, less, long_were, long_are, bucket.retains.counted, sum_is, amid.counted);
        marks = rw (marks_were, marks_are)
            (by-append epoch (marks_among (take index xs)) (marks_in (bucket_at ys index)) (marks_among (take index ys))
            (marks_in bucket.left) amid.marks (gone_changed kind epoch bucket.slots.0 (bucket_at ys index) bucket.left bucket.slots.1).1);
        left = all_left_both kind epoch xs ys (row_of new) amid.left
            (rw set_is (all_left_at kind epoch ys index bucket.left within bucket.slots));
        shape = rw bucket.new_is (shape_both old now (row_with now index bucket.left) amid.shape (shape_with now index bucket.left));
      }

  -- a bucket without a pair is passed
  pub passes : {first state : S} {old now : ArraysView K V} {index count : ℕ} → index < length (row_of now)
      → pairs_in (bucket_at (row_of now) index) ≡ [] → IsThrough first old state now index count
      → IsThrough first old state now (index + 1) count
  passes {count = count} within none amid =
      goes_on {count = count} {sum = count} within (retains_none within none) (omega (arith, amid.counted)) amid

  -- in the end the whole row is done
  pub record IsRetained (first : S) (old new : ArraysView K V) (count : ℕ) (last : S) : Type 0 where
    pub asked : RetainsEach step first (pairs_of old) (pairs_of new) last
    pub counted : count ≡ gone_len (pairs_of old) (pairs_of new)
    pub marks : MarksBy epoch (tombstones_of old) (tombstones_of new)
    pub shape : KeepsShape old new
    pub current : AreLeftOf kind epoch old.current new.current
    pub linked : AreLeftOf kind epoch old.linked new.linked

  pub ends : {first last : S} {old new : ArraysView K V} {index count : ℕ} → IsThrough first old last new index count
      → length (row_of new) ≤ index → IsRetained first old new count last
  ends {first} {last} {old} {new} {index} amid past =
      let were = take_all index (row_of old) (omega (arith, past, amid.left.len)) in
      let are = take_all index (row_of new) past in
      let pairs_were = ap pairs_in_all were ∙ pairs_in_row old in
      let pairs_are = ap pairs_in_all are ∙ pairs_in_row new in
      record {
        asked = subst (λ pairs. RetainsEach step first pairs (pairs_of new) last) pairs_were
            (subst (λ pairs. RetainsEach step first (pairs_in_all (take index (row_of old))) pairs last) pairs_are amid.asked);
        counted = amid.counted ∙ (λ i. gone_len (pairs_were i) (pairs_are i));
        marks = subst (λ marks. MarksBy epoch marks (tombstones_of new)) (ap marks_among were ∙ marks_in_row old)
            (subst (MarksBy epoch (marks_among (take index (row_of old)))) (ap marks_among are ∙ marks_in_row new) amid.marks);
        shape = amid.shape;
        current = left_ahead kind epoch old.current old.linked new.current new.linked amid.shape.current_len amid.left;
        linked = left_behind kind epoch old.current old.linked new.current new.linked amid.shape.current_len amid.left;
      }

  -- if no pair is left, the rest of the row had none
  passes_all : {first last : S} {old new : ArraysView K V} {count : ℕ} (left index : ℕ) → length (row_of new) ≡ index + left
      → pairs_in_all (row_of new) ≡ [] → IsThrough first old last new index count
      → IsThrough first old last new (length (row_of new)) count
  passes_all {first} {last} {old} {new} {count} zero index len none amid =
      let here : index ≡ length (row_of new) = omega (arith, len) in
      subst (λ (n : ℕ). IsThrough first old last new n count) here amid
  passes_all {new = new} (suc left) index len none amid =
      passes_all left (index + 1) (omega (arith, len)) none (passes (omega (arith, len)) (none_at (row_of new) index none) amid)

  pub stops : {first last : S} {old new : ArraysView K V} {index count : ℕ} → IsThrough first old last new index count
      → index < length (row_of new) → pairs_of new ≡ [] → IsRetained first old new count last
  stops {new = new} {index = index} amid within none =
      ends (passes_all (length (row_of new) - index) index (omega (arith, within)) (pairs_in_row new ∙ none) amid) (omega arith)

-- the settings stay with the tickets
pub settings_kept : {K V H : Type 0} {old new : TableView K V H} → new.hasher ≡ old.hasher → KeepsShape old.arrays new.arrays
    → KeepsSettings old new
settings_kept hasher shape = record {
  hasher = hasher;
  minimum = shape.minimum;
  maximum = shape.maximum;
  bag = λ unit. rw shape.tickets refl;
}
