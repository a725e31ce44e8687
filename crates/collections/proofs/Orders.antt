-- The LRU order of a cache after a put and after a removal.
use Rattle.bucket_table.specs.declared.arrays.side.Side.{Side}
use Rattle.bucket_table.specs.declared.arrays.side.Side.TheVariants.{Current, Old}
use Rattle.std.proofs.Common.{ℕ, ◌≡◌, ◌<◌, ◌⊎◌, ◌%◌, inl, inr, Bool, true, false, Option, Some, Result, Ok, Err, length, refl, ap}
use Rattle.std.proofs.Common.{subst, arith, length-set}
use Rattle.std.specs.Cmp.{IsEquivalence}
use Rattle.std.specs.List.{IsDistinct}
use Rattle.std.specs.Map.{keys_of}
use Rattle.bucket_slots.specs.ArrayView.{bucket_at}
use Rattle.bucket_slots.specs.BucketView.{BucketView, Place}
use Rattle.bucket_slots.specs.Homes.{IsHome}
use Rattle.bucket_slots.specs.Removing.{slots_without}
use Rattle.bucket_table.specs.Map.ByKey.{PreparesThen, ShrinksAt}
use Rattle.bucket_table.specs.Map.Finding.{Finds}
use Rattle.bucket_table.specs.Map.Putting.{Goes, PutsAt, slots_left, slots_put}
use Rattle.bucket_table.specs.Map.Preparing.{IsPrepared}
use Rattle.bucket_table.specs.Map.Splitting.{SplitsThen}
use Rattle.bucket_table.specs.Resize.Growing.{Grows}
use Rattle.bucket_table.specs.Resize.Resizing.{IsPushed}
use Rattle.bucket_table.specs.Views.ArraysView.{ArraysView, TableView, pairs_of}
use Rattle.bucket_table.specs.Views.Sides.{arrays_with, bucket_on, buckets_on}
use Rattle.bucket_table.specs.declared.hash_table.ResizeRule.TheVariants.{Sampled}
use Rattle.bucket_slots.specs.declared.not_inserted.NotInserted.{NotInserted}
use Rattle.bucket_slots.specs.declared.not_inserted.NotInserted.TheVariants.{Memory, Present}
use Rattle.bucket_table.proofs.CallerLemmas.{keeps_both, kept_none, pushed_keeps, split_old}
use Rattle.collections.specs.Orders.{Leaves, LeavesArray, LeavesPlace, PutsInHome, PutsOrKeeps, ReplacesBucket}
use Rattle.collections.proofs.Found.{IsFound, found, ready_keeps, same_buckets}
use Rattle.collections.proofs.Moving.{arrays_stay, moves_beside, moves_on, prepared_moves}
use Rattle.collections.proofs.Shrinking.{none_left, removed_ends}

module _ {K V : Type 0} where
  -- another bucket on the side that was current
  replaced : (side : Side) (index : ℕ) (bucket : BucketView K V) (ready between new : ArraysView K V) → Grows side ready between
      → new ≡ arrays_with between side index bucket → ReplacesBucket Current index bucket ready new
  replaced Old index bucket ready between new (capacity, pushed) is = inr (pushed.alone, rw (is, pushed.new_is) refl)
  replaced Current index bucket ready between new same is = inl (rw same at is)

  -- a bucket that was found, and in which nothing is done
  found_leaves : (old : ArraysView K V) (side : Side) (index : ℕ) (new : ArraysView K V) → IsFound old side index new → LeavesArray old new
  found_leaves old side index new is =
      record {
        between = is.ready;
        carried = moves_beside old is.ready is.makes.beside;
        alone = λ none stands. (is.makes.first none).0 stands;
        left = grown side is.grown;
      }
    where
      grown : (side : Side) → Grows side is.ready new → (new ≡ is.ready) ⊎ ((length is.ready.linked ≡ 0) × (new.linked ≡ is.ready.current))
      grown Old (capacity, pushed) = inr (pushed.alone, rw pushed.new_is refl)
      grown Current same = inl same

module _ {K V H : Type 0} (hash : ℕ) (old new : TableView K V H) where
  -- a table that is only prepared
  pub prepared_leaves : (between : TableView K V H) → IsPrepared 67 hash old between → LeavesArray old.arrays between.arrays
  prepared_leaves between prepared = record {
    between = between.arrays;
    carried = λ some. prepared_moves hash old between prepared;
    alone = λ none stands. ap (λ (t : TableView K V H). t.arrays) (prepared.alone none);
    left = inl refl;
  }

  module _ (eq : K → K → Bool) (laws : IsEquivalence eq) (distinct : IsDistinct eq (keys_of (pairs_of old.arrays))) where
    -- what the table puts if it found a bucket
    pub puts_home : (pair : K × V) (r : Result (Option (K × V)) (NotInserted K V)) (answer : Result (Side × ℕ) (Unit {0}))
        (between : TableView K V H) → Finds Sampled 67 hash old answer between → PutsAt true pair (hash % 256) between r answer new
        → PutsOrKeeps eq pair hash old r new.arrays
    puts_home pair (Ok went) (Ok at) between finds puts =
        let is = found Sampled 67 hash old.arrays at.0 at.1 between.arrays finds.found in
        let same = same_buckets at.0 is.ready between.arrays is.grown in
        let here : bucket_on between.arrays at.0 at.1 ≡ bucket_at is.ready.current at.1 = ap (λ bs. bucket_at bs at.1) same in
        let after : BucketView K V → BucketView K V = λ bucket. slots_put true (slots_left bucket went) pair (hash % 256) in
        record {
          ready = is.ready;
          between = is.ready;
          split = inl refl;
          map = arrays_stay eq laws old distinct is.ready (ready_keeps old.arrays at.1 is.ready is.makes);
          carried = moves_beside old.arrays is.ready is.makes.beside;
          first = is.makes.first;
          index = at.1;
          home = subst (λ bs. IsHome (length bs) hash at.1) same finds.home;
          goes = subst (λ bucket. Goes bucket went) here puts.0;
          put = replaced at.0 at.1 _ is.ready between.arrays new.arrays is.grown
              (subst (λ bucket. new.arrays ≡ arrays_with between.arrays at.0 at.1 (after bucket)) here
              (ap (λ (t : TableView K V H). t.arrays) puts.1));
        }
    puts_home pair (Ok went) (Err e) between finds none = absurd none
    puts_home pair (Err (Present k v)) (Ok at) between finds same =
        let is = found Sampled 67 hash old.arrays at.0 at.1 between.arrays finds.found in
        rw same (found_leaves old.arrays at.0 at.1 between.arrays is)
    puts_home pair (Err (Present k v)) (Err e) between finds same = rw same (prepared_leaves between finds.prepared)
    puts_home pair (Err (Memory k v)) (Ok at) between finds none = absurd none
    puts_home pair (Err (Memory k v)) (Err e) between finds same = rw same (prepared_leaves between finds.prepared)

    -- what the table puts if the slots were doubled first
    pub puts_split : (pair : K × V) (went : Option (K × V))
        → SplitsThen 67 hash old (λ answer between. PutsAt true pair (hash % 256) between (Ok went) answer new)
        → PutsInHome eq pair hash went old new.arrays
    puts_split pair went x =
        let doubled = x.doubled.arrays in
        let is = found Sampled 67 hash doubled x.side x.index x.between.arrays x.found.found in
        let same = same_buckets x.side is.ready x.between.arrays is.grown in
        let here : bucket_on x.between.arrays x.side x.index ≡ bucket_at is.ready.current x.index = ap (λ bs. bucket_at bs x.index) same in
        let after : BucketView K V → BucketView K V = λ bucket. slots_put true (slots_left bucket went) pair (hash % 256) in
        let stands = x.splits.may.home.within in
        let linked = ap (λ bs. length bs) (split_old hash x.ready.arrays doubled x.splits) in
        let kept = keeps_both old.arrays doubled is.ready
        (keeps_both old.arrays x.ready.arrays doubled x.prepared.kept.keeps (pushed_keeps _ x.ready.arrays doubled x.splits.pushed))
        (ready_keeps doubled x.index is.ready is.makes) in
        record {
          ready = x.ready.arrays;
          carried = λ some. prepared_moves hash old x.ready x.prepared;
          first = λ none. (
            (λ some. ap (λ (t : TableView K V H). t.arrays) (x.prepared.alone none)),
            (λ lacks. absurd (omega (arith, lacks, stands, x.prepared.kept.current_len))),
          );
          between = is.ready;
          split = inr (record {
            doubled = doubled;
            splits = x.splits;
            carried = moves_beside doubled is.ready is.makes.beside (omega (arith, stands, linked));
          });
          map = arrays_stay eq laws old distinct is.ready kept;
          index = x.index;
          home = subst (λ bs. IsHome (length bs) hash x.index) same x.found.home;
          goes = subst (λ bucket. Goes bucket went) here x.done.0;
          put = replaced x.side x.index _ is.ready x.between.arrays new.arrays is.grown
              (subst (λ bucket. new.arrays ≡ arrays_with x.between.arrays x.side x.index (after bucket)) here
              (ap (λ (t : TableView K V H). t.arrays) x.done.1));
        }

  module _ (matches : K → Bool) where
    left : (pairs : ℕ) (removed : Bool) (between : TableView K V H) → ShrinksAt matches slots_without (Some pairs) removed between new
        → Leaves matches removed between.arrays new.arrays
    left pairs true between (side, index, at, stands, shrinks) = elim (removed_ends pairs between.arrays side index _ new.arrays shrinks) [
      | inl is ↦ inr (side, index, at, stands, inl is)
      | inr (inl gone) ↦ inl (none_left _ new.arrays gone)
      | inr (inr (capacity, pushed)) ↦
          inr (side, index, at, stands, pushed_from side between.arrays index at stands.within _ capacity pushed)
    ]
      where
        pushed_from : (side : Side) (arrays : ArraysView K V) (index : ℕ) (at : Place) → index < length (buckets_on arrays side)
            → (bucket : BucketView K V) (capacity : ℕ) → IsPushed capacity (arrays_with arrays side index bucket) new.arrays
            → ReplacesBucket side index bucket arrays new.arrays
        pushed_from Current arrays index at within bucket capacity pushed = inr (pushed.alone, rw pushed.new_is refl)
        pushed_from Old arrays index at within bucket capacity pushed =
            let none = pushed.alone in
            absurd (omega (arith, within, none, length-set arrays.linked index bucket))
    left pairs false between same = ap (λ (t : TableView K V H). t.arrays) same

    -- what the table removes
    pub leaves_place : (pairs : ℕ) (removed : Bool)
        → PreparesThen 67 hash old (λ between. ShrinksAt matches slots_without (Some pairs) removed between new)
        → LeavesPlace matches removed old.arrays new.arrays
    leaves_place pairs removed p = record {
      between = p.between.arrays;
      carried = prepared_moves hash old p.between p.prepared;
      left = left pairs removed p.between p.done;
    }

-- if nothing is removed
pub leaves_none : {K V : Type 0} (matches : K → Bool) (arrays : ArraysView K V) → LeavesPlace matches false arrays arrays
leaves_none matches arrays = record { between = arrays; carried = moves_on arrays arrays (kept_none arrays) (λ none. refl); left = refl }
