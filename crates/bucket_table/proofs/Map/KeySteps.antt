-- What a call by key finds in a table, and which tombstones it adds.
use Rattle.bucket_table.proofs.Words.{ArePlaced, ArraysView, Bool, BucketView, Contains-permutation, HasNoNewMark, IfNone, IsAbsent, IsHome}
use Rattle.bucket_table.proofs.Words.{IsPermutation, List, MarksBy, None, Option, Place, Side, Some, ℕ, ap, arrays_with, bucket_at}
use Rattle.bucket_table.proofs.Words.{bucket_on, buckets_on, by-no_new, by-trans, home_bucket, length, length-set, marks_in, tombstones_of}
use Rattle.bucket_table.proofs.Words.{pairs_of, slots_touched, subst, true, ◌%◌, ◌<◌, ◌∙◌, ◌≡◌}
use Rattle.bucket_slots.specs.Searching.{pair_matched, place_matched}
use Rattle.bucket_table.specs.Map.ByKey.{StandsAt}
use Rattle.bucket_slots.specs.BucketView.{pair_at}
use Rattle.bucket_table.proofs.Map.LookUps.{home_bucket-is, searched_found, unmatched_from_homes}
use Rattle.bucket_table.proofs.Map.LockedSteps.{put_there}
use Rattle.bucket_table.proofs.Views.MarksKept.{by-bucket}
use Rattle.bucket_table.proofs.Views.SideChanges.{buckets_on-arrays_with}

module _ {K V : Type 0} where
  -- what a search of one side's home finds
  pub stands_found : (matches : K → Bool) (arrays : ArraysView K V) (side : Side) (array : List (BucketView K V))
      (b : BucketView K V) (byte index : ℕ) (at : Place)
      → array ≡ buckets_on arrays side → b ≡ bucket_at array index → index < length array
      → place_matched matches byte b ≡ Some at → StandsAt matches arrays side index at
  stands_found matches arrays side array b byte index at is lent within found =
      let r = searched_found matches arrays side b byte index at
      (lent ∙ ap (λ (bs : List (BucketView K V)). bucket_at bs index) is) found in
      record { pair = r.0; within = subst (λ (bs : List (BucketView K V)). index < length bs) is within; slot = r.1; there = r.2 }

  -- and so it does after the slot is touched
  pub stands_touched : (matches : K → Bool) (arrays : ArraysView K V) (side : Side) (index : ℕ) (at : Place) (keeps : Bool)
      → StandsAt matches arrays side index at
      → IsPermutation (pairs_of arrays) (pairs_of (arrays_with arrays side index (slots_touched keeps (bucket_on arrays side index) at)))
      → StandsAt matches (arrays_with arrays side index (slots_touched keeps (bucket_on arrays side index) at)) side index at
  stands_touched matches arrays side index at keeps stands moved =
      let b = slots_touched keeps (bucket_on arrays side index) at in
      record {
        pair = stands.pair;
        within = rw (buckets_on-arrays_with arrays side index b, length-set) stands.within;
        slot = rw (put_there arrays side index b stands.within) stands.slot;
        there = (
          Contains-permutation (pairs_of arrays) (pairs_of (arrays_with arrays side index b)) stands.pair moved stands.there.0,
          stands.there.1,
        );
      }

  -- and if it finds nothing
  pub none_at_home : (matches : K → Bool) (arrays : ArraysView K V) (side : Side) (array : List (BucketView K V)) (b : BucketView K V)
      (n index : ℕ)
      → array ≡ buckets_on arrays side → b ≡ bucket_at array index → IsHome (length array) n index
      → place_matched matches (n % 256) b ≡ None → pair_matched matches (n % 256) (home_bucket n (buckets_on arrays side)) ≡ None
  none_at_home matches arrays side array b n index is lent home none =
      subst (λ (bs : List (BucketView K V)). pair_matched matches (n % 256) (home_bucket n bs) ≡ None) is
      (rw (← home_bucket-is array n index home, ← lent) (ap (λ at. pair_at b at) none))

module _ {K V : Type 0} (matches : K → Bool) (hash : K → ℕ) where
  -- neither home has a matching key, so the map has none
  pub absent_searched : {S : Type 0} (n : ℕ) (arrays : ArraysView K V) (r : Option S) (later : K → Bool) → ArePlaced hash arrays
      → ((own : K) → matches own ≡ true → hash own ≡ n) → later ≡ matches
      → pair_matched matches (n % 256) (home_bucket n arrays.linked) ≡ None
      → IfNone r (pair_matched later (n % 256) (home_bucket n arrays.current) ≡ None) → IfNone r (IsAbsent matches (pairs_of arrays))
  absent_searched n arrays (Some x) later placed own same in_old in_current = tt
  absent_searched n arrays None later placed own same in_old in_current = unmatched_from_homes matches n hash own arrays placed in_old
      (subst (λ (test : K → Bool). pair_matched test (n % 256) (home_bucket n arrays.current) ≡ None) same in_current)

module _ {K V : Type 0} (epoch : ℕ) where
  -- only tombstones of an epoch were added to a bucket, and later steps added none
  pub marks_through : (a : ArraysView K V) (side : Side) (i : ℕ) (c : BucketView K V) (new : ArraysView K V)
      → MarksBy epoch (marks_in (bucket_on a side i)) (marks_in c)
      → HasNoNewMark (tombstones_of (arrays_with a side i c)) (tombstones_of new) → MarksBy epoch (tombstones_of a) (tombstones_of new)
  marks_through a side i c new here none = by-trans epoch (tombstones_of a) (tombstones_of (arrays_with a side i c)) (tombstones_of new)
      (by-bucket epoch a side i c here) (by-no_new epoch (tombstones_of (arrays_with a side i c)) (tombstones_of new) none)
