-- What look-ups in two arrays show of their map.
use Rattle.bucket_table.proofs.Words.{All, All-append, All-map, All-nil, AreHome, ArePlaced, AreTwoArrays, ArraysView, Bool, BucketView}
use Rattle.bucket_table.proofs.Words.{Contains, Contains-append_left, Contains-append_right, Current, IfNone, IfSome, IsAbsent, IsEntryHome}
use Rattle.bucket_table.proofs.Words.{IsHome, IsInInterval, IsLocked, IsOneMap, IsThere, IsTrue, IsVacant, List, Meets, None, Old, Option}
use Rattle.bucket_table.proofs.Words.{Place, Side, Some, ℕ, [], all_slots, ap, arith, bucket_at, bucket_on, buckets_on, cases_eq}
use Rattle.bucket_table.proofs.Words.{entries_among, entries_in, false, false≢true, get_or, home_bucket, home_of, inl, inr, length}
use Rattle.bucket_table.proofs.Words.{live_pair, map, map-append, map-entries_in, pairs_in, pairs_in_all, pairs_of, refl, slot_in, subst}
use Rattle.bucket_table.proofs.Words.{suc, sym, true, zero, ◌%◌, ◌&&◌, ◌++◌, ◌<◌, ◌==◌, ◌∙◌, ◌∷◌, ◌≡◌}
use Rattle.bucket_slots.specs.Searching.{pair_matched, place_matched}
use Rattle.std.proofs.lemmas.Bool.Decides.{nat_tests}
use Rattle.std.specs.Borrow.{Bor}
use Rattle.std.specs.Option.{option_or}
use Rattle.bucket_slots.proofs.Entries.{live_pairs-all_free}
use Rattle.bucket_slots.proofs.SearchedPairs.{found_pair, none_matched_is, matched_is}
use Rattle.bucket_slots.specs.BucketView.{pair_at}
use Rattle.bucket_slots.specs.Places.{pair_lent}
use Rattle.bucket_slots.specs.declared.bucket.TheConstants.{BUCKET_LEN}
use Rattle.bucket_table.specs.Map.LookingUp.{lent_buckets, pair_looked_up}
use Rattle.bucket_table.proofs.Moves.HomesByDivision.{home_of-interval}

-- a pointer that isn't valid is a null pointer
pub null_is : (valid : Bool) (pos : ℕ) → ((pos ≡ BUCKET_LEN → ⊥) → IsTrue valid) → valid ≡ false → pos ≡ BUCKET_LEN
null_is valid pos points is = elim (cases_eq pos BUCKET_LEN) [
  | inl null ↦ null
  | inr other ↦ let yes : valid ≡ true = points other in absurd cc
]

module _ {K V : Type 0} where
  -- what holds in each bucket holds of all pairs
  All-pairs_in_all : (P : K × V → Type 0) (bs : List (BucketView K V)) → ((i : ℕ) → i < length bs → All P (pairs_in (bucket_at bs i)))
      → All P (pairs_in_all bs)
  All-pairs_in_all P [] each = All-nil P
  All-pairs_in_all P (b ∷ bs) each = All-append P (pairs_in b) (pairs_in_all bs) (each 0 (omega arith))
      (All-pairs_in_all P bs (λ i below. each (suc i) (omega arith)))

  -- what is in one bucket is among all pairs
  Contains-pairs_in_all : (bs : List (BucketView K V)) (i : ℕ) (p : K × V) → Contains (pairs_in (bucket_at bs i)) p
      → Contains (pairs_in_all bs) p
  Contains-pairs_in_all [] i p here = here
  Contains-pairs_in_all (b ∷ bs) zero p here = Contains-append_left (pairs_in b) (pairs_in_all bs) p here
  Contains-pairs_in_all (b ∷ bs) (suc i) p here = Contains-append_right (pairs_in b) (pairs_in_all bs) p (Contains-pairs_in_all bs i p here)

  -- all pairs, with bytes or without
  pairs_among : (bs : List (BucketView K V)) → map (λ (e : (K × V) × ℕ). e.0) (entries_among bs) ≡ pairs_in_all bs
  pairs_among [] = refl
  pairs_among (b ∷ bs) = map-append (λ (e : (K × V) × ℕ). e.0) (entries_in b) (entries_among bs) ∙ rw
      (map-entries_in b, pairs_among bs) refl

  pub pairs_are : (arrays : ArraysView K V) → pairs_of arrays ≡ pairs_in_all arrays.current ++ pairs_in_all arrays.linked
  pairs_are arrays = map-append (λ (e : (K × V) × ℕ). e.0) (entries_among arrays.current) (entries_among arrays.linked)
      ∙ rw (pairs_among arrays.current, pairs_among arrays.linked) refl

  pub pairs_in-vacant : (b : BucketView K V) → IsVacant b → pairs_in b ≡ []
  pairs_in-vacant b vacant = live_pairs-all_free (all_slots b) vacant.free

  -- the bucket at the index of a hash's home is its home bucket
  pub home_bucket-is : (bs : List (BucketView K V)) (n i : ℕ) → IsHome (length bs) n i → bucket_at bs i ≡ home_bucket n bs
  home_bucket-is bs n i at = ap (λ j. bucket_at bs j) (sym (home_of-interval (length bs) i n at.own))

module _ {K V : Type 0} (matches : K → Bool) where
  -- a matching pair of one side is one of the map
  matched_on : (arrays : ArraysView K V) (side : Side) (p : K × V) → IsThere matches (pairs_in_all (buckets_on arrays side)) p
      → IsThere matches (pairs_of arrays) p
  matched_on arrays Old p (there, is) = (rw (pairs_are arrays) (Contains-append_right (pairs_in_all arrays.current) _ p there), is)
  matched_on arrays Current p (there, is) = (rw (pairs_are arrays) (Contains-append_left _ (pairs_in_all arrays.linked) p there), is)

  -- if neither side has one, the map has none
  unmatched_on_both : (arrays : ArraysView K V) → IsAbsent matches (pairs_in_all arrays.current)
      → IsAbsent matches (pairs_in_all arrays.linked) → IsAbsent matches (pairs_of arrays)
  unmatched_on_both arrays current old = rw (pairs_are arrays) (All-append (λ (p : K × V). matches p.0 ≡ false) _ _ current old)

  unmatched_entries : (b : BucketView K V) → All (λ (e : (K × V) × ℕ). matches e.0.0 ≡ false) (entries_in b) → IsAbsent matches (pairs_in b)
  unmatched_entries b each = rw (← map-entries_in b) (All-map (λ (p : K × V). matches p.0 ≡ false) (λ (e : (K × V) × ℕ). e.0)
      (entries_in b) each)

  none_unmatched : (b : BucketView K V) → pairs_in b ≡ [] → IsAbsent matches (pairs_in b)
  none_unmatched b none = rw none (All-nil (λ (p : K × V). matches p.0 ≡ false))

  -- what a search of a bucket of one side finds
  pub searched_found : (arrays : ArraysView K V) (side : Side) (b : BucketView K V) (byte index : ℕ) (at : Place)
      → b ≡ bucket_on arrays side index → place_matched matches byte b ≡ Some at
      → (p : K × V) × (live_pair (slot_in (bucket_on arrays side index) at) ≡ Some p) × IsThere matches (pairs_of arrays) p
  searched_found arrays side b byte index at lent found = rw (← lent) (
      let (p, is) = found_pair matches byte b at found in
      let there = Contains-pairs_in_all (buckets_on arrays side) index p (rw (← lent) is.contained) in
      (p, is.slot, matched_on arrays side p (there, is.wanted)))

  -- what a search of one side's home finds
  found_at_home : (n : ℕ) (arrays : ArraysView K V) (side : Side) (p : K × V)
      → pair_matched matches (n % 256) (home_bucket n (buckets_on arrays side)) ≡ Some p → IsThere matches (pairs_of arrays) p
  found_at_home n arrays side p found =
      let (there, is) = matched_is matches (n % 256) (home_bucket n (buckets_on arrays side)) p found in
      matched_on arrays side p (Contains-pairs_in_all (buckets_on arrays side) _ p there, is)

  -- if the old home has no matching pair, the result is that of the current home
  pub second_home : (n : ℕ) (own : K → Bool) (old : Option (Bor (List (BucketView K V)))) (array : Bor (List (BucketView K V)))
      (current : List (BucketView K V)) (r : Option (Bor K × Bor V)) → old ≡ Some array → own ≡ matches
      → None ≡ pair_matched matches (n % 256) (home_bucket n array.now) → pair_lent r ≡ pair_matched own (n % 256) (home_bucket n current)
      → pair_lent r ≡ pair_looked_up matches n (lent_buckets old) current
  second_home n own old array current r is same missed found = found ∙ ap (λ w. pair_matched w (n % 256) (home_bucket n current)) same
      ∙ ap (λ p. option_or p (pair_matched matches (n % 256) (home_bucket n current))) missed
      ∙ ap (λ a. pair_looked_up matches n (lent_buckets a) current) (sym is)

module _ {K V : Type 0} (matches : K → Bool) (n : ℕ) (hash : K → ℕ) (own : (key : K)
    → matches key ≡ true → hash key ≡ n) where
  unmatched_entry : (e : (K × V) × ℕ) (len i : ℕ) (wanted : Bool) → matches e.0.0 ≡ wanted → IsEntryHome hash len i e
      → (home_of len n ≡ i → ((e.1 == n % 256) && matches e.0.0) ≡ false) → matches e.0.0 ≡ false
  unmatched_entry e len i false is at none = is
  unmatched_entry e len i true is at none =
      let of_hash : hash e.0.0 ≡ n = own e.0.0 is in
      let here : (e.1 == n % 256) ≡ true = rw (at.own_byte ∙ ap (λ x. x % 256) of_hash) (grind (arith, nat_tests)) in
      let both : ((e.1 == n % 256) && matches e.0.0) ≡ true = rw (here, is) refl in
      let no = none (home_of-interval len i n (subst (λ x. IsInInterval len i x) of_hash
      at.home.own)) in
      absurd cc

  -- if a hash's home has no matching pair, no bucket of the array has one
  unmatched_from_home : (bs : List (BucketView K V)) → AreHome hash bs → pair_matched matches (n % 256) (home_bucket n bs) ≡ None
      → IsAbsent matches (pairs_in_all bs)
  unmatched_from_home bs all none = All-pairs_in_all (λ (p : K × V). matches p.0 ≡ false) bs
      (λ i below. unmatched_entries matches (bucket_at bs i) (λ j d less.
      let e : (K × V) × ℕ = get_or (entries_in (bucket_at bs i)) j d in
      unmatched_entry e (length bs) i (matches e.0.0) refl (all i below j d less) (λ same.
      subst (λ k. All (λ (x : (K × V) × ℕ). ((x.1 == n % 256) && matches x.0.0) ≡ false) (entries_in (bucket_at bs k))) same
      (none_matched_is matches (n % 256) (home_bucket n bs) none) j d less)))

  -- if neither home has a matching pair, the map has none
  pub unmatched_from_homes : (arrays : ArraysView K V) → ArePlaced hash arrays
      → pair_matched matches (n % 256) (home_bucket n arrays.linked) ≡ None → pair_matched matches (n % 256) (home_bucket n arrays.current)
      ≡ None
      → IsAbsent matches (pairs_of arrays)
  unmatched_from_homes arrays law in_old in_current =
      unmatched_on_both matches arrays (unmatched_from_home arrays.current law.homes.current_home in_current)
      (unmatched_from_home arrays.linked law.homes.linked_home in_old)

  looked_up_by : (arrays : ArraysView K V) (r : Option (Bor K × Bor V)) (old current : Option (K × V)) → ArePlaced hash arrays
      → pair_matched matches (n % 256) (home_bucket n arrays.linked) ≡ old
      → pair_matched matches (n % 256) (home_bucket n arrays.current) ≡ current → pair_lent r ≡ option_or old current
      → IfSome r (λ pair. IsThere matches (pairs_of arrays) (pair.0.now, pair.1.now)) × IfNone r (IsAbsent matches (pairs_of arrays))
  looked_up_by arrays None None None law in_old in_current found = (tt, unmatched_from_homes arrays law in_old in_current)
  looked_up_by arrays None None (Some p) law in_old in_current found = cc
  looked_up_by arrays None (Some p) current law in_old in_current found = cc
  looked_up_by arrays (Some pair) None current law in_old in_current found =
      (found_at_home matches n arrays Current (pair.0.now, pair.1.now) (in_current ∙ sym found), tt)
  looked_up_by arrays (Some pair) (Some p) current law in_old in_current found =
      (found_at_home matches n arrays Old (pair.0.now, pair.1.now) (in_old ∙ sym found), tt)

  foreign : (e : (K × V) × ℕ) (len i c index : ℕ) (wanted : Bool) → matches e.0.0 ≡ wanted → IsEntryHome hash len i e → IsHome c n index
      → (Meets len i c index → ⊥) → matches e.0.0 ≡ false
  foreign e len i c index false is home at apart = is
  foreign e len i c index true is home at apart = absurd (apart (n, subst (λ x. IsInInterval len i x) (own e.0.0 is) home.home.own, at.own))

  none_in : (l : List (BucketView K V)) (i c index : ℕ) (killed : Bool) → (bucket_at l i).killed ≡ killed → i < length l → AreHome hash l
      → IsHome c n index → ((bucket_at l i).killed ≡ true → pairs_in (bucket_at l i) ≡ [])
      → (Meets (length l) i c index → (bucket_at l i).killed ≡ true) → IsAbsent matches (pairs_in (bucket_at l i))
  none_in l i c index true is below all at empty dead = none_unmatched matches (bucket_at l i) (empty is)
  none_in l i c index false is below all at empty dead = unmatched_entries matches (bucket_at l i) (λ j d less.
      let e : (K × V) × ℕ = get_or (entries_in (bucket_at l i)) j d in
      foreign e (length l) i c index (matches e.0.0) refl (all i below j d less) at (λ meets. false≢true (sym is ∙ dead meets)))

  -- if each source of a current home is killed, the old array has no pair of the hash
  pub unmatched_from_sources : (c l : List (BucketView K V)) (index : ℕ) → AreTwoArrays hash c l → IsHome (length c) n index
      → ((i : ℕ) → i < length l → Meets (length l) i (length c) index → (bucket_at l i).killed ≡ true) → IsAbsent matches (pairs_in_all l)
  unmatched_from_sources c l index law at dead = All-pairs_in_all (λ (p : K × V). matches p.0 ≡ false) l (λ i below.
      none_in l i (length c) index (bucket_at l i).killed refl below law.linked_home at (law.killed_empty i below) (dead i below))

  -- if the home of a locked bucket's side has no matching pair, the map has none
  absent_on : (arrays : ArraysView K V) (side : Side) (index : ℕ) → ArePlaced hash arrays → IsLocked arrays side index
      → IsHome (length (buckets_on arrays side)) n index → pair_matched matches (n % 256) (home_bucket n (buckets_on arrays side)) ≡ None
      → IsAbsent matches (pairs_of arrays)
  absent_on arrays Old index law locked home none = unmatched_on_both matches arrays
      (All-pairs_in_all (λ (p : K × V). matches p.0 ≡ false) arrays.current (λ i below.
      let b = bucket_at arrays.current i in none_unmatched matches b (pairs_in-vacant b (locked.vacant refl i below))))
      (unmatched_from_home arrays.linked law.homes.linked_home none)
  absent_on arrays Current index law locked home none =
      unmatched_on_both matches arrays (unmatched_from_home arrays.current law.homes.current_home none)
      (unmatched_from_sources arrays.current arrays.linked index law.homes home (locked.killed refl))

  -- what a search of a locked bucket shows if it finds nothing
  pub searched_absent : (arrays : ArraysView K V) (side : Side) (b : BucketView K V) (index : ℕ) → ArePlaced hash arrays
      → IsLocked arrays side index → IsHome (length (buckets_on arrays side)) n index → b ≡ bucket_on arrays side index
      → place_matched matches (n % 256) b ≡ None → IsAbsent matches (pairs_of arrays)
  searched_absent arrays side b index law locked home lent none =
      let at_home = home_bucket-is (buckets_on arrays side) n index home in
      absent_on arrays side index law locked home (rw (← at_home, ← lent) (ap (λ at. pair_at b at) none))

module _ {K V : Type 0} where
  -- what a look-up in both homes shows of the map
  pub looked_up : (eq : K → K → Bool) (hash : K → ℕ) (matches : K → Bool) (n : ℕ) (r : Option (Bor K × Bor V)) (a : ArraysView K V)
      → IsOneMap eq hash a → ((key : K) → matches key ≡ true → hash key ≡ n) → pair_lent r ≡ pair_looked_up matches n a.linked a.current
      → IfSome r (λ pair. IsThere matches (pairs_of a) (pair.0.now, pair.1.now)) × IfNone r (IsAbsent matches (pairs_of a))
  looked_up eq hash matches n r a one own found = looked_up_by matches n hash own a r _ _ one.placed refl refl found
