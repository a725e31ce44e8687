-- What is left of buckets after live pairs are changed or removed one by one.
use Rattle.bucket_table.proofs.Words.{All, All-from_recursion, ArraysView, Bool, BucketView, IsDistinct, IsDistinct-IsPermutation}
use Rattle.bucket_table.proofs.Words.{IsEntryHome, IsEquivalence, IsHome, IsOneMap, IsPermutation, IsPermutation-append_left}
use Rattle.bucket_table.proofs.Words.{IsPermutation-append_right, IsPermutation-map, IsPermutation-refl, IsPermutation-trans, List, MarksBy}
use Rattle.bucket_table.proofs.Words.{None, Option, Place, Side, Some, [], ap, append_assoc, arrays_with, bucket_at, bucket_on}
use Rattle.bucket_table.proofs.Words.{bucket_with_value, buckets_on, by-no_new, by-trans, cases_eq, empty_bucket, entries_in, false}
use Rattle.bucket_table.proofs.Words.{get_or-set_other, get_or-set_same, if◌then◌else◌, inl, inr, is_live, length, length-set}
use Rattle.bucket_table.proofs.Words.{live_from_pair, live_pair, map, map-append, map-entries_in, marks_in, no_new-refl, pairs_in, pairs_of}
use Rattle.bucket_table.proofs.Words.{recursion_from_All, refl, set, slot_in, slots_marked, slots_without, subst, sym, true, ℕ, ◌%◌, ◌++◌}
use Rattle.bucket_table.proofs.Words.{◌<◌, ◌==◌, ◌∙◌, ◌∷◌, ◌≡◌}
use Rattle.bucket_slots.proofs.PairsAfter.{entries_in-slots_without, rewritten}
use Rattle.bucket_slots.proofs.MarksAfter.{by-one, entries_in-slots_marked, marks_in-bucket_with_value, marks_in-slots_marked}
use Rattle.bucket_slots.proofs.MarksAfter.{marks_in-slots_without}
use Rattle.bucket_slots.proofs.RoomAfter.{killed-bucket_with_value, killed-slots_marked, killed-slots_without}
use Rattle.bucket_slots.specs.declared.bucket.TheConstants.{INDEX}
use Rattle.bucket_table.specs.Walking.Retains.{AreLeftOf, ChangesPairs, IsLeftOf, LosesKeys, slots_taken}
use Rattle.bucket_table.specs.Walking.Walks.{keys_in}
use Rattle.bucket_table.proofs.Map.LockedSteps.{pair_there}
use Rattle.bucket_table.proofs.Walking.Each.{all_permuted, each_back, each_implies, each_map, each_unmap}
use Rattle.bucket_table.proofs.Map.MapSteps.{splits}
use Rattle.bucket_table.proofs.Views.SideChanges.{IsChangeable, homes_on, placed_after}
use Rattle.std.proofs.lemmas.Map.Keys.{IsDistinct-tail}

pub distinct_behind : {K : Type 0} (eq : K → K → Bool) (xs ys : List K) → IsDistinct eq (xs ++ ys) → IsDistinct eq ys
distinct_behind eq [] ys h = h
distinct_behind eq (x ∷ xs) ys h = distinct_behind eq xs ys (IsDistinct-tail eq x (xs ++ ys) h)

abbrev own : {K : Type 0} → K × ℕ → K
own k = k.0

module _ {K V : Type 0} where
  abbrev pub key_of : (K × V) × ℕ → K × ℕ
  key_of entry = (entry.0.0, entry.1)

  abbrev key : K × V → K
  key p = p.0

  pub keys_same : (s : BucketView K V) → LosesKeys s s
  keys_same s = record { gone = []; keys = IsPermutation-refl (keys_in s); alive = refl }

  pub keys_both : (s t u : BucketView K V) → LosesKeys s t → LosesKeys t u → LosesKeys s u
  keys_both s t u one two = record {
    gone = one.gone ++ two.gone;
    keys = subst (IsPermutation (keys_in s)) (sym (append_assoc one.gone two.gone (keys_in u)))
        (IsPermutation-trans _ _ _ one.keys (IsPermutation-append_right one.gone _ _ two.keys));
    alive = two.alive ∙ one.alive;
  }

  -- an entry is removed
  pub keys_less : (s t : BucketView K V) (p : K × V) → t.killed ≡ s.killed
      → ((byte : ℕ) × IsPermutation (entries_in s) ((p, byte) ∷ entries_in t)) → LosesKeys s t
  keys_less s t p alive (byte, out) = record { gone = (p.0, byte) ∷ []; keys = IsPermutation-map key_of _ _ out; alive = alive }

  -- some entries are removed
  pub keys_parted : (s t : BucketView K V) (gone : List ((K × V) × ℕ)) → t.killed ≡ s.killed
      → IsPermutation (entries_in s) (gone ++ entries_in t) → LosesKeys s t
  keys_parted s t gone alive parts = record {
    gone = map key_of gone;
    keys = subst (IsPermutation (keys_in s)) (map-append key_of gone (entries_in t)) (IsPermutation-map key_of _ _ parts);
    alive = alive;
  }

  -- a value is replaced
  pub keys_valued : (s : BucketView K V) (at : Place) (p : K × V) (value : V) → live_pair (slot_in s at) ≡ Some p
      → LosesKeys s (bucket_with_value s at value)
  keys_valued s at p value here =
      let r = rewritten s at p value here in
      record {
        gone = [];
        keys = IsPermutation-trans _ _ _ (IsPermutation-map key_of _ _ r.before_is) (IsPermutation-map key_of _ _ r.after_is);
        alive = killed-bucket_with_value s at value;
      }

  keys_are : (es : List ((K × V) × ℕ)) → map key (map (λ (e : (K × V) × ℕ). e.0) es) ≡ map own (map key_of es)
  keys_are [] = refl
  keys_are (e ∷ es) = ap (λ ks. e.0.0 ∷ ks) (keys_are es)

  keys_of : (b : BucketView K V) (rest : List (K × V)) → map key (pairs_in b ++ rest) ≡ map own (keys_in b) ++ map key rest
  keys_of b rest =
      map-append key (pairs_in b) rest
      ∙ ap (λ ks. ks ++ map key rest) (ap (map key) (sym (map-entries_in b)) ∙ keys_are (entries_in b))

  -- those that are left have their home there
  pub homes_kept : (hash : K → ℕ) (n index : ℕ) (s t : BucketView K V) → LosesKeys s t
      → All (IsEntryHome hash n index) (entries_in s) → All (IsEntryHome hash n index) (entries_in t)
  homes_kept hash n index s t lost homes =
      let Own : K × ℕ → Type 0 = λ k. IsHome n (hash k.0) index × (k.1 ≡ hash k.0 % 256) in
      let of_keys = each_map Own key_of (entries_in s)
      (each_implies _ (λ e h. (h.home, h.own_byte)) (recursion_from_All (IsEntryHome hash n index) _ homes)) in
      let of_left = each_unmap Own key_of (entries_in t) (each_back _ lost.gone (keys_in t) (all_permuted _ lost.keys of_keys)) in
      All-from_recursion (IsEntryHome hash n index) (entries_in t)
      (each_implies _ (λ e h. record { home = h.0; own_byte = h.1 }) of_left)

  -- and the map is still one
  pub one_map_losing_on : (eq : K → K → Bool) → IsEquivalence eq → (hash : K → ℕ) (a : ArraysView K V) (side : Side) (i : ℕ)
      (left : BucketView K V) → IsOneMap eq hash a → IsChangeable a side i → LosesKeys (bucket_on a side i) left
      → IsOneMap eq hash (arrays_with a side i left)
  one_map_losing_on eq laws hash a side i left one changeable lost =
      let s = splits a side i left changeable.within in
      let rest : List (K × V) = pairs_of (arrays_with a side i empty_bucket) in
      let before : IsPermutation (map key (pairs_of a)) (map own (keys_in (bucket_on a side i)) ++ map key rest) =
      subst (IsPermutation (map key (pairs_of a))) (keys_of (bucket_on a side i) rest) (IsPermutation-map key _ _ s.before) in
      let keys : IsPermutation (map own (keys_in (bucket_on a side i))) (map own lost.gone ++ map own (keys_in left)) =
      subst (IsPermutation (map own (keys_in (bucket_on a side i)))) (map-append own lost.gone (keys_in left))
      (IsPermutation-map own _ _ lost.keys) in
      let parted : IsPermutation (map key (pairs_of a)) (map own lost.gone ++ (map own (keys_in left) ++ map key rest)) =
      subst (IsPermutation (map key (pairs_of a))) (append_assoc (map own lost.gone) (map own (keys_in left)) (map key rest))
      (IsPermutation-trans _ _ _ before (IsPermutation-append_left (map key rest) _ _ keys)) in
      let after : IsPermutation (map own (keys_in left) ++ map key rest) (map key (pairs_of (arrays_with a side i left))) =
      subst (λ ks. IsPermutation ks (map key (pairs_of (arrays_with a side i left)))) (keys_of left rest)
      (IsPermutation-map key _ _ s.after) in
      let all = IsPermutation-trans _ _ _ parted (IsPermutation-append_right (map own lost.gone) _ _ after) in
      record {
        distinct = distinct_behind eq (map own lost.gone) (map key (pairs_of (arrays_with a side i left)))
            (IsDistinct-IsPermutation eq laws.symm _ _ all one.distinct);
        placed = placed_after hash a side i left one.placed changeable
            (homes_kept hash (length (buckets_on a side)) i (bucket_on a side i) left lost
            (homes_on hash a side i one.placed changeable.within)) lost.alive;
      }

module _ {K V : Type 0} (kind epoch : ℕ) where
  -- some keys are removed, and only tombstones of the epoch are new
  abbrev Gone : BucketView K V → BucketView K V → Type 0
  Gone s t = LosesKeys s t × MarksBy epoch (marks_in s) (marks_in t)

  gone_both : (s t u : BucketView K V) → Gone s t → Gone t u → Gone s u
  gone_both s t u first second = (
    keys_both s t u first.0 second.0,
    by-trans epoch (marks_in s) (marks_in t) (marks_in u) first.1 second.1,
  )

  -- a pair is removed, or becomes a tombstone
  pub taken_out : (index : Bool) (s : BucketView K V) (at : Place) (p : K × V) → live_pair (slot_in s at) ≡ Some p
      → ((if index then slots_marked s at epoch else slots_without s at).killed ≡ s.killed)
      × ((byte : ℕ) × IsPermutation (entries_in s) ((p, byte) ∷ entries_in (if index then slots_marked s at epoch else slots_without s at)))
  taken_out true s at p here = (killed-slots_marked s at epoch, entries_in-slots_marked s at epoch p here)
  taken_out false s at p here = (killed-slots_without s at, entries_in-slots_without s at p here)

  marks_taken : (index : Bool) (s : BucketView K V) (at : Place) (p : K × V) → live_pair (slot_in s at) ≡ Some p
      → MarksBy epoch (marks_in s) (marks_in (if index then slots_marked s at epoch else slots_without s at))
  marks_taken true s at p here = by-one epoch p (marks_in s) (marks_in (slots_marked s at epoch)) (marks_in-slots_marked s at epoch p here)
  marks_taken false s at p here = by-no_new epoch (marks_in s) (marks_in (slots_without s at)) (marks_in-slots_without s at)

  gone_taken : (index : Bool) (s : BucketView K V) (at : Place) (p : K × V) → live_pair (slot_in s at) ≡ Some p
      → Gone s (if index then slots_marked s at epoch else slots_without s at)
  gone_taken index s at p here =
      let out = taken_out index s at p here in
      (keys_less s _ p out.0 out.1, marks_taken index s at p here)

  -- so it is after pairs are changed or removed one by one
  pub gone_changed : (changes : List (Place × Option V)) (s t : BucketView K V) → ChangesPairs kind epoch changes s t → Gone s t
  gone_changed [] s t same = rw same (keys_same s, by-no_new epoch (marks_in s) (marks_in s) (no_new-refl (marks_in s)))
  gone_changed ((at, Some value) ∷ changes) s t (alive, rest) =
      let (p, here) = pair_there s at alive in
      gone_both s (bucket_with_value s at value) t (
        keys_valued s at p value here,
        by-no_new epoch (marks_in s) (marks_in (bucket_with_value s at value)) (marks_in-bucket_with_value s at value p here),
      ) (gone_changed changes (bucket_with_value s at value) t rest)
  gone_changed ((at, None) ∷ changes) s t (alive, rest) =
      let (p, here) = pair_there s at alive in
      gone_both s (slots_taken kind epoch s at) t (gone_taken (kind == INDEX) s at p here)
      (gone_changed changes (slots_taken kind epoch s at) t rest)

  pub left_same : (s : BucketView K V) → IsLeftOf kind epoch s s
  left_same s = ([], refl)

  changes_both : (xs ys : List (Place × Option V)) (s t u : BucketView K V) → ChangesPairs kind epoch xs s t
      → ChangesPairs kind epoch ys t u → ChangesPairs kind epoch (xs ++ ys) s u
  changes_both [] ys s t u is more = subst (λ (b : BucketView K V). ChangesPairs kind epoch ys b u) is more
  changes_both ((at, Some value) ∷ xs) ys s t u (alive, rest) more =
      (alive, changes_both xs ys (bucket_with_value s at value) t u rest more)
  changes_both ((at, None) ∷ xs) ys s t u (alive, rest) more = (alive, changes_both xs ys (slots_taken kind epoch s at) t u rest more)

  pub left_both : (s t u : BucketView K V) → IsLeftOf kind epoch s t → IsLeftOf kind epoch t u → IsLeftOf kind epoch s u
  left_both s t u (xs, first) (ys, second) = (xs ++ ys, changes_both xs ys s t u first second)

  -- a value is written
  pub left_written : (s : BucketView K V) (at : Place) (p : K × V) (value : V) → live_pair (slot_in s at) ≡ Some p
      → IsLeftOf kind epoch s (bucket_with_value s at value)
  left_written s at p value here = ((at, Some value) ∷ [], (live_from_pair (slot_in s at) p here, refl))

  -- a pair is taken
  pub left_taken : (s t : BucketView K V) (at : Place) → is_live (slot_in s at) ≡ true → t ≡ slots_taken kind epoch s at
      → IsLeftOf kind epoch s t
  left_taken s t at alive is = ((at, None) ∷ [], (alive, is))

  pub all_left_same : (bs : List (BucketView K V)) → AreLeftOf kind epoch bs bs
  all_left_same bs = record { len = refl; each = λ i. left_same (bucket_at bs i) }

  pub all_left_both : (bs cs ds : List (BucketView K V)) → AreLeftOf kind epoch bs cs → AreLeftOf kind epoch cs ds
      → AreLeftOf kind epoch bs ds
  all_left_both bs cs ds first second = record {
    len = second.len ∙ first.len;
    each = λ i. left_both (bucket_at bs i) (bucket_at cs i) (bucket_at ds i) (first.each i) (second.each i);
  }

  -- what is left of one bucket
  pub all_left_at : (bs : List (BucketView K V)) (i : ℕ) (left : BucketView K V) → i < length bs → IsLeftOf kind epoch (bucket_at bs i) left
      → AreLeftOf kind epoch bs (set bs i left)
  all_left_at bs i left within one = record {
    len = length-set bs i left;
    each = λ j. elim (cases_eq j i) [
      | inl same ↦ rw (same, get_or-set_same bs i left empty_bucket within) one
      | inr apart ↦ rw (get_or-set_other bs i j left empty_bucket apart) (left_same (bucket_at bs j))
    ];
  }
