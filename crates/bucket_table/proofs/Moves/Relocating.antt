-- An old bucket whose pairs have moved to their homes, and the law of two arrays after that.
use Rattle.bucket_table.proofs.Words.{All, All-map, All-nil, AreHome, AreTwoArrays, BucketView, IsBucketOf, IsEntryHome, IsInRange}
use Rattle.bucket_table.proofs.Words.{IsLength, IsPermutation, IsPermutation-append_left, IsPermutation-append_right, IsPermutation-refl}
use Rattle.bucket_table.proofs.Words.{IsPermutation-trans, IsVacant, KeepsEntries, List, Meets, MovesInto, OnOk, Result, ℕ, [], ap, append-nil, arith}
use Rattle.bucket_table.proofs.Words.{bucket_at, cases_eq, empty_bucket, entries_among, entries_in, false, get_or, home_of, inl, inr}
use Rattle.bucket_table.proofs.Words.{interval_width, length, map-entries_in, marks_among, no_new-refl, pairs_in, refl, rotated, scales}
use Rattle.bucket_table.proofs.Words.{set, set-get_or, subst, sym, true, true≢false, ◌++◌, ◌/◌, ◌<◌, ◌↔◌, ◌∙◌, ◌≡◌, ◌≤◌}
use Rattle.bucket_table.specs.Layout.Moving.{AreTargets, CanMoveInto, HasOwnByte, IsBound}
use Rattle.std.proofs.Common.{append_assoc}
use Rattle.bucket_slots.proofs.ArrayNumbers.{one_source}
use Rattle.bucket_slots.proofs.MarksAfter.{marks_in-slots_killed}
use Rattle.bucket_slots.proofs.RoomAfter.{pairs_in-slots_killed}
use Rattle.bucket_slots.specs.Moving.{slots_killed}
use Rattle.bucket_table.specs.Rehash.Relocation.{HasRoomFor, IsRelocated, KeepsOthers}
use Rattle.bucket_table.proofs.Moves.Exchanges.{ChangesAt, changes_at, each_after, exchanged}
use Rattle.bucket_table.proofs.Moves.HomesByDivision.{in_interval, some_width}
use Rattle.bucket_table.proofs.Moves.MarksLeft.{marks_in-killed}
use Rattle.bucket_table.proofs.Views.Killed.{no_entries}
use Rattle.bucket_table.proofs.Views.MarksKept.{all_alike, marks_among-kept, marks_moved}
use Rattle.bucket_table.proofs.Moves.RoomMade.{homed_few, homed_none, on_ok, room_in_range, vacant_len}

-- the law of each old bucket has one source of each current one
pub other_target : (from to i index j : ℕ) → IsLength from → IsLength to → from ≤ to → j < to → i < from → index < from → (i ≡ index → ⊥)
    → Meets from i to j → Meets from index to j → ⊥
other_target from to i index j from_long to_long le below i_below index_below apart one two =
    let parts = one_source from to (to / from) j (scales from to from_long.power to_long.power le (omega (arith, to_long.at_most))) below in
    apart ((parts.2 i i_below).0 one ∙ sym ((parts.2 index index_below).0 two))

module _ {K V : Type 0} where
  pub entries_alike : (c d : List (BucketView K V)) → length d ≡ length c
      → ((i : ℕ) → entries_in (bucket_at d i) ≡ entries_in (bucket_at c i)) → entries_among d ≡ entries_among c
  entries_alike c d long each = all_alike entries_in entries_among refl (λ x xs. refl) empty_bucket c d long each

  pub entries_among-kept : (c d : List (BucketView K V)) → KeepsEntries c d → entries_among d ≡ entries_among c
  entries_among-kept c d kept = entries_alike c d kept.len kept.entries

  module _ (hash : K → ℕ) where
    -- the homes of an old bucket's pairs are its targets
    pub homes_in_range : (from to index start end : ℕ) (s : BucketView K V) → 0 < interval_width to
        → ((j : ℕ) → IsInRange start end j ↔ Meets from index to j) → All (IsEntryHome hash from index) (entries_in s)
        → All (λ (p : K × V). IsInRange start end (home_of to (hash p.0))) (pairs_in s)
    homes_in_range from to index start end s some range homes = rw (← map-entries_in s)
        (All-map (λ (p : K × V). IsInRange start end (home_of to (hash p.0))) (λ (e : (K × V) × ℕ). e.0) (entries_in s) (λ k d below.
        let number = hash (get_or (entries_in s) k d).0.0 in
        (range (home_of to number)).1 (number, (homes k d below).home.own, in_interval to number some)))

    pub own_bytes : (from index : ℕ) (s : BucketView K V)
        → All (IsEntryHome hash from index) (entries_in s) → All (HasOwnByte hash) (entries_in s)
    own_bytes from index s homes = λ k d below. (homes k d below).own_byte

    pub homes_kept : (c d : List (BucketView K V)) → KeepsEntries c d → AreHome hash c → AreHome hash d
    homes_kept c d kept homes i within = rw (kept.len, kept.entries i) (homes i (omega (arith, kept.len)))

    -- a bucket that is lent is bound as before
    pub bound_lent : {from start end : ℕ} {s b : BucketView K V} {c : List (BucketView K V)} → s ≡ b → IsBound hash from start end b c
        → IsBound hash from start end s c
    bound_lent same bound = rw same bound

    -- the pairs of a bucket that is bound have room in empty buckets, if there are at most 32
    pub ready_unreserved : {from start end : ℕ} {s : BucketView K V} {c : List (BucketView K V)} → IsBound hash from start end s c
        → from ≤ length c → length (pairs_in s) ≤ 32 → CanMoveInto hash start end s c
    ready_unreserved {start} {end} {s} {c} bound le few = record {
      within = bound.within;
      in_range = bound.in_range;
      own_bytes = bound.own_bytes;
      homes = bound.homes;
      room = room_in_range hash c start end (pairs_in s) bound.in_range (λ j inside.
          omega (arith, vacant_len (bucket_at c j) (bound.vacant le j inside), homed_few hash (length c) j (pairs_in s), few));
      alive = bound.alive;
    }

    -- or where it was made
    pub ready_reserved : {A E : Type 0} (r : Result A E) {from start end : ℕ} {s : BucketView K V} {c d : List (BucketView K V)}
        → IsBound hash from start end s c → KeepsEntries c d → OnOk r (HasRoomFor hash d (pairs_in s))
        → OnOk r (CanMoveInto hash start end s d)
    ready_reserved r {s} {c} {d} bound kept room = on_ok r (λ made. record {
      within = omega (arith, bound.within, kept.len);
      in_range = rw kept.len bound.in_range;
      own_bytes = bound.own_bytes;
      homes = homes_kept c d kept bound.homes;
      room = made;
      alive = λ j below. kept.alive j ∙ bound.alive j (omega (arith, below, kept.len));
    }) room

    -- room was made, and the law still holds
    pub law_kept : (c d l : List (BucketView K V)) → KeepsEntries c d → AreTwoArrays hash c l → AreTwoArrays hash d l
    law_kept c d l kept law = record {
      current_home = homes_kept c d kept law.current_home;
      linked_home = law.linked_home;
      alive = λ j below. kept.alive j ∙ law.alive j (omega (arith, kept.len));
      killed_empty = law.killed_empty;
      empty_targets = λ le i j i_below j_below alive meets. kept.vacant j
          (law.empty_targets (omega (arith, kept.len)) i j i_below (omega (arith, kept.len)) alive
          (subst (λ (n : ℕ). Meets (length l) i n j) kept.len meets));
    }

    -- the bucket was killed already
    pub nothing_moved : (c l : List (BucketView K V)) (index : ℕ) → AreTwoArrays hash c l → index < length l
        → (bucket_at l index).killed ≡ true → IsRelocated index c l c l
    nothing_moved c l index law within killed = record {
      killed = killed;
      empty = law.killed_empty index within killed;
      entries = IsPermutation-refl (entries_among c ++ entries_among l);
      marks = no_new-refl (marks_among c ++ marks_among l);
      same_marks = refl;
      again = λ dead. (refl, refl);
      current_len = refl;
      linked_len = refl;
      other_linked = λ i apart. refl;
      other_current = λ j out. refl;
    }

    -- the pairs of bucket `index` have moved into c2, after room was made in c1, and the bucket is killed
    module _ {kind index start end : ℕ} {c0 c1 c2 l0 l2 : List (BucketView K V)} {left : BucketView K V}
        (targets : AreTargets hash c0 l0 index start end) (kept : KeepsEntries c0 c1) (others : KeepsOthers start end c0 c1)
        (moved : MovesInto hash (bucket_at l0 index) c1 left c2) (homes : AreHome hash c2) (emptied : pairs_in left ≡ [])
        (laws : IsBucketOf kind (bucket_at l0 index)) (alive : (bucket_at l0 index).killed ≡ false)
        (l2_is : l2 ≡ set l0 index (slots_killed kind left)) where
      abbrev law : AreTwoArrays hash c0 l0
      law = targets.law

      in_range : All (λ (p : K × V). IsInRange start end (home_of (length c0) (hash p.0))) (pairs_in (bucket_at l0 index))
      in_range = homes_in_range (length l0) (length c0) index start end (bucket_at l0 index) (some_width (length c0) targets.current_long)
          targets.range (law.linked_home index targets.within)

      put : ChangesAt index (slots_killed kind left) l0 l2
      put = rw l2_is (changes_at index (slots_killed kind left) l0 targets.within)

      same_bucket : (j : ℕ) → (Meets (length l0) index (length c0) j → ⊥) → bucket_at c2 j ≡ bucket_at c0 j
      same_bucket j out =
          let outside : IsInRange start end j → ⊥ = λ r. out ((targets.range j).0 r) in
          let none = homed_none hash (length c0) start end j (pairs_in (bucket_at l0 index)) in_range outside in
          moved.others j (rw kept.len none) ∙ others j outside

      entries_moved : IsPermutation (entries_among c0 ++ entries_among l0) (entries_among c2 ++ entries_among l2)
      entries_moved =
          let source = entries_in (bucket_at l0 index) in
          let a = entries_among c0 in
          let b = entries_among l2 in
          let none : entries_in (slots_killed kind left) ≡ [] = no_entries (slots_killed kind left)
          (pairs_in-slots_killed kind left emptied) in
          let whole : IsPermutation source (source ++ entries_in (slots_killed kind left)) =
          rw (none, append-nil) (IsPermutation-refl source) in
          let taken : IsPermutation (entries_among l0) (source ++ b) = rw l2_is
          (exchanged [] source l0 index (slots_killed kind left) targets.within whole) in
          let put_in : IsPermutation (source ++ a) (entries_among c2) = rw (no_entries left emptied) at
          (rw (entries_among-kept c0 c1 kept) at moved.entries) in
          let regroup : source ++ (a ++ b) ≡ (source ++ a) ++ b = sym (append_assoc source a b) in
          IsPermutation-trans _ _ _ (IsPermutation-append_right a _ _ taken)
          (IsPermutation-trans _ _ _ (rotated a source b) (rw regroup (IsPermutation-append_left b _ _ put_in)))

      pub relocated : IsRelocated index c0 l0 c2 l2
      relocated = record {
        killed = rw put.here refl;
        empty = rw put.here (pairs_in-slots_killed kind left emptied);
        entries = entries_moved;
        marks = rw (marks_among-kept c0 c1 kept, ← l2_is) at
            (marks_moved c1 l0 c2 index left (slots_killed kind left) moved.marks (marks_in-slots_killed kind left));
        same_marks = rw put.here (marks_in-killed kind (bucket_at l0 index) left laws moved.same_marks);
        again = λ dead. absurd (true≢false (sym dead ∙ alive));
        current_len = moved.len ∙ kept.len;
        linked_len = put.len;
        other_linked = put.other;
        other_current = same_bucket;
      }

      linked_homes : (i : ℕ) → i < length l0 → All (IsEntryHome hash (length l0) i) (entries_in (bucket_at l2 i))
      linked_homes = each_after put (λ i b. i < length l0 → All (IsEntryHome hash (length l0) i) (entries_in b))
          (λ below. rw (no_entries (slots_killed kind left) (pairs_in-slots_killed kind left emptied))
          (All-nil (IsEntryHome hash (length l0) index))) (λ i apart. law.linked_home i)

      empty_still : length l0 ≤ length c0 → (i j : ℕ) → i < length l0 → j < length c0 → (bucket_at l2 i).killed ≡ false
          → Meets (length l0) i (length c0) j → IsVacant (bucket_at c2 j)
      empty_still le i j i_below j_below alive meets = elim (cases_eq i index) [
        | inl same ↦ let dead : (bucket_at l2 i).killed ≡ true = rw (same, put.here) refl in absurd cc
        | inr apart ↦
            let was : (bucket_at l0 i).killed ≡ false = ap (λ (b : BucketView K V). b.killed) (sym (put.other i apart)) ∙ alive in
            let none = λ (m : Meets (length l0) index (length c0) j). other_target (length l0) (length c0) i index j
            targets.linked_long targets.current_long le j_below i_below targets.within apart meets m in
            rw (same_bucket j none) (law.empty_targets le i j i_below j_below was meets)
      ]

      current_len : length c2 ≡ length c0
      current_len = moved.len ∙ kept.len

      pub law_after : AreTwoArrays hash c2 l2
      law_after = record {
        current_home = homes;
        linked_home = λ i. rw put.len (linked_homes i);
        alive = λ j below. moved.alive j ∙ kept.alive j ∙ law.alive j (omega (arith, current_len));
        killed_empty = each_after put (λ i b. i < length l2 → b.killed ≡ true → pairs_in b ≡ [])
            (λ below dead. pairs_in-slots_killed kind left emptied) (λ i apart below. law.killed_empty i (omega (arith, below, put.len)));
        empty_targets = λ le i j i_below j_below alive meets.
            empty_still (omega (arith, current_len, put.len)) i j (omega (arith, put.len)) (omega (arith, current_len)) alive
            (subst (λ (n : ℕ). Meets n i (length c0) j) put.len (subst (λ (n : ℕ). Meets (length l2) i n j) current_len meets));
      }

    -- as the calls state it, in which from and to are the lengths
    pub targets_of : {c l : List (BucketView K V)} {from to index start end : ℕ} → AreTwoArrays hash c l → index < length l
        → from ≡ length l → to ≡ length c → IsLength from → IsLength to
        → ((j : ℕ) → IsInRange start end j ↔ Meets from index to j) → end ≤ to → AreTargets hash c l index start end
    targets_of law within from_is to_is from_long to_long range ends = record {
      law = law;
      within = within;
      current_long = rw to_is at to_long;
      linked_long = rw from_is at from_long;
      range = rw (from_is, to_is) at range;
      ends = omega (arith, to_is, ends);
    }

    -- s is the bucket that is lent
    module _ {c l : List (BucketView K V)} {s : BucketView K V} {index start end : ℕ} (targets : AreTargets hash c l index start end)
        (s_is : s ≡ bucket_at l index) where
      homes_here : All (IsEntryHome hash (length l) index) (entries_in s)
      homes_here = rw s_is (targets.law.linked_home index targets.within)

      in_targets : All (λ (p : K × V). IsInRange start end (home_of (length c) (hash p.0))) (pairs_in s)
      in_targets =
          homes_in_range (length l) (length c) index start end s (some_width (length c) targets.current_long) targets.range homes_here

      set_same : set l index s ≡ l
      set_same = ap (λ (b : BucketView K V). set l index b) s_is ∙ set-get_or l index _

      -- its pairs can move there, once there is room
      pub bound : {from : ℕ} → start < end → (bucket_at l index).killed ≡ false → from ≡ length l → IsBound hash from start end s c
      bound some alive from_is = record {
        some = some;
        within = targets.ends;
        in_range = in_targets;
        own_bytes = own_bytes (length l) index s homes_here;
        homes = targets.law.current_home;
        alive = targets.law.alive;
        vacant = λ le j inside. targets.law.empty_targets (omega (arith, from_is, le)) index j targets.within
            (omega (arith, inside.1, targets.ends)) alive ((targets.range j).0 inside);
      }

      pub refused : (d : List (BucketView K V)) → KeepsEntries c d → AreTwoArrays hash d (set l index s)
      refused d kept = rw set_same (law_kept c d l kept targets.law)

      pub all_moved : (kind : ℕ) {d e : List (BucketView K V)} {left killed : BucketView K V}
          → KeepsEntries c d → KeepsOthers start end c d → MovesInto hash s d left e → AreHome hash e → pairs_in left ≡ []
          → IsBucketOf kind s → s.killed ≡ false → killed ≡ slots_killed kind left
          → IsRelocated index c l e (set l index killed) × AreTwoArrays hash e (set l index killed)
      all_moved kind {d} {e} {left} {killed} kept others moved homes emptied laws alive killed_is =
          let l_is : set l index killed ≡ set l index (slots_killed kind left) = ap (λ (b : BucketView K V). set l index b) killed_is in
          let moves = rw s_is at moved in
          let lawful = rw s_is at laws in
          let stood = rw s_is at alive in
          let is = relocated targets kept others moves homes emptied lawful stood l_is in
          (is, law_after targets kept others moves homes emptied lawful stood l_is)
