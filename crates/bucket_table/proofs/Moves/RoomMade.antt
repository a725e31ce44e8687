-- Room that is made in buckets of an array, and what it is enough for.
use Rattle.bucket_table.proofs.Words.{All, All-head, All-tail, BucketView, Err, IsInRange, IsVacant, KeepsEntries, List, Ok, OnOk, Result}
use Rattle.bucket_table.proofs.Words.{Slot, ℕ, [], all_slots, ap, arith, bucket_at, cases_eq, cases_lt, counted, entries_in, false}
use Rattle.bucket_table.proofs.Words.{flattened, free, get_or, home_of, homed_len, inl, inr, is_free, length, length-append, live, marked}
use Rattle.bucket_table.proofs.Words.{marks_in, refl, replicate, set, slot_in, subst, suc, sym, take, true, zero, ◌&&◌, ◌*◌, ◌++◌, ◌+◌, ◌-◌}
use Rattle.bucket_table.proofs.Words.{◌<◌, ◌==◌, ◌∙◌, ◌∷◌, ◌≡◌, ◌≤◌}
use Rattle.std.proofs.Common.{append_assoc}
use Rattle.std.proofs.lemmas.List.{get_or-replicate, get_or-take, length-replicate, length-take}
use Rattle.std.proofs.lemmas.List.Folds.{list_all-append}
use Rattle.std.proofs.lemmas.List.Sums.{count_by-le-length, sum_by-append}
use Rattle.bucket_slots.proofs.MarksAfter.{marks_in-with_free_blocks}
use Rattle.bucket_slots.proofs.PairsAfter.{entries_in-with_free_blocks, flattened-append, tally}
use Rattle.bucket_slots.proofs.RoomAfter.{free_len_in-with_free_blocks}
use Rattle.bucket_slots.specs.Placing.{free_block}
use Rattle.bucket_slots.specs.Reserving.{free_len_in, with_free_blocks}
use Rattle.bucket_slots.specs.Slots.{all_free, free_len}
use Rattle.bucket_table.specs.Rehash.Relocation.{HasRoomFor, KeepsOthers}
use Rattle.bucket_table.proofs.Moves.Exchanges.{ChangesAt, changes_at, each_after}
use Rattle.bucket_table.proofs.Moves.MovingPairs.{homed_elsewhere}
use Rattle.bucket_table.proofs.Moves.Staying.{blocks_other, stay_same}

blocks_free : (K V : Type 0) (n : ℕ) → all_free (flattened (replicate {A = List (Slot K V)} n free_block)) ≡ true
blocks_free K V zero = refl
blocks_free K V (suc n) = blocks_free K V n

-- a list of eight zeros, and parts of it
pub part_len : (n : ℕ) → n ≤ 8 → length (take n (replicate {A = ℕ} 8 0)) ≡ n
part_len n few = omega (arith, length-take n (replicate {A = ℕ} 8 0), length-replicate {A = ℕ} 8 0)

pub part_zeros : (n k : ℕ) → k < length (take n (replicate {A = ℕ} 8 0)) → get_or (take n (replicate {A = ℕ} 8 0)) k 0 ≡ 0
part_zeros n k below =
    let long = length-take n (replicate {A = ℕ} 8 0) in
    let all = length-replicate {A = ℕ} 8 0 in
    get_or-take n (replicate {A = ℕ} 8 0) k 0 (omega (arith, long)) ∙ get_or-replicate 8 k 0 0 (omega (arith, long, all))

pub ruleset few_zeros = (part_len, part_zeros)

-- a list of zeros
pub zeros_len : (n : ℕ) (xs : List ℕ) → xs ≡ replicate n 0 → length xs ≡ n
zeros_len n xs e = ap length e ∙ length-replicate n 0

pub zeros_each : (n : ℕ) (xs : List ℕ) → xs ≡ replicate n 0 → (k : ℕ) → k < length xs → get_or xs k 0 ≡ 0
zeros_each n xs e k below = ap (λ l. get_or l k 0) e ∙ get_or-replicate n k 0 0 (omega (arith, zeros_len n xs e))

pub on_ok : {A E : Type 0} {P Q : Type 0} (r : Result A E) → (P → Q) → OnOk r P → OnOk r Q
on_ok (Ok x) f h = f h
on_ok (Err e) f h = h

module _ {K V : Type 0} where
  all_free_len : (xs : List (Slot K V)) → all_free xs ≡ true → free_len xs ≡ length xs
  all_free_len [] e = refl
  all_free_len (free ∷ xs) e = omega (arith, all_free_len xs e, sum_by-append (λ (x : Slot K V). tally (is_free x)) (free ∷ []) xs)
  all_free_len (live p b ∷ xs) e = cc
  all_free_len (marked p b ∷ xs) e = cc

  -- an empty bucket takes 32 pairs
  pub vacant_len : (b : BucketView K V) → IsVacant b → 32 ≤ free_len_in b
  vacant_len b vacant = omega (arith, all_free_len (all_slots b) vacant.free, length-append b.own (flattened b.chain), vacant.own_long)

  all_slots-blocks : (s : BucketView K V) (n : ℕ) → all_slots (with_free_blocks s n) ≡ all_slots s ++ flattened (replicate n free_block)
  all_slots-blocks s n =
      let blocks : List (Slot K V) = flattened (replicate n free_block) in
      ap (λ l. s.own ++ l) (flattened-append s.chain (replicate n free_block)) ∙ sym (simp append_assoc)

  vacant-blocks : (s : BucketView K V) (n : ℕ) → IsVacant s → IsVacant (with_free_blocks s n)
  vacant-blocks s n vacant = record {
    free =
        let blocks : List (Slot K V) = flattened (replicate n free_block) in
        ap all_free (all_slots-blocks s n) ∙ list_all-append is_free (all_slots s) blocks ∙ ap
        (λ b. b && all_free blocks) vacant.free ∙ blocks_free K V n;
    own_long = vacant.own_long;
  }

  pub KeepsEntries-refl : (c : List (BucketView K V)) → KeepsEntries c c
  KeepsEntries-refl c = record {
    len = refl;
    entries = λ i. refl;
    marks = λ i. refl;
    alive = λ i. refl;
    vacant = λ i v. v;
    stay = stay_same c;
    own = λ i. refl;
    listed = λ i. refl;
  }

  -- free blocks at the end of one more bucket
  kept_more : (c d e : List (BucketView K V)) (j n : ℕ) → KeepsEntries c d
      → ChangesAt j (with_free_blocks (bucket_at d j) n) d e → KeepsEntries c e
  kept_more c d e j n kept put = record {
    len = put.len ∙ kept.len;
    entries = each_after put (λ i b. entries_in b ≡ entries_in (bucket_at c i))
        (entries_in-with_free_blocks (bucket_at d j) n ∙ kept.entries j) (λ i apart. kept.entries i);
    marks = each_after put (λ i b. marks_in b ≡ marks_in (bucket_at c i))
        (marks_in-with_free_blocks (bucket_at d j) n ∙ kept.marks j) (λ i apart. kept.marks i);
    alive = each_after put (λ i b. b.killed ≡ (bucket_at c i).killed) (kept.alive j) (λ i apart. kept.alive i);
    vacant = each_after put (λ i b. IsVacant (bucket_at c i) → IsVacant b)
        (λ v. vacant-blocks (bucket_at d j) n (kept.vacant j v)) (λ i apart. kept.vacant i);
    stay = λ i at. each_after put
        (λ k b. is_free (slot_in (bucket_at c k) at) ≡ false → slot_in b at ≡ slot_in (bucket_at c k) at)
        (λ occupied. let here = kept.stay j at occupied in
        blocks_other (bucket_at d j) n at.block at.pos (ap is_free here ∙ occupied) ∙ here)
        (λ k apart. kept.stay k at) i;
    own = each_after put (λ i b. b.own ≡ (bucket_at c i).own) (kept.own j) (λ i apart. kept.own i);
    listed = each_after put (λ i b. b.listed ≡ (bucket_at c i).listed) (kept.listed j) (λ i apart. kept.listed i);
  }

  -- between two reservations: the first k buckets from `start` on have the room that was requested
  pub record IsReserving (start : ℕ) (counts : List ℕ) (c d : List (BucketView K V)) (k : ℕ) : Type 0 where
    pub room : (i : ℕ) → i < k → get_or counts i 0 ≤ free_len_in (bucket_at d (start + i))
    pub kept : KeepsEntries c d
    pub others : KeepsOthers start (start + length counts) c d

  pub reserving_first : (start : ℕ) (counts : List ℕ) (c : List (BucketView K V)) → IsReserving start counts c c 0
  reserving_first start counts c = record {
    room = λ i h. absurd (omega arith);
    kept = KeepsEntries-refl c;
    others = λ j out. refl;
  }

  -- more blocks in the next bucket
  module _ {start : ℕ} {counts : List ℕ} {c d e : List (BucketView K V)} {k : ℕ} (n : ℕ) (reserved : IsReserving start counts c d k)
      (within : k < length counts) (fits : start + length counts ≤ length d)
      (e_is : e ≡ set d (start + k) (with_free_blocks (bucket_at d (start + k)) n)) where
    put : ChangesAt (start + k) (with_free_blocks (bucket_at d (start + k)) n) d e
    put = rw e_is (changes_at (start + k) (with_free_blocks (bucket_at d (start + k)) n) d (omega arith))

    -- which may be too few
    reserving_blocks : IsReserving start counts c e k
    reserving_blocks = record {
      room = λ i h. rw (put.other (start + i) (λ same. absurd (omega arith))) (reserved.room i h);
      kept = kept_more c d e (start + k) n reserved.kept put;
      others = λ j out. put.other j (λ same. out (omega arith, omega arith)) ∙ reserved.others j out;
    }

    reserving_more : get_or counts k 0 ≤ free_len_in (bucket_at d (start + k)) + 4 * n → IsReserving start counts c e (k + 1)
    reserving_more enough = record {
      room = λ i h. elim (cases_eq i k) [
        | inl same ↦ rw (same, put.here) (omega (arith, free_len_in-with_free_blocks (bucket_at d (start + k)) n, enough))
        | inr apart ↦ reserving_blocks.room i (omega arith)
      ];
      kept = reserving_blocks.kept;
      others = reserving_blocks.others;
    }

  -- the same as the calls state it: b is the bucket that is lent, and after what it is then
  module _ (start : ℕ) (counts : List ℕ) (c d : List (BucketView K V)) (k : ℕ) (b after : BucketView K V)
      (reserved : IsReserving start counts c d k)
      (within : k < length counts) (fits : start + length counts ≤ length c)
      (b_is : b ≡ bucket_at d (start + k)) (n : ℕ) (after_is : after ≡ with_free_blocks b n) where
    put_is : set d (start + k) after ≡ set d (start + k) (with_free_blocks (bucket_at d (start + k)) n)
    put_is = rw (after_is, b_is) refl

    pub refused_reserving : IsReserving start counts c (set d (start + k) after) k
    refused_reserving = reserving_blocks n reserved within (omega (arith, reserved.kept.len)) put_is

    pub reserving_next : get_or counts k 0 ≤ free_len_in b + 4 * n → IsReserving start counts c (set d (start + k) after) (k + 1)
    reserving_next enough = reserving_more n reserved within (omega (arith, reserved.kept.len)) put_is (rw b_is at enough)

  -- the same range with its end written differently
  pub others_in : (c d : List (BucketView K V)) (start end last : ℕ) → last ≡ end → KeepsOthers start last c d → KeepsOthers start end c d
  others_in c d start end last same others = subst (λ (e : ℕ). KeepsOthers start e c d) same others

  module _ (hash : K → ℕ) where
    -- no pair's home is outside the range of their homes
    pub homed_none : (len start end j : ℕ) (ps : List (K × V)) → All (λ (p : K × V). IsInRange start end (home_of len (hash p.0))) ps
        → (IsInRange start end j → ⊥) → homed_len hash len j ps ≡ 0
    homed_none len start end j [] all out = refl
    homed_none len start end j (p ∷ ps) all out =
        let here = All-head (λ (q : K × V). IsInRange start end (home_of len (hash q.0))) p ps all in
        let rest = homed_none len start end j ps (All-tail (λ (q : K × V). IsInRange start end (home_of len (hash q.0))) p ps all) out in
        homed_elsewhere hash len j p ps (λ same. out (rw same at here)) ∙ rest

    -- the number of pairs with their home in one bucket is at most the number of pairs
    pub homed_few : (len j : ℕ) (ps : List (K × V)) → homed_len hash len j ps ≤ length ps
    homed_few len j ps = count_by-le-length (λ (p : K × V). home_of len (hash p.0) == j) ps

    -- room in the range of their homes is room for all
    pub room_in_range : (c : List (BucketView K V)) (start end : ℕ) (ps : List (K × V))
        → All (λ (p : K × V). IsInRange start end (home_of (length c) (hash p.0))) ps
        → ((j : ℕ) → IsInRange start end j → homed_len hash (length c) j ps ≤ free_len_in (bucket_at c j)) → HasRoomFor hash c ps
    room_in_range c start end ps all room j within = elim (cases_lt j start) [
      | inl below ↦ omega (arith, homed_none (length c) start end j ps all (λ r. absurd (omega (arith, r.0))))
      | inr above ↦ elim (cases_lt j end) [
        | inl inside ↦ room j (above, inside)
        | inr past ↦ omega (arith, homed_none (length c) start end j ps all (λ r. absurd (omega (arith, r.1))))
      ]
    ]

    -- if the counts are at least the number of pairs of each home, and there is that much room, there is room for all
    room_counted : (c d : List (BucketView K V)) (start end : ℕ) (counts : List ℕ)
        (ps : List (K × V)) → length d ≡ length c → start + length counts ≡ end
        → All (λ (p : K × V). IsInRange start end (home_of (length c) (hash p.0))) ps
        → ((k : ℕ) → k < length counts → homed_len hash (length c) (start + k) ps ≤ get_or counts k
        0) → ((k : ℕ) → k < length counts → get_or counts k 0 ≤ free_len_in (bucket_at d (start + k))) → HasRoomFor hash d ps
    room_counted c d start end counts ps long total all counted room =
        let all' : All (λ (p : K × V). IsInRange start end (home_of (length d) (hash p.0))) ps = rw long all in
        room_in_range d start end ps all' (λ j inside.
        let k : ℕ = j - start in
        let back : start + k ≡ j = omega (arith, inside.0) in
        let within : k < length counts = omega (arith, inside.0, inside.1) in
        omega (arith, rw (back, ← long) at (counted k within), rw back at (room k within)))

    -- the same for a result
    pub room_made : {A E : Type 0} (r : Result A E) (c d : List (BucketView K V)) (start end : ℕ)
        (counts : List ℕ) (ps : List (K × V)) → KeepsEntries c d → start + length counts ≡ end
        → All (λ (p : K × V). IsInRange start end (home_of (length c) (hash p.0))) ps
        → ((k : ℕ) → k < length counts → homed_len hash (length c) (start + k) ps ≤ get_or counts k
        0) → OnOk r ((k : ℕ) → k < length counts → get_or counts k 0 ≤ free_len_in
        (bucket_at d (start + k))) → OnOk r (HasRoomFor hash d ps)
    room_made r c d start end counts ps kept total all counted room =
        on_ok r (room_counted c d start end counts ps kept.len total all counted) room

    -- one count of all the pairs
    pub counted_one : (len start n : ℕ) (ps : List (K × V)) → n ≡ length ps → (k : ℕ) → k < length (n ∷ [])
        → homed_len hash len (start + k) ps ≤ get_or (n ∷ []) k 0
    counted_one len start n ps all zero h = omega (arith, all, homed_few len (start + 0) ps)
    counted_one len start n ps all (suc k) h = absurd (omega arith)
