-- The move of a bucket, as the arrays see it.
use Rattle.bucket_table.proofs.Words.{All, All-cons, All-nil, AreArrays, ArePlaced, AreTwoArrays, ArraysView, Bool, BucketView}
use Rattle.bucket_table.proofs.Words.{CarriesRecency, Err, HasNoNewMark, IsPermutation, IsPermutation-refl, IsUnmoved, KeepsArrays}
use Rattle.bucket_table.proofs.Words.{KeepsEntries, List, LosesNoUnit, Ok, OnErr, OnOk, RelocatesAt, Result, TicketState, ℕ, [], ap, arith}
use Rattle.bucket_table.proofs.Words.{bucket_at, cases_eq, empty_bucket, entries_among, get_or-set_other, inl, inr, killed_flags, length}
use Rattle.bucket_table.proofs.Words.{length-set, map-set, marks_among, no_new-refl, pairs_in, refl, set, suc, sym, true, ◌++◌, ◌<◌, ◌∙◌}
use Rattle.bucket_table.proofs.Words.{◌∷◌, ◌≡◌}
use Rattle.bucket_table.specs.Rehash.Carrying.{CarriesOrder}
use Rattle.std.proofs.Common.{get_or-set_same}
use Rattle.bucket_table.specs.Rehash.Relocation.{IsRelocated}
use Rattle.bucket_table.proofs.Moves.CarriedOrder.{carries_unmoved, order_one}
use Rattle.bucket_table.proofs.Rehash.Covering.{covered_work}
use Rattle.bucket_table.proofs.Views.Killed.{length-killed_flags}
use Rattle.bucket_table.proofs.Views.MarksKept.{marks_among-kept}
use Rattle.bucket_table.proofs.Moves.Relocating.{entries_among-kept}

module _ {K V : Type 0} where
  -- what holds of the bucket at each index holds of each bucket
  pub all_buckets : (P : BucketView K V → Type 0) (bs : List (BucketView K V)) → ((i : ℕ) → i < length bs → P (bucket_at bs i)) → All P bs
  all_buckets P [] each = All-nil P
  all_buckets P (b ∷ bs) each = All-cons P b bs (each 0 (omega arith)) (all_buckets P bs (λ i below. each (suc i) (omega arith)))

  -- arrays with the same buckets at each index are the same
  pub same_buckets : (xs bs : List (BucketView K V)) → length xs ≡ length bs
      → ((i : ℕ) → i < length xs → bucket_at xs i ≡ bucket_at bs i) → xs ≡ bs
  same_buckets [] [] len each = refl
  same_buckets [] (b ∷ bs) len each = absurd (omega arith)
  same_buckets (a ∷ xs) [] len each = absurd (omega arith)
  same_buckets (a ∷ xs) (b ∷ bs) len each =
      let rest : xs ≡ bs = same_buckets xs bs (omega arith) (λ i below. each (suc i) (omega arith))
      in
      rw (each 0 (omega arith), rest) refl

  -- an array that differs at one index
  pub set_is : (l m : List (BucketView K V)) (index : ℕ) → index < length l → length m ≡ length l
      → ((i : ℕ) → (i ≡ index → ⊥) → bucket_at m i ≡ bucket_at l i) → m ≡ set l index (bucket_at m index)
  set_is l m index within len other = same_buckets m (set l index (bucket_at m index)) (len ∙ sym (length-set l index (bucket_at m index)))
      (λ i below. elim (cases_eq i index) [
        | inl here ↦ rw here (sym (get_or-set_same l index (bucket_at m index) empty_bucket within))
        | inr apart ↦ other i apart ∙ sym (get_or-set_other l index i (bucket_at m index) empty_bucket apart)
      ])

  pub flags_set : (buckets : List (BucketView K V)) (index : ℕ) (bucket : BucketView K V)
      → bucket.killed ≡ true → killed_flags (set buckets index bucket) ≡ set (killed_flags buckets) index true
  flags_set buckets index bucket dead = map-set (λ (b : BucketView K V). b.killed) buckets index bucket ∙ ap
      (λ (flag : Bool). set (killed_flags buckets) index flag) dead

  -- an old array after a move
  loses_none : (hash : K → ℕ) (index : ℕ) (c l d m : List (BucketView K V)) (tickets : TicketState) → index < length l
      → IsRelocated index c l d m → AreTwoArrays hash d m → LosesNoUnit l tickets → LosesNoUnit m tickets
  loses_none hash index c l d m tickets within moved law was =
      record {
        covered = rw (set_is l m index within moved.linked_len moved.other_linked, flags_set l index (bucket_at m index) moved.killed)
            (covered_work (killed_flags l) index tickets (omega (arith, within, length-killed_flags l)) was.covered);
        going_on = λ some. let long = moved.linked_len in was.going_on (omega (arith, some, long));
        emptied = all_buckets (λ (b : BucketView K V). b.killed ≡ true → pairs_in b ≡ []) m law.killed_empty;
      }

module _ {K V : Type 0} (minimum maximum index : ℕ) (c l d m : List (BucketView K V)) (tickets : TicketState) where
  abbrev before : ArraysView K V
  before = record { minimum = minimum; maximum = maximum; current = c; linked = l; tickets = tickets }

  abbrev after : ArraysView K V
  after = record { minimum = minimum; maximum = maximum; current = d; linked = m; tickets = tickets }

  lens : {A E : Type 0} (r : Result A E) → OnOk r (IsRelocated index c l d m) → OnErr r (KeepsEntries c d) → OnErr r (m ≡ l)
      → (length d ≡ length c) × (length m ≡ length l)
  lens (Ok x) moved kept same = (moved.current_len, moved.linked_len)
  lens (Err e) moved kept same = (kept.len, rw same refl)

  -- the arrays after a move, whether it was done or failed
  pub arrays_after : {A E : Type 0} (r : Result A E) → OnOk r (IsRelocated index c l d m) → OnErr r (KeepsEntries c d) → OnErr r (m ≡ l)
      → AreArrays before → AreArrays after
  arrays_after r moved kept same was =
      let (current, linked) = lens r moved kept same in
      record {
        maximum_power = was.maximum_power;
        bounded = was.bounded;
        within = let fits = was.within in omega (arith, fits, current);
        long = λ some. rw current (was.long (omega (arith, some, current)));
        beside = λ some. let stands = was.beside (omega (arith, some, linked)) in omega (arith, stands, current);
        tickets_len = was.tickets_len ∙ sym linked;
      }

  -- and their law
  pub placed_moved : {A E : Type 0} (hash : K → ℕ) (r : Result A E) → index < length l → OnOk r (IsRelocated index c l d m)
      → OnErr r (m ≡ l)
      → AreTwoArrays hash d m → ArePlaced hash before → ArePlaced hash after
  placed_moved hash (Ok x) within moved same law was =
      record { homes = law; rehashed = loses_none hash index c l d m tickets within moved law was.rehashed }
  placed_moved hash (Err e) within moved same law was = record { homes = law; rehashed = rw same was.rehashed }

  kept_by : length d ≡ length c → IsPermutation (entries_among c ++ entries_among l) (entries_among d ++ entries_among m)
      → HasNoNewMark (marks_among c ++ marks_among l) (marks_among d ++ marks_among m) → CarriesOrder before after
      → KeepsArrays before after
  kept_by len moved marks order = record {
    keeps = record { pairs = moved; marks = marks; minimum = refl; maximum = refl; open_tickets = λ unit. refl };
    current_len = len;
    order = order;
  }

  -- the move, if it is done
  pub done_at : {A E : Type 0} (r : Result A E) → index < length l → OnOk r (IsRelocated index c l d m)
      → OnOk r (CarriesRecency (bucket_at l index) c d) → OnOk r (RelocatesAt index before after)
  done_at (Ok x) within moved recency = record {
    bucket = bucket_at m index;
    is_killed = moved.killed;
    empty = moved.empty;
    marks = moved.same_marks;
    linked_is = set_is l m index within moved.linked_len moved.other_linked;
    tickets_are = refl;
    others = moved.other_current;
    again = λ dead. let (here, there) = moved.again dead in rw (here, there) refl;
    kept = kept_by moved.current_len moved.entries moved.marks
        (order_one index before after moved.entries moved.empty moved.other_linked recency);
  }
  done_at (Err e) within moved recency = tt

  -- and if it fails
  pub refused_at : {A E : Type 0} (r : Result A E) → OnErr r (KeepsEntries c d) → OnErr r (m ≡ l) → OnErr r (IsUnmoved before after)
  refused_at (Ok x) kept same = tt
  refused_at (Err e) kept same = record {
    linked_is = same;
    tickets_are = refl;
    current_is = kept;
    kept = kept_by kept.len (rw (same, entries_among-kept c d kept) (IsPermutation-refl (entries_among c ++ entries_among l)))
        (rw (same, marks_among-kept c d kept) (no_new-refl (marks_among c ++ marks_among l)))
        (carries_unmoved before after (λ i. rw same (refl, refl, refl)) kept.stay (λ j. rw (kept.own j, kept.listed j) refl));
  }
