-- What holds of arrays after one is dropped, pushed or made: their pairs, the bag of tickets and the law.
use Rattle.bucket_table.proofs.Words.{All, All-nil, AreHome, ArePlaced, AreTwoArrays, ArraysView, BucketView, IsEntryHome, IsNewArray}
use Rattle.bucket_table.proofs.Words.{IsPermutation-refl, IsVacant, Keeps, List, LosesNoUnit, ℕ, [], ap, append-nil, arith, bucket_at}
use Rattle.bucket_table.proofs.Words.{empty_bucket, entries_among, false≢true, first_tickets, get_or_default, inl, length}
use Rattle.bucket_table.proofs.Words.{marks_among, nil_from_length, pairs_in, refl, replicate, suc, sym, true, zero, ◌<◌, ◌∙◌, ◌≡◌}
use Rattle.std.proofs.lemmas.List.{get_or-replicate, length-replicate}
use Rattle.bucket_slots.proofs.MarksAfter.{no_new-front, no_new-rest}
use Rattle.bucket_table.specs.Resize.Resizing.{IsGivenUp, IsMade, IsPushed}
use Rattle.bucket_table.specs.Walking.Drains.{emptied}
use Rattle.bucket_table.proofs.Views.Killed.{length-killed_flags}

module _ {K V : Type 0} where
  -- each bucket of an array whose buckets are all empty
  new_bucket : (fresh : List (BucketView K V)) (i : ℕ) → fresh ≡ replicate (length fresh) empty_bucket → i < length fresh
      → bucket_at fresh i ≡ empty_bucket
  new_bucket fresh i empty below = ap (λ (bs : List (BucketView K V)). bucket_at bs i) empty ∙ get_or-replicate
      (length fresh) i empty_bucket empty_bucket below

  pub new_vacant : (capacity : ℕ) (fresh : List (BucketView K V)) (i : ℕ)
      → IsNewArray capacity fresh → i < length fresh → IsVacant (bucket_at fresh i)
  new_vacant capacity fresh i new below = rw (new_bucket fresh i new.empty below) (record { free = refl; own_long = refl })

  no_entries_new : (n : ℕ) → entries_among (replicate n (empty_bucket {K = K} {V = V})) ≡ []
  no_entries_new zero = refl
  no_entries_new (suc n) = no_entries_new n

  pub new_entries : (capacity : ℕ) (fresh : List (BucketView K V)) → IsNewArray capacity fresh → entries_among fresh ≡ []
  new_entries capacity fresh new = ap (λ (bs : List (BucketView K V)). entries_among bs) new.empty ∙ no_entries_new (length fresh)

  -- a new array has no tombstones
  no_marks_new : (n : ℕ) → marks_among (replicate n (empty_bucket {K = K} {V = V})) ≡ []
  no_marks_new zero = refl
  no_marks_new (suc n) = no_marks_new n

  new_marks : (capacity : ℕ) (fresh : List (BucketView K V)) → IsNewArray capacity fresh → marks_among fresh ≡ []
  new_marks capacity fresh new = ap (λ (bs : List (BucketView K V)). marks_among bs) new.empty ∙ no_marks_new (length fresh)

  -- the current array is replaced, if neither has a pair
  keeps_with : (old : ArraysView K V) (fresh : List (BucketView K V)) → entries_among old.current ≡ [] → entries_among fresh ≡ []
      → marks_among fresh ≡ [] → Keeps old (record old { current = fresh })
  keeps_with old fresh none empty unmarked = record {
    pairs = rw (none, empty) (IsPermutation-refl (entries_among old.linked));
    marks = rw unmarked (no_new-rest (marks_among old.current) (marks_among old.linked));
    minimum = refl;
    maximum = refl;
    open_tickets = λ unit. refl;
  }

  pub given_up_keeps : (old new : ArraysView K V) → IsGivenUp old new → Keeps old new
  given_up_keeps old new is = rw is.new_is (keeps_with old [] is.empty refl refl)

  pub pushed_keeps : (capacity : ℕ) (old new : ArraysView K V) → IsPushed capacity old new → Keeps old new
  pushed_keeps capacity old new is = rw is.new_is (record {
    pairs = rw (nil_from_length old.linked is.alone, new_entries _ _ is.fresh_is, append-nil (entries_among old.current))
        (IsPermutation-refl (entries_among old.current));
    marks = rw (new_marks _ _ is.fresh_is) (no_new-front (marks_among old.current) (marks_among old.linked));
    minimum = refl;
    maximum = refl;
    open_tickets = λ unit. rw is.none_open refl;
  })

  pub made_keeps : (old new : ArraysView K V) → IsMade old new → Keeps old new
  made_keeps old new is = rw is.new_is (keeps_with old is.fresh (rw (nil_from_length old.current is.none) refl)
      (new_entries _ _ is.fresh_is) (new_marks _ _ is.fresh_is))

  -- an array whose buckets are all empty, beside any old one that obeys the law
  fresh_homes : (hash : K → ℕ) (fresh linked : List (BucketView K V)) → fresh ≡ replicate (length fresh) empty_bucket
      → AreHome hash linked
      → ((i : ℕ) → i < length linked → (bucket_at linked i).killed ≡ true → pairs_in (bucket_at linked i) ≡ [])
      → AreTwoArrays hash fresh linked
  fresh_homes hash fresh linked empty home killed_empty = record {
    current_home = λ i below. rw (new_bucket fresh i empty below) (All-nil (IsEntryHome hash (length fresh) i));
    linked_home = home;
    alive = λ i below. rw (new_bucket fresh i empty below) refl;
    killed_empty = killed_empty;
    empty_targets = λ longer i j old_below below live meets.
        rw (new_bucket fresh j empty below) (record { free = refl; own_long = refl });
  }

  -- an old array whose rehash begins
  pub rehash_begun : (buckets : List (BucketView K V)) → All (λ (b : BucketView K V). b.killed ≡ true → pairs_in b ≡ []) buckets
      → LosesNoUnit buckets (first_tickets (length buckets))
  rehash_begun buckets emptied = record {
    covered = record {
      same_len = length-killed_flags buckets;
      units_in_range = λ i d below. absurd (omega arith);
      done_or_open = λ unit below. absurd (omega arith);
    };
    going_on = λ some. inl (omega arith);
    emptied = emptied;
  }

  -- the law after it
  pub given_up_placed : (hash : K → ℕ) (old new : ArraysView K V) → IsGivenUp old new → ArePlaced hash old → ArePlaced hash new
  given_up_placed hash old new is law = rw is.new_is (record {
    homes = rw (nil_from_length old.linked is.alone) (record {
      current_home = λ i below. absurd (omega arith);
      linked_home = λ i below. absurd (omega arith);
      alive = λ i below. absurd (omega arith);
      killed_empty = λ i below. absurd (omega arith);
      empty_targets = λ longer i j old_below. absurd (omega arith);
    });
    rehashed = law.rehashed;
  })

  pub pushed_placed : (hash : K → ℕ) (capacity : ℕ) (old new : ArraysView K V) → IsPushed capacity old new → ArePlaced hash old
      → ArePlaced hash new
  pushed_placed hash capacity old new is law = rw is.new_is (record {
    homes = fresh_homes hash is.fresh old.current is.fresh_is.empty law.homes.current_home
        (λ i below dead. absurd (false≢true (sym (law.homes.alive i below) ∙ dead)));
    rehashed = rehash_begun old.current (λ i d below dead. absurd (false≢true (sym (law.homes.alive i below)
        ∙ ap (λ (b : BucketView K V). b.killed) (get_or_default old.current i empty_bucket d below) ∙ dead)));
  })

  pub made_placed : (hash : K → ℕ) (old new : ArraysView K V) → IsMade old new → ArePlaced hash old → ArePlaced hash new
  made_placed hash old new is law = rw is.new_is (record {
    homes = fresh_homes hash is.fresh old.linked is.fresh_is.empty law.homes.linked_home law.homes.killed_empty;
    rehashed = law.rehashed;
  })

  module _ (arrays : ArraysView K V) where
    pub emptied_keeps : Keeps (record arrays { current = []; linked = []; tickets = first_tickets 0 }) (emptied arrays)
    emptied_keeps =
        let len = length arrays.current in
        keeps_with (record (emptied arrays) { current = [] }) (replicate len empty_bucket) refl (no_entries_new len) (no_marks_new len)

    pub emptied_placed : (hash : K → ℕ) → ArePlaced hash (emptied arrays)
    emptied_placed hash =
        let len = length arrays.current in
        record {
          homes = fresh_homes hash (replicate len empty_bucket) []
              (ap (λ m. replicate m empty_bucket) (sym (length-replicate len (empty_bucket {K = K} {V = V}))))
              (λ i below. absurd (omega arith)) (λ i below. absurd (omega arith));
          rehashed = rehash_begun [] (λ i d below. absurd (omega arith));
        }
