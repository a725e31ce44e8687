-- The pairs of a bucket counted by their homes, one after another.
use Rattle.bucket_table.proofs.Words.{All, All-head, All-tail, BucketView, IsHome, IsInRange, List, MovesToNext, Place, Some, ℕ, [], ap}
use Rattle.bucket_table.proofs.Words.{arith, cases_eq, get_or, get_or-set_same, home_of, homed_len, inl, inr, length, null_place, pair_of}
use Rattle.bucket_table.proofs.Words.{pairs_ahead, pairs_in, set, slot_in, ◌+◌, ◌-◌, ◌<◌, ◌∙◌, ◌∷◌, ◌≡◌, ◌≤◌}
use Rattle.std.proofs.lemmas.List.{get_or-set_other, length-set}
use Rattle.std.specs.Option.{option_map}
use Rattle.bucket_table.proofs.Moves.HomesByDivision.{home_of-interval}
use Rattle.bucket_table.proofs.Moves.MovingPairs.{homed_elsewhere, homed_here}
use Rattle.bucket_table.proofs.Moves.RoomMade.{homed_few}
use Rattle.bucket_table.proofs.Moves.Ways.{key_is}

module _ {K V : Type 0} (hash : K → ℕ) (len start : ℕ) where
  -- between two steps: the counted pairs and those ahead are all, and no pair ahead has its home outside the counts
  pub record IsCounting (counts : List ℕ) (s : BucketView K V) (at : Place) : Type 0 where
    pub counted : (k : ℕ) → k < length counts → get_or counts k 0 + homed_len hash len (start + k) (pairs_ahead s at) ≡ homed_len hash len
        (start + k) (pairs_in s)
    pub in_range : All (λ (p : K × V). IsInRange start (start + length counts) (home_of len (hash p.0))) (pairs_ahead s at)

  pub counting_first : (counts : List ℕ) (s : BucketView K V) → ((k : ℕ) → k < length counts → get_or counts k 0 ≡ 0)
      → All (λ (p : K × V). IsInRange start (start + length counts) (home_of len (hash p.0))) (pairs_in s) → IsCounting counts s null_place
  counting_first counts s zeros all = record {
    counted = λ k h. omega (arith, zeros k h);
    in_range = all;
  }

  -- the next pair's home is among the counts, and its count can be raised by one
  pub record IsNextHome (counts : List ℕ) (s : BucketView K V) (home : ℕ) : Type 0 where
    pub low : start ≤ home
    pub within : home - start < length counts
    pub few : get_or counts (home - start) 0 + 1 ≤ length (pairs_in s)

  pub next_home : (counts : List ℕ) (s : BucketView K V) (old new : Place) (p : K × V) (home : ℕ) → IsCounting counts s old
      → pairs_ahead s old ≡ p ∷ pairs_ahead s new → home_of len (hash p.0) ≡ home → IsNextHome counts s home
  next_home counts s old new p home counting ahead here =
      let all : All (λ (q : K × V). IsInRange start (start + length counts)
      (home_of len (hash q.0))) (p ∷ pairs_ahead s new) = rw ahead at counting.in_range in
      let inside = rw here at (All-head (λ (q : K × V). IsInRange start (start + length counts)
      (home_of len (hash q.0))) p (pairs_ahead s new) all) in
      let within : home - start < length counts = omega (arith, inside.0, inside.1) in
      let back : start + (home - start) ≡ home = omega (arith, inside.0) in
      let whole = rw (back, ahead) at (counting.counted (home - start) within) in
      let more = homed_here hash len home p (pairs_ahead s new) here in
      record { low = inside.0; within = within; few = omega (arith, whole, more, homed_few hash len home (pairs_in s)) }

  pub counting_more : (counts : List ℕ) (s : BucketView K V) (old new : Place) (p : K × V) (home : ℕ) → IsCounting counts s old
      → pairs_ahead s old ≡ p ∷ pairs_ahead s new → home_of len (hash p.0) ≡ home
      → IsCounting (set counts (home - start) (get_or counts (home - start) 0 + 1)) s new
  counting_more counts s old new p home counting ahead here =
      let next = next_home counts s old new p home counting ahead here in
      let spot : ℕ = home - start in
      let more : ℕ = get_or counts spot 0 + 1 in
      let back : start + spot ≡ home = omega (arith, next.low) in
      let all : All (λ (q : K × V). IsInRange start (start + length counts)
      (home_of len (hash q.0))) (p ∷ pairs_ahead s new) = rw ahead at counting.in_range in
      record {
        counted = λ k h. elim (cases_eq k spot) [
          | inl same ↦
              let whole = rw (back, ahead) at (counting.counted spot next.within) in
              let one = homed_here hash len home p (pairs_ahead s new) here in
              rw (same, get_or-set_same counts spot more 0 next.within, back) (omega (arith, whole, one))
          | inr apart ↦
              let whole = rw ahead at (counting.counted k (omega (arith, length-set counts spot more))) in
              let none = homed_elsewhere hash len (start + k) p (pairs_ahead s new) (λ e. apart (omega (arith, back))) in
              rw (get_or-set_other counts spot k more 0 apart) (omega (arith, whole, none))
        ];
        in_range = rw (length-set counts spot more) (All-tail
            (λ (q : K × V). IsInRange start (start + length counts) (home_of len (hash q.0))) p (pairs_ahead s new) all);
      }

  -- a step of the walk: a key read, its hash and its home, as the calls state them
  module _ (counts : List ℕ) (s : BucketView K V) (old new : Place) (k : K) (h home : ℕ) (counting : IsCounting counts s old)
      (next : MovesToNext s old new)
      (read : option_map (λ (q : K × V). q.0) (pair_of (slot_in s new)) ≡ Some k) (hashed : h ≡ hash k) (home_is : IsHome len h home) where
    home_read : home_of len (hash next.pair.0) ≡ home
    home_read =
        let own : h ≡ hash next.pair.0 = hashed ∙ ap hash (key_is (slot_in s new) next.pair k next.here read) in
        rw (← own) (home_of-interval len home h home_is.own)

    pub next_read : IsNextHome counts s home
    next_read = next_home counts s old new next.pair home counting next.ahead home_read

    pub counting_read : IsCounting (set counts (home - start) (get_or counts (home - start) 0 + 1)) s new
    counting_read = counting_more counts s old new next.pair home counting next.ahead home_read

  pub fewer_ahead : (s : BucketView K V) (old new : Place) → MovesToNext s old new → length (pairs_ahead s new) < length (pairs_ahead s old)
  fewer_ahead s old new next = omega (arith, ap length next.ahead)

  -- at the end all pairs are counted
  pub counting_done : (counts : List ℕ) (s : BucketView K V) (at : Place) → IsCounting counts s at → pairs_ahead s at ≡ []
      → (k : ℕ) → k < length counts → get_or counts k 0 ≡ homed_len hash len (start + k) (pairs_in s)
  counting_done counts s at counting end k within = let whole = rw end at (counting.counted k within) in omega (arith, whole)
