-- A pointer moves through a bucket, and the pairs for which a test returns false are removed.
use Rattle.bucket_table.proofs.Words.{AllByRecursion, Bool, BucketView, IsPermutation, IsPermutation-append_right, IsPermutation-map}
use Rattle.bucket_table.proofs.Words.{IsPermutation-refl, IsPermutation-trans, List, MovesToNext, Place, [], ap, arith, cond, entries_in}
use Rattle.bucket_table.proofs.Words.{false, false≢true, filter, inl, inr, is_live, length, length-append, length-map, length_permutation}
use Rattle.bucket_table.proofs.Words.{live_from_pair, map, map-append, map-entries_in, min, nil_from_length, not, not_from_false}
use Rattle.bucket_table.proofs.Words.{not_from_true, null_place, pairs_ahead, pairs_in, refl, slot_in, sym, true, ℕ, ◌++◌, ◌+◌, ◌-◌, ◌<◌}
use Rattle.bucket_table.proofs.Words.{◌^◌, ◌∙◌, ◌∷◌, ◌≡◌, ◌≤◌}
use Rattle.std.proofs.lemmas.Bool.{not-false}
use Rattle.std.proofs.lemmas.List.Sorted.{IsPermutation-middle}
use Rattle.bucket_table.specs.Walking.Retains.{Retains, RetainsPair}
use Rattle.bucket_table.proofs.Walking.Each.{each_implies, none_in, none_pass}
use Rattle.bucket_table.proofs.Walking.Filters.{IsPermutation-filter}

module _ {K V : Type 0} where
  -- the next slot is live, and one pair fewer is left once it is taken
  pub next_live : (s : BucketView K V) (old new : Place) → MovesToNext s old new → is_live (slot_in s new) ≡ true
  next_live s old new m = live_from_pair (slot_in s new) m.pair m.here

  -- entries up to order are pairs up to order
  pub pairs_moved : (xs : List ((K × V) × ℕ)) (s t : BucketView K V) → IsPermutation (entries_in s) (xs ++ entries_in t)
      → IsPermutation (pairs_in s) (map (λ (e : (K × V) × ℕ). e.0) xs ++ pairs_in t)
  pairs_moved xs s t moved =
      let f : (K × V) × ℕ → K × V = λ e. e.0 in
      rw (← map-entries_in s, ← map-entries_in t, ← map-append f xs (entries_in t)) (IsPermutation-map f _ _ moved)

module _ {K V : Type 0} (test : K × V → Bool) where
  abbrev pub refuses : K × V → Bool
  refuses p = not (test p)

  abbrev pub refused_len : List (K × V) → ℕ
  refused_len ps = length (filter refuses ps)

  front_len : (p : K × V) (ps : List (K × V)) → test p ≡ true → refused_len (p ∷ ps) ≡ refused_len ps
  front_len p ps e = ap (λ b. length (cond b (p ∷ filter refuses ps) (filter refuses ps))) (not_from_true (test p) e)

  front_more : (p : K × V) (ps : List (K × V)) → test p ≡ false → refused_len (p ∷ ps) ≡ refused_len ps + 1
  front_more p ps e = ap (λ b. length (cond b (p ∷ filter refuses ps) (filter refuses ps))) (not_from_false (test p) e) ∙ omega arith

module _ {K V : Type 0} (IsTest : (K × V → Bool) → Type 0) where
  -- the remaining pairs for which a test returns false are ahead, and it returns false for each removed pair
  pub record IsRetaining (old now : BucketView K V) (at : Place) : Type 0 where
    pub gone : List ((K × V) × ℕ)
    pub parts : IsPermutation (entries_in old) (gone ++ entries_in now)
    pub alive : now.killed ≡ old.killed
    pub refused : (test : K × V → Bool) → IsTest test → AllByRecursion (λ entry. test entry.0 ≡ false) gone
    pub ahead : (test : K × V → Bool) → IsTest test → refused_len test (pairs_in now) ≡ refused_len test (pairs_ahead now at)
    pub unchanged : length gone ≡ 0 → now ≡ old

  pub sets_out : (old : BucketView K V) (at : Place) → at ≡ null_place → IsRetaining old old at
  sets_out old at e = record {
    gone = [];
    parts = IsPermutation-refl (entries_in old);
    alive = refl;
    refused = λ test means. tt;
    ahead = λ test means. ap (λ p. refused_len test (pairs_ahead old p)) (sym e);
    unchanged = λ none. refl;
  }

  passes : (old now : BucketView K V) (at next : Place)
      (m : MovesToNext now at next) → ((test : K × V → Bool) → IsTest test → test m.pair ≡ true)
      → IsRetaining old now at → IsRetaining old now next
  passes old now at next m keeps r = record {
    gone = r.gone;
    parts = r.parts;
    alive = r.alive;
    refused = r.refused;
    ahead = λ test means. r.ahead test means ∙ ap (refused_len test) m.ahead ∙ front_len test m.pair
        (pairs_ahead now next) (keeps test means);
    unchanged = r.unchanged;
  }

  takes : (old now left : BucketView K V) (at next after : Place)
      (m : MovesToNext now at next) → ((test : K × V → Bool) → IsTest test → test m.pair ≡ false)
      → left.killed ≡ now.killed → ((byte : ℕ) × IsPermutation (entries_in now)
      ((m.pair, byte) ∷ entries_in left)) → pairs_ahead left after ≡ pairs_ahead now next
      → IsRetaining old now at → IsRetaining old left after
  takes old now left at next after m refuses_it alive (byte, out) same r =
      let out_pairs : IsPermutation (pairs_in now) (m.pair ∷ pairs_in left) = pairs_moved ((m.pair, byte) ∷ []) now left out in
      record {
        gone = (m.pair, byte) ∷ r.gone;
        parts = IsPermutation-trans _ _ _ r.parts (IsPermutation-trans _ _ _ (IsPermutation-append_right r.gone _ _ out)
            (IsPermutation-middle r.gone (m.pair, byte) (entries_in left)));
        alive = alive ∙ r.alive;
        refused = λ test means. (refuses_it test means, r.refused test means);
        ahead = λ test means.
            let no = refuses_it test means in
            let here = length_permutation _ _ (IsPermutation-filter (refuses test) _ _ out_pairs) in
            let one = front_more test m.pair (pairs_in left) no in
            let ahead = ap (refused_len test) m.ahead in
            let two = front_more test m.pair (pairs_ahead now next) no in
            let three = ap (refused_len test) same in
            let so_far = r.ahead test means in
            omega (arith, so_far, here, one, ahead, two, three);
        unchanged = λ none. absurd (omega (arith, none));
      }

  -- a step to the next pair, which stays or is taken
  pub steps : (old now left : BucketView K V) (at next after : Place) (m : MovesToNext now at next)
      → RetainsPair IsTest m.pair now next left after → IsRetaining old now at
      → IsRetaining old left after × (length (pairs_ahead left after) < length (pairs_ahead now at))
  steps old now left at next after m (inl (keeps, same, stays)) r =
      (rw (same, stays) (passes old now at next m keeps r), rw (same, stays) (omega (arith, ap length m.ahead)))
  steps old now left at next after m (inr (refuses_it, alive, out, ahead)) r =
      (takes old now left at next after m refuses_it alive out ahead r, omega (arith, ap length m.ahead, ap length ahead))

  -- the number of removed pairs
  pub fewer : (old now : BucketView K V) (at : Place) (r : IsRetaining old now at)
      → length (pairs_in old) ≡ length r.gone + length (pairs_in now)
  fewer old now at r =
      let parts = length_permutation _ _ (pairs_moved r.gone old now r.parts) in
      let both = length-append (map (λ (e : (K × V) × ℕ). e.0) r.gone) (pairs_in now) in
      let gone = length-map r.gone (λ (e : (K × V) × ℕ). e.0) in
      omega (arith, parts, both, gone)

  pub retained : (old now : BucketView K V) (at : Place) (count : ℕ) → pairs_ahead now at ≡ [] → length (pairs_in old) ≤ 2 ^ 64 - 1
      → count ≡ length (pairs_in old) - length (pairs_in now) → IsRetaining old now at → Retains IsTest old now count
  retained old now at count e fits is r =
      let less = fewer old now at r in
      record {
        gone = r.gone;
        parts = r.parts;
        alive = r.alive;
        counted = omega (arith, less, fits, is);
        refused = r.refused;
        kept = λ test means.
            each_implies _ (λ p h. not-false (test p) h)
            (none_pass (refuses test) (pairs_in now) (nil_from_length _ (r.ahead test means ∙ ap (refused_len test) e)));
        unchanged = λ none. r.unchanged (omega (arith, less, is, none));
      }

  -- a test that is always false leaves none, and all are counted
  pub retains_none : (old new : BucketView K V) (count : ℕ) → IsTest (λ pair. false) → Retains IsTest old new count
      → (pairs_in new ≡ []) × (count ≡ min (length (pairs_in old)) (2 ^ 64 - 1))
  retains_none old new count means r =
      let first : (K × V) × ℕ → K × V = λ e. e.0 in
      let none : pairs_in new ≡ [] = none_in (λ pair is. false≢true is) (r.kept (λ pair. false) means) in
      let parts = length_permutation _ _ (pairs_moved r.gone old new r.parts) in
      let both = length-append (map first r.gone) (pairs_in new) in
      let gone = length-map r.gone first in
      let left = ap length none in
      (none, let told = r.counted in omega (arith, told, parts, both, gone, left))
