-- A closure is called with each pair of a bucket, with the value lent.
use Rattle.bucket_table.proofs.Words.{Bool, BucketView, List, MovesToNext, Option, Place, [], ap, append-nil, append_assoc, arith, false}
use Rattle.bucket_table.proofs.Words.{if◌then◌else◌, inl, inr, length, length-append, null_place, pairs_ahead, pairs_in, refl, subst, sym}
use Rattle.bucket_table.proofs.Words.{true, ℕ, ◌++◌, ◌+◌, ◌∙◌, ◌∷◌, ◌≡◌, ◌≤◌, ◌⊎◌}
use Rattle.std.specs.Borrow.{Bor, MutBor}
use Rattle.bucket_table.specs.Walking.Extracting.{AsksAt}
use Rattle.bucket_table.specs.Walking.Retains.{RetainsEach}

module _ {S K V : Type 0} (step : S → Bor K → MutBor V → Bool → MutBor V → S → Type 0) where
  if_append : (b : Bool) (p : K × V) (kept more : List (K × V))
      → (if b then p ∷ kept else kept) ++ more ≡ (if b then p ∷ (kept ++ more) else (kept ++ more))
  if_append true p kept more = refl
  if_append false p kept more = refl

  -- some pairs, and then others
  pub asked_both : (first between last : S) (xs left ys more : List (K × V)) → RetainsEach step first xs left between
      → RetainsEach step between ys more last → RetainsEach step first (xs ++ ys) (left ++ more) last
  asked_both first between last [] left ys more (none, same) others =
      subst (λ (s : S). RetainsEach step s ys (left ++ more) last) same
      (subst (λ (l : List (K × V)). RetainsEach step between ys (l ++ more) last) (sym none) others)
  asked_both first between last (x ∷ xs) left ys more (own, before, after, answer, mid, kept, is, call, left_is, rest) others = (
    own,
    before,
    after,
    answer,
    mid,
    kept ++ more,
    is,
    call,
    ap (λ l. l ++ more) left_is ∙ if_append answer (own.now, after.now) kept more,
    asked_both mid between last xs kept ys more rest others,
  )

  if_length : (b : Bool) (p : K × V) (kept : List (K × V)) → length (if b then p ∷ kept else kept) ≤ length kept + 1
  if_length true p kept = omega arith
  if_length false p kept = omega arith

  -- there are no more pairs than before
  pub asked_fewer : (first last : S) (xs left : List (K × V)) → RetainsEach step first xs left last → length left ≤ length xs
  asked_fewer first last [] left (none, same) = omega (arith, ap length none)
  asked_fewer first last (x ∷ xs) left (own, before, after, answer, mid, kept, is, call, left_is, rest) =
      omega (arith, ap length left_is, if_length answer (own.now, after.now) kept, asked_fewer mid last xs kept rest)

  stay_by : {X Y : Type 0} (answer : Bool) (p later : K × V) (stay : List (K × V)) → later ≡ p
      → ((answer ≡ true) × (stay ≡ later ∷ []) × X) ⊎ ((answer ≡ false) × (stay ≡ []) × Y) → stay ≡ (if answer then p ∷ [] else [])
  stay_by answer p later stay later_is (inl (is, there, more)) = rw is (there ∙ ap (λ q. q ∷ []) later_is)
  stay_by answer p later stay later_is (inr (is, there, more)) = rw is there

  -- a single pair
  one_asked : (kind : ℕ) (first last : S) (pair : K × V) (old new : BucketView K V) (at to : Place) (picked : Option (K × V))
      (r : AsksAt step kind true first pair old at picked new to last) → RetainsEach step first (pair ∷ []) r.stay last
  one_asked kind first last pair old new at to picked r =
      let (own, before, after, same, call, later_is) = r.asked in (
        own,
        before,
        after,
        r.answer,
        last,
        [],
        same,
        call,
        stay_by r.answer (own.now, after.now) r.later r.stay later_is r.outcome,
        (refl, refl),
      )

  -- the closure was called with the pairs that are no longer ahead
  pub record IsAsking (first : S) (old : BucketView K V) (state : S) (now : BucketView K V) (at : Place) : Type 0 where
    pub done : List (K × V)
    pub left : List (K × V)
    pub were : pairs_in old ≡ done ++ pairs_ahead now at
    pub are : pairs_in now ≡ left ++ pairs_ahead now at
    pub asked : RetainsEach step first done left state

  pub begins : (first : S) (old : BucketView K V) (at : Place) → at ≡ null_place → IsAsking first old first old at
  begins first old at is =
      let ahead = ap (λ p. pairs_ahead old p) (sym is) in
      record {
        done = [];
        left = [];
        were = ahead;
        are = ahead;
        asked = (refl, refl);
      }

  pub asks : (kind : ℕ) (first state last : S) (old now new : BucketView K V) (at next to : Place) (picked : Option (K × V))
      (m : MovesToNext now at next) → AsksAt step kind true state m.pair now next picked new to last
      → IsAsking first old state now at → IsAsking first old last new to
  asks kind first state last old now new at next to picked m r amid = record {
    done = amid.done ++ m.pair ∷ [];
    left = amid.left ++ r.stay;
    were = amid.were ∙ ap (λ l. amid.done ++ l) (m.ahead ∙ ap (λ l. m.pair ∷ l) (sym r.ahead))
        ∙ sym (append_assoc amid.done (m.pair ∷ []) (pairs_ahead new to));
    are = r.pairs amid.left (amid.are ∙ ap (λ l. amid.left ++ l) m.ahead) ∙ ap (λ l. amid.left ++ (r.stay ++ l)) (sym r.ahead)
        ∙ sym (append_assoc amid.left r.stay (pairs_ahead new to));
    asked = asked_both first state last amid.done amid.left (m.pair ∷ []) r.stay amid.asked
        (one_asked kind state last m.pair now new next to picked r);
  }

  pub all_asked : (first state : S) (old now : BucketView K V) (at : Place) → IsAsking first old state now at
      → pairs_ahead now at ≡ [] → RetainsEach step first (pairs_in old) (pairs_in now) state
  all_asked first state old now at amid none =
      let were : pairs_in old ≡ amid.done = amid.were ∙ ap (λ l. amid.done ++ l) none ∙ append-nil amid.done in
      let are : pairs_in now ≡ amid.left = amid.are ∙ ap (λ l. amid.left ++ l) none ∙ append-nil amid.left in
      rw (were, are) amid.asked

  -- fewer pairs than at first, whatever is ahead
  pub fewer : (first state : S) (old now : BucketView K V) (at : Place) → IsAsking first old state now at
      → length (pairs_in now) ≤ length (pairs_in old)
  fewer first state old now at amid =
      let less = asked_fewer first state amid.done amid.left amid.asked in
      omega (
        arith,
        less,
        ap length amid.were,
        ap length amid.are,
        length-append amid.done (pairs_ahead now at),
        length-append amid.left (pairs_ahead now at),
      )
