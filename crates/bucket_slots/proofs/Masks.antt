-- Masks: what their bits state of a list's elements, and how they change with an element.
use Rattle.bucket_slots.proofs.Words.{Bool, IsLeft, IsLowest, IsMaskOf, List, None, Option, SetsBit, Some, [], ap, arith}
use Rattle.bucket_slots.proofs.Words.{bit_and, bit_at, bit_at-zero, bit_at_and, bit_at_not, bit_mask_l, cases_eq, cases_lt, common_steps}
use Rattle.bucket_slots.proofs.Words.{cond, count_by, eqb, false, get_or, get_or-map, get_or-set_other, get_or-set_same, get_or_past, inl}
use Rattle.bucket_slots.proofs.Words.{inr, is_some, length, length-map, list_all, list_any, list_any_at, list_any_none, map, map-set}
use Rattle.bucket_slots.proofs.Words.{mask_l, min, nat_tests, not, ones, ones-mask_l, position, position-Some, refl}
use Rattle.bucket_slots.proofs.Words.{same_from_bits, set, subst, sym, true, w32, ℕ, ◌&&◌, ◌+◌, ◌-◌, ◌/◌, ◌<◌, ◌^◌, ◌∙◌, ◌∷◌, ◌≡◌, ◌≢◌, ◌≤◌}
use Rattle.std.proofs.lemmas.Nat.Bits.{bit_at_ones, bit_at_ones_above, ones_shr}
use Rattle.bucket_slots.proofs.Positions.{position-None, position_at, position_nowhere}

pub bit_is : (b : Bool) → ◌≡◌ {A = ℕ} (cond b 1 0) 1 → b ≡ true
bit_is true e = refl
bit_is false e = absurd (omega arith)

pub bit_is_not : (b : Bool) → ◌≡◌ {A = ℕ} (cond b 1 0) 0 → b ≡ false
bit_is_not true e = absurd (omega arith)
bit_is_not false e = refl

-- a bit that already has the value stays if nothing changes
pub bit_already : (bits k bit : ℕ) → bit_at bits k ≡ bit → SetsBit bits k bit bits
bit_already bits k bit is = record { same = is; others = λ i other. refl }

-- a mask is std's number of the results
mask_is : {A : Type 0} (test : A → Bool) (xs : List A) (bits : ℕ) → IsMaskOf test xs bits → bits ≡ mask_l (map test xs)
mask_is test xs bits mask = same_from_bits bits (mask_l (map test xs)) (λ i. mask i ∙ sym (bit_mask_l (map test xs) i))

-- the number of set bits is the number of elements that pass
pub ones-mask : {A : Type 0} (test : A → Bool) (xs : List A) (bits : ℕ) → IsMaskOf test xs bits → ones bits ≡ count_by test xs
ones-mask test xs bits mask = ap ones (mask_is test xs bits mask) ∙ ones-mask_l test xs

-- an element that passes isn't past the end
pub within : {A : Type 0} (test : A → Bool) (xs : List A) (i : ℕ) (d : A) → test d ≡ false → test (get_or xs i d) ≡ true → i < length xs
within test xs i d fails passes = elim (cases_lt i (length xs)) [
  | inl below ↦ below
  | inr past ↦ let here : test (get_or xs i d) ≡ false = rw (get_or_past xs i d past) fails in absurd cc
]

module _ {A : Type 0} (test : A → Bool) where
  any_is : (xs : List A) → list_any test xs ≡ not (eqb (mask_l (map test xs)) 0)
  any_is [] = refl
  any_is (x ∷ xs) = let rest = any_is xs in grind (arith, nat_tests, common_steps)

  all_is : (xs : List A) → list_all test xs ≡ eqb (mask_l (map (λ x. not (test x)) xs)) 0
  all_is [] = refl
  all_is (x ∷ xs) = let rest = all_is xs in grind (arith, nat_tests, common_steps)

  -- the elements that pass and those that don't are all
  count_not : (xs : List A) → count_by (λ x. not (test x)) xs + count_by test xs ≡ length xs
  count_not [] = refl
  count_not (x ∷ xs) = let rest = count_not xs in grind (arith, nat_tests, common_steps)

  -- the result at an index, if the test fails past the end
  answer_at : (xs : List A) (i : ℕ) (d : A) → test d ≡ false → get_or (map test xs) i false ≡ test (get_or xs i d)
  answer_at xs i d fails = elim (cases_lt i (length xs)) [
    | inl below ↦ get_or-map test xs i d false below
    | inr past ↦ get_or_past (map test xs) i false (simp length-map past) ∙ sym (ap test (get_or_past xs i d past) ∙ fails)
  ]

  -- a number whose bits are the results for the elements is their mask
  pub IsMaskOf-from : (xs : List A) (bits : ℕ) (d : A) → test d ≡ false → ((i : ℕ) → bit_at bits i ≡ cond (test (get_or xs i d)) 1 0)
      → IsMaskOf test xs bits
  IsMaskOf-from xs bits d fails each i = each i ∙ ap (λ b. cond b 1 0) (sym (answer_at xs i d fails))

  module _ (xs : List A) (bits : ℕ) (mask : IsMaskOf test xs bits) where
    -- no bit is set exactly if no element passes
    pub any-mask : list_any test xs ≡ not (eqb bits 0)
    any-mask = any_is xs ∙ ap (λ m. not (eqb m 0)) (sym (mask_is test xs bits mask))

    -- each element's bit, and 0 past the end
    pub bit-mask : (i : ℕ) (d : A) → test d ≡ false → bit_at bits i ≡ cond (test (get_or xs i d)) 1 0
    bit-mask i d fails = mask i ∙ ap (λ b. cond b 1 0) (answer_at xs i d fails)

    -- one element is replaced, and its bit is set or cleared
    pub IsMaskOf-set : (i after : ℕ) (x : A) → i < length xs → SetsBit bits i (cond (test x) 1 0) after → IsMaskOf test (set xs i x) after
    IsMaskOf-set i after x below s j = rw map-set (elim (cases_eq j i) [
      | inl same ↦ rw (same, s.same, get_or-set_same (map test xs) i (test x) false (simp length-map below))
      | inr other ↦ rw (s.others j other, get_or-set_other (map test xs) i j (test x) false other) (mask j)
    ])

    -- the bit of an element that exists
    bit_within : (i : ℕ) (d : A) → i < length xs → bit_at bits i ≡ cond (test (get_or xs i d)) 1 0
    bit_within i d below = mask i ∙ ap (λ b. cond b 1 0) (get_or-map test xs i d false below)

    -- if no bit is set, no element passes
    pub position-no_bit : (d : A) → bits ≡ 0 → position test xs ≡ None
    position-no_bit d none =
        position_nowhere test xs d (λ i below. bit_is_not _ (sym (bit_within i d below) ∙ ap (λ m. bit_at m i) none ∙ bit_at-zero i))

    -- the lowest bit is the first element that passes
    pub position-lowest : (k : ℕ) (d : A) → IsLowest bits k → position test xs ≡ Some k
    position-lowest k d low =
        let below = rw length-map at (within (λ b. b) (map test xs) k false refl (bit_is _ (sym (mask k) ∙ low.set))) in
        position_at test xs k d below (λ j less. bit_is_not _ (sym (bit_within j d (omega (arith, less, below))) ∙ low.lower j less))
        (bit_is _ (sym (bit_within k d below) ∙ low.set))

  module _ (xs : List A) (bits : ℕ) (mask : IsMaskOf (λ x. not (test x)) xs bits) where
    -- no bit is set exactly if each element passes
    pub all-mask : list_all test xs ≡ eqb bits 0
    all-mask = all_is xs ∙ ap (λ m. eqb m 0) (sym (mask_is (λ x. not (test x)) xs bits mask))

    -- the numbers of set bits and of elements that pass add up to the number of elements
    pub ones-mask_not : ones bits + count_by test xs ≡ length xs
    ones-mask_not = ap (λ n. n + count_by test xs) (ones-mask (λ x. not (test x)) xs bits mask) ∙ count_not xs

    -- the bits that aren't set, among the first ones, are the mask of the elements that pass
    pub IsMaskOf-not : (len : ℕ) (d : A) → len ≤ 32 → bits < 2 ^ 32 → length xs ≡ len
        → IsMaskOf test xs (bit_and (2 ^ 32 - 1 - bits) ((2 ^ 32 - 1) / 2 ^ (32 - len)))
    IsMaskOf-not len d few fits long i =
        bit_at_and (2 ^ 32 - 1 - bits) ((2 ^ 32 - 1) / 2 ^ (32 - len)) i ∙ elim (cases_lt i len) [
          | inl below ↦
              let front : bit_at ((2 ^ 32 - 1) / 2 ^ (32 - len)) i ≡ 1 = rw ones_is (bit_at_ones len i below) in
              let here = mask i ∙ ap (λ b. cond b 1 0) (get_or-map (λ x. not (test x)) xs i d false (omega (arith, below, long))) in
              let is = get_or-map test xs i d false (omega (arith, below, long)) in
              rw (bit_at_not w32 bits i fits (omega (arith, below, few)), front, here, is)
              (other_bit (test (get_or xs i d)))
          | inr past ↦
              let behind : bit_at ((2 ^ 32 - 1) / 2 ^ (32 - len)) i ≡ 0 = rw ones_is (bit_at_ones_above len i past) in
              rw (behind, get_or_past (map test xs) i false (simp length-map (omega (arith, past, long)))) (omega arith)
        ]
      where
        ones_is : (2 ^ 32 - 1) / 2 ^ (32 - len) ≡ 2 ^ len - 1
        ones_is = let e : 32 - (32 - len) ≡ len = omega (arith, few) in ones_shr 32 (32 - len) (omega arith) ∙ ap (λ k. 2 ^ k - 1) e

        other_bit : (b : Bool) → min (1 - cond (not b) 1 0) 1 ≡ cond b 1 0
        other_bit true = omega arith
        other_bit false = omega arith

  -- the element of the lowest bit passes
  pub lowest_passes : (xs : List A) (bits k : ℕ) (d : A) → IsMaskOf test xs bits → IsLowest bits k → test d ≡ false
      → test (get_or xs k d) ≡ true
  lowest_passes xs bits k d mask low fails = bit_is _ (sym (bit-mask xs bits mask k d fails) ∙ low.set)

  -- an element passes exactly if there is a first one
  pub any-position : (xs : List A) (d : A) (found : Option ℕ) → found ≡ position test xs → list_any test xs ≡ is_some found
  any-position xs d None e = list_any_none test xs (λ i e₀ below. position-None test xs i e₀ (sym e) below)
  any-position xs d (Some pos) e = let at = position-Some test xs pos d (sym e) in list_any_at test xs pos d at.0 at.1

  -- at first the bits of a mask are left
  pub IsLeft-first : (P : A → Type 0) (d : A) (xs : List A) (bits : ℕ) → test d ≡ false → ((x : A) → test x ≡ false → P x)
      → IsMaskOf test xs bits → IsLeft test P d xs bits
  IsLeft-first P d xs bits fails others mask = record {
    waiting = λ i h. bit_is (test (get_or xs i d)) (sym (bit-mask xs bits mask i d fails) ∙ h);
    done = λ i h. others _ (bit_is_not (test (get_or xs i d)) (sym (bit-mask xs bits mask i d fails) ∙ h));
  }

  -- one of them is cleared, once P holds of its element
  pub IsLeft-next : (P : A → Type 0) (d : A) (xs ys : List A) (bits k after : ℕ) → IsLeft test P d xs bits → SetsBit bits k 0 after
      → ((i : ℕ) → i ≢ k → get_or ys i d ≡ get_or xs i d) → P (get_or ys k d) → IsLeft test P d ys after
  IsLeft-next P d xs ys bits k after l s same here =
      let not_it : (i : ℕ) → bit_at after i ≡ 1 → i ≢ k = λ i h e. absurd (let clear : bit_at after i ≡ 0 = rw e s.same in omega arith) in
      record {
        waiting = λ i h. rw (same i (not_it i h)) (l.waiting i (sym (s.others i (not_it i h)) ∙ h));
        done = λ i h. elim (cases_eq i k) [
          | inl e ↦ rw e here
          | inr other ↦ rw (same i other) (l.done i (sym (s.others i other) ∙ h))
        ];
      }

  -- if the elements that aren't left fail a second test, and the lowest left one passes it, it is the first that passes
  pub position-left : (want : A → Bool) (d : A) (xs : List A) (bits k : ℕ) → want d ≡ false → IsLeft test (λ x. want x ≡ false) d xs bits
      → IsLowest bits k → want (get_or xs k d) ≡ true → position want xs ≡ Some k
  position-left want d xs bits k fails l low here =
      position_at want xs k d (within want xs k d fails here) (λ j below. l.done j (low.lower j below)) here

  -- and if none is left, none passes it
  pub position-none_left : (want : A → Bool) (d : A) (xs : List A) → IsLeft test (λ x. want x ≡ false) d xs 0 → position want xs ≡ None
  position-none_left want d xs l = position_nowhere want xs d (λ j below. l.done j (bit_at-zero j))

module _ {A : Type 0} where
  -- a mask is also one of each test with the same results
  pub IsMaskOf-alike : (test other : A → Bool) (xs : List A) (bits : ℕ) → ((x : A) → test x ≡ other x) → IsMaskOf test xs bits
      → IsMaskOf other xs bits
  IsMaskOf-alike test other xs bits alike mask = subst (λ t. IsMaskOf t xs bits) (λ j x. alike x j) mask

  -- the bits that are set in one mask but not in another
  pub IsMaskOf-and_not : (test other : A → Bool) (xs : List A) (bits without : ℕ) (d : A) → test d ≡ false → other d ≡ false
      → length xs ≤ 32 → without < 2 ^ 32 → IsMaskOf test xs bits → IsMaskOf other xs without
      → IsMaskOf (λ x. test x && not (other x)) xs (bit_and bits (2 ^ 32 - 1 - without))
  IsMaskOf-and_not test other xs bits without d fails clear few fits mask others =
      IsMaskOf-from (λ x. test x && not (other x)) xs (bit_and bits (2 ^ 32 - 1 - without)) d (rw fails refl) (λ i.
      let here = bit-mask test xs bits mask i d fails in
      let away = bit-mask other xs without others i d clear in
      bit_at_and bits (2 ^ 32 - 1 - without) i ∙ elim (cases_lt i 32) [
        | inl below ↦ rw (bit_at_not w32 without i fits below, here, away) (both_bits (test (get_or xs i d)) (other (get_or xs i d)))
        | inr past ↦
            let none : test (get_or xs i d) ≡ false = rw (get_or_past xs i d (omega arith)) fails in
            rw (here, none) (omega arith)
      ])
    where
      both_bits : (this that : Bool) → min (cond this 1 0) (1 - cond that 1 0) ≡ cond (this && not that) 1 0
      both_bits true true = omega arith
      both_bits this that = omega arith
