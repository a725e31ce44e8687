-- The LRU order that moves along when old buckets move, one step after another.
use Rattle.bucket_table.proofs.Words.{All, All-append, All-head, All-nil, All-tail, ArraysView, Bool, BucketView, CarriesRecency, Contains}
use Rattle.bucket_table.proofs.Words.{Contains-append_cases, Contains-append_left, Contains-append_right, HasLanded, IsDistinct}
use Rattle.bucket_table.proofs.Words.{IsDistinct-IsPermutation, IsEquivalence, IsPermutation, IsPermutation-map, KeepsPlaces, List, None}
use Rattle.bucket_table.proofs.Words.{Option, Some, TicketState, ℕ, [], ap, append-nil, append_assoc, arith, bucket_at, cases_eq}
use Rattle.bucket_table.proofs.Words.{entries_among, entries_of, filter, filter-append, flattened, length, nil_from_length, get_or, inl}
use Rattle.bucket_table.proofs.Words.{inr, listed_pairs, map, map-append, pairs_in, pairs_of, refl, slot_at, subst, suc, sym, zero, ◌++◌}
use Rattle.bucket_table.proofs.Words.{◌∙◌, ◌∷◌, ◌≡◌, ◌⊎◌}
use Rattle.bucket_slots.proofs.Counting.{length-live_pairs-append}
use Rattle.bucket_table.specs.Rehash.Carrying.{CarriesOrder, CarriesPairs, WentInOrder, chained_pairs, has_own_key, listed_among}
use Rattle.std.proofs.lemmas.List.Concat.{flat_map-append}
use Rattle.std.specs.Prelude.{flat_map}
use Rattle.bucket_table.proofs.Moves.CarriedPairs.{carries_pairs, in_chain, in_own, landing_tells, pairs_among}
use Rattle.bucket_table.proofs.Moves.MovingInOrder.{chain_still, order_still, own_still}
use Rattle.bucket_table.proofs.Moves.Landings.{none_left}
use Rattle.bucket_table.proofs.Moves.Staying.{each_listed, own_or_chain, stay_both, stay_same}

filter_alike : {A : Type 0} (p q : A → Bool) (xs : List A) → All (λ x. p x ≡ q x) xs → filter p xs ≡ filter q xs
filter_alike p q [] all = refl
filter_alike {A} p q (x ∷ xs) all =
    let alike : A → Type 0 = λ y. p y ≡ q y in
    rw (All-head alike x xs all, filter_alike p q xs (All-tail alike x xs all)) refl

only : (first i : ℕ) → Contains (first ∷ []) i → first ≡ i
only first i (zero, below, here) = here
only first i (suc k, below, here) = absurd (omega (arith, below))

-- the lists of some numbers under one function are those of fewer numbers under another, if all other lists are empty
kept_only : {A : Type 0} (f g : ℕ → List A) (Gone : ℕ → Type 0) → ((i : ℕ) → Gone i → g i ≡ [])
    → ((i : ℕ) → Gone i ⊎ (g i ≡ f i)) → (more : List ℕ)
    → (less : List ℕ) × (flat_map g more ≡ flat_map f less) × ((i : ℕ) → Contains more i → Contains less i ⊎ Gone i)
    × ((i : ℕ) → Contains less i → Contains more i)
kept_only f g Gone nothing_there each [] = ([], refl, (λ i has. absurd (omega (arith, has.1))), (λ i has. has))
kept_only {A} f g Gone nothing_there each (first ∷ more) =
    let (less, same, rest, back) = kept_only f g Gone nothing_there each more in
    elim (each first) [
      | inl gone ↦ (
        less,
        ap (λ (those : List A). those ++ flat_map g more) (nothing_there first gone) ∙ same,
        (λ i has. elim (Contains-append_cases (first ∷ []) more i has) [
          | inl here ↦ inr (subst Gone (only first i here) gone)
          | inr there ↦ rest i there
        ]),
        (λ i has. Contains-append_right (first ∷ []) more i (back i has)),
      )
      | inr alike ↦ (
        first ∷ less,
        ap (λ (those : List A). those ++ flat_map g more) alike ∙ ap (λ (those : List A). f first ++ those) same,
        (λ i has. elim (Contains-append_cases (first ∷ []) more i has) [
          | inl here ↦ inl (subst (λ (k : ℕ). Contains (first ∷ less) k) (only first i here) (0, omega arith, refl))
          | inr there ↦ elim (rest i there) [
            | inl among ↦ inl (Contains-append_right (first ∷ []) less i among)
            | inr none ↦ inr none
          ]
        ]),
        (λ i has. elim (Contains-append_cases (first ∷ []) less i has) [
          | inl here ↦ subst (λ (k : ℕ). Contains (first ∷ more) k) (only first i here) (0, omega arith, refl)
          | inr there ↦ Contains-append_right (first ∷ []) more i (back i there)
        ]),
      )
    ]

module _ {K V : Type 0} where
  nothing : (ps : List (K × V)) → All (λ (p : K × V). ⊥) ps → ps ≡ []
  nothing [] all = refl
  nothing (p ∷ ps) all = absurd (All-head (λ (q : K × V). ⊥) p ps all)

  -- a bucket without a pair lists none
  pub unlisted_empty : (b : BucketView K V) → pairs_in b ≡ [] → listed_pairs b ≡ []
  unlisted_empty b none =
      let never = each_listed (λ p. ⊥) (slot_at b.own) b.listed (λ slot p listed here. none_left b slot p none here) in
      nothing (listed_pairs b) never

  -- nor has it one in its chain
  pub unchained_empty : (b : BucketView K V) → pairs_in b ≡ [] → chained_pairs b ≡ []
  unchained_empty b none =
      nil_from_length (chained_pairs b) (omega (arith, ap length none, length-live_pairs-append b.own (flattened b.chain)))

  -- no bucket has moved
  pub carries_unmoved : (old new : ArraysView K V)
      → ((i : ℕ) → (listed_pairs (bucket_at new.linked i) ≡ listed_pairs (bucket_at old.linked i))
      × (pairs_in (bucket_at new.linked i) ≡ pairs_in (bucket_at old.linked i))
      × (chained_pairs (bucket_at new.linked i) ≡ chained_pairs (bucket_at old.linked i)))
      → KeepsPlaces old.current new.current
      → ((j : ℕ) → listed_pairs (bucket_at new.current j) ≡ listed_pairs (bucket_at old.current j)) → CarriesOrder old new
  carries_unmoved old new left stay same = record {
    moved = [];
    left = λ i. inr (left i);
    stay = stay;
    arrived = All-nil (λ (pair : K × V). (j : ℕ) × Contains (pairs_in (bucket_at new.current j)) pair);
    carried = λ eq laws once j. same j ∙ sym (append-nil (listed_pairs (bucket_at old.current j)));
    in_order = λ i has. absurd (omega (arith, has.1));
  }

  pub order_same : (a : ArraysView K V) → CarriesOrder a a
  order_same a = carries_unmoved a a (λ i. (refl, refl, refl)) (stay_same a.current) (λ j. refl)

  -- the tickets don't matter for the order
  pub order_at_other_tickets : (tickets : TicketState) (old new : ArraysView K V) → CarriesOrder (record old { tickets = tickets }) new
      → CarriesOrder old new
  order_at_other_tickets tickets old new c =
      record { moved = c.moved; left = c.left; stay = c.stay; arrived = c.arrived; carried = c.carried; in_order = c.in_order }

  -- a pair that has landed is in some bucket
  stands : (d : List (BucketView K V)) (p : K × V) (landing : Option ℕ) → HasLanded d p landing
      → (j : ℕ) × Contains (pairs_in (bucket_at d j)) p
  stands d p (Some j) has = (j, in_own (bucket_at d j) p has)
  stands d p None has = (has.0, in_chain (bucket_at d has.0) p has.1)

  landed : (d : List (BucketView K V)) (p : K × V) → (j : ℕ) × Contains (pairs_in (bucket_at d j)) p
      → (landing : Option ℕ) × HasLanded d p landing
  landed d p (j, has) = elim (own_or_chain (bucket_at d j) p has) [
    | inl own ↦ (Some j, own)
    | inr chain ↦ (None, (j, chain))
  ]

  -- if all pairs stay, one that has landed stays where it is
  landed_still : (c d : List (BucketView K V)) → KeepsPlaces c d → (p : K × V) (landing : Option ℕ) → HasLanded c p landing
      → HasLanded d p landing
  landed_still c d stay p (Some j) has = own_still c d stay j p has
  landed_still c d stay p None (j, has) = (j, chain_still c d stay j p has)

  -- no two keys are equal in one and in the other
  once_after : (eq : K → K → Bool) → IsEquivalence eq → (old new : ArraysView K V) → IsPermutation (entries_of old) (entries_of new)
      → IsDistinct eq (map (λ (p : K × V). p.0) (pairs_of old)) → IsDistinct eq (map (λ (p : K × V). p.0) (pairs_of new))
  once_after eq laws old new moved once =
      IsDistinct-IsPermutation eq laws.symm _ _
      (IsPermutation-map (λ (p : K × V). p.0) _ _ (IsPermutation-map (λ (e : (K × V) × ℕ). e.0) _ _ moved)) once

  once_in_parts : (eq : K → K → Bool) (a : ArraysView K V) → IsDistinct eq (map (λ (p : K × V). p.0) (pairs_of a))
      → IsDistinct eq (map (λ (p : K × V). p.0) (pairs_among a.current ++ pairs_among a.linked))
  once_in_parts eq a once =
      subst (λ (ps : List (K × V)). IsDistinct eq (map (λ (p : K × V). p.0) ps))
      (map-append (λ (e : (K × V) × ℕ). e.0) (entries_among a.current) (entries_among a.linked)) once

  -- one old bucket has moved
  pub order_one : (index : ℕ) (old new : ArraysView K V) → IsPermutation (entries_of old) (entries_of new)
      → pairs_in (bucket_at new.linked index) ≡ [] → ((i : ℕ) → (i ≡ index → ⊥) → bucket_at new.linked i ≡ bucket_at old.linked i)
      → CarriesRecency (bucket_at old.linked index) old.current new.current → CarriesOrder old new
  order_one index old new pairs none others recency =
      let source = bucket_at old.linked index in
      let one : listed_pairs source ≡ listed_among old.linked (index ∷ []) = sym (append-nil (listed_pairs source)) in
      let there : K × V → Type 0 = λ pair. (j : ℕ) × Contains (pairs_in (bucket_at new.current j)) pair in
      record {
        moved = index ∷ [];
        left = λ i. elim (cases_eq i index) [
          | inl same ↦ inl (rw same (0, omega arith, refl), rw same (unlisted_empty (bucket_at new.linked index) none))
          | inr apart ↦ inr (ap listed_pairs (others i apart), ap pairs_in (others i apart), ap chained_pairs (others i apart))
        ];
        stay = recency.stay;
        arrived = subst (λ (ps : List (K × V)). All there ps) one (each_listed there (slot_at source.own) source.listed
            (λ slot p listed here. stands new.current p (recency.landing slot) (recency.landed slot p listed here)));
        carried = λ eq laws once.
            subst (λ (ps : List (K × V)). CarriesPairs eq ps old.current new.current) one
            (carries_pairs eq laws source old.current new.current (pairs_among new.linked)
            (once_in_parts eq new (once_after eq laws old new pairs once)) recency);
        in_order = λ i has.
            subst (λ (k : ℕ). WentInOrder new.current (pairs_in (bucket_at old.linked k))) (only index i has) recency.in_order;
      }

  -- one step after another
  module _ (old mid new : ArraysView K V) (pairs : IsPermutation (entries_of old) (entries_of mid))
      (later_pairs : IsPermutation (entries_of mid) (entries_of new)) (first : CarriesOrder old mid) (second : CarriesOrder mid new) where
    abbrev was : ℕ → List (K × V)
    was i = listed_pairs (bucket_at old.linked i)

    abbrev is : ℕ → List (K × V)
    is i = listed_pairs (bucket_at mid.linked i)

    abbrev HasGone : ℕ → Type 0
    HasGone i = Contains first.moved i × (is i ≡ [])

    -- those that moved in the second step and hadn't in the first
    later : (less : List ℕ) × (flat_map is second.moved ≡ flat_map was less)
        × ((i : ℕ) → Contains second.moved i → Contains less i ⊎ HasGone i) × ((i : ℕ) → Contains less i → Contains second.moved i)
    later = kept_only was is HasGone (λ i gone. gone.1) (λ i. elim (first.left i) [
      | inl gone ↦ inl gone
      | inr same ↦ inr same.0
    ]) second.moved

    abbrev came : List (K × V)
    came = listed_among old.linked first.moved

    abbrev came_later : List (K × V)
    came_later = listed_among mid.linked second.moved

    all : listed_among old.linked (first.moved ++ later.0) ≡ came ++ came_later
    all = flat_map-append was first.moved later.0 ∙ ap (λ (ps : List (K × V)). came ++ ps) (sym later.1)

    left_both : (i : ℕ) → (Contains (first.moved ++ later.0) i × (listed_pairs (bucket_at new.linked i) ≡ []))
        ⊎ ((listed_pairs (bucket_at new.linked i) ≡ listed_pairs (bucket_at old.linked i))
        × (pairs_in (bucket_at new.linked i) ≡ pairs_in (bucket_at old.linked i))
        × (chained_pairs (bucket_at new.linked i) ≡ chained_pairs (bucket_at old.linked i)))
    left_both i = elim (first.left i) [
      | inl gone ↦
          let among = Contains-append_left first.moved later.0 i gone.0 in
          elim (second.left i) [
            | inl gone_later ↦ inl (among, gone_later.1)
            | inr same ↦ inl (among, same.0 ∙ gone.1)
          ]
      | inr before ↦ elim (second.left i) [
        | inl gone ↦ elim (later.2 i gone.0) [
          | inl among ↦ inl (Contains-append_right first.moved later.0 i among, gone.1)
          | inr before_that ↦ inl (Contains-append_left first.moved later.0 i before_that.0, gone.1)
        ]
        | inr same ↦ inr (same.0 ∙ before.0, same.1 ∙ before.1, same.2 ∙ before.2)
      ]
    ]

    -- the pairs of the first step stay where they were, and those of the second were unchanged before it
    order_first : (i : ℕ) → Contains first.moved i → WentInOrder new.current (pairs_in (bucket_at old.linked i))
    order_first i has =
        order_still mid.current new.current second.stay (pairs_in (bucket_at old.linked i)) (first.in_order i has)

    in_order_both : (i : ℕ) → Contains (first.moved ++ later.0) i → WentInOrder new.current (pairs_in (bucket_at old.linked i))
    in_order_both i has = elim (Contains-append_cases first.moved later.0 i has) [
      | inl moved ↦ order_first i moved
      | inr more ↦ elim (first.left i) [
        | inl gone ↦ order_first i gone.0
        | inr same ↦ rw same.1 at (second.in_order i (later.3 i more))
      ]
    ]

    abbrev There : K × V → Type 0
    There pair = (j : ℕ) × Contains (pairs_in (bucket_at new.current j)) pair

    still_there : All There came
    still_there k d below =
        let p = get_or came k d in
        let at = landed mid.current p (first.arrived k d below) in
        stands new.current p at.0 (landed_still mid.current new.current second.stay p at.0 at.1)

    module _ (eq : K → K → Bool) (laws : IsEquivalence eq) (once : IsDistinct eq (map (λ (p : K × V). p.0) (pairs_of old))) (j : ℕ) where
      once_mid : IsDistinct eq (map (λ (p : K × V). p.0) (pairs_of mid))
      once_mid = once_after eq laws old mid pairs once

      abbrev in_mid : K × V → Bool
      in_mid p = has_own_key eq (bucket_at mid.current j) p.0

      abbrev in_new : K × V → Bool
      in_new p = has_own_key eq (bucket_at new.current j) p.0

      alike : All (λ p. in_mid p ≡ in_new p) came
      alike k d below =
          let p = get_or came k d in
          let at = landed mid.current p (first.arrived k d below) in
          let once_new = once_after eq laws mid new later_pairs once_mid in
          sym (landing_tells eq laws mid.current (pairs_among mid.linked) (once_in_parts eq mid once_mid) j p at.0 at.1)
          ∙ landing_tells eq laws new.current (pairs_among new.linked) (once_in_parts eq new once_new) j p at.0
          (landed_still mid.current new.current second.stay p at.0 at.1)

      carried_both : listed_pairs (bucket_at new.current j)
          ≡ listed_pairs (bucket_at old.current j) ++ filter in_new (listed_among old.linked (first.moved ++ later.0))
      carried_both =
          let own = listed_pairs (bucket_at old.current j) in
          let more = filter in_new came_later in
          second.carried eq laws once_mid j ∙ ap (λ (ps : List (K × V)). ps ++ more) (first.carried eq laws once j)
          ∙ append_assoc own (filter in_mid came) more
          ∙ ap (λ (ps : List (K × V)). own ++ ps) (ap (λ (ps : List (K × V)). ps ++ more) (filter_alike in_mid in_new came alike)
          ∙ sym (filter-append in_new came came_later) ∙ ap (λ (ps : List (K × V)). filter in_new ps) (sym all))

    pub order_both : CarriesOrder old new
    order_both = record {
      moved = first.moved ++ later.0;
      left = left_both;
      stay = stay_both old.current mid.current new.current first.stay second.stay;
      arrived = subst (λ (ps : List (K × V)). All There ps) (sym all) (All-append There came came_later still_there second.arrived);
      carried = carried_both;
      in_order = in_order_both;
    }
