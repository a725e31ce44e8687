-- The pairs of a bucket, which move to their homes in slot order.
use Rattle.bucket_table.proofs.Words.{All, All-cons, All-head, All-nil, All-tail, BucketView, Contains, IsBucketOf, List, None, Option}
use Rattle.bucket_table.proofs.Words.{Some, [], ap, append-nil, append_assoc, arith, bucket_at, cases_eq, false, inl, inr}
use Rattle.bucket_table.proofs.Words.{is_free, length, live_from_pair, live_not_free, live_pair, live_pairs, pairs_in, refl, set, slot_at}
use Rattle.bucket_table.proofs.Words.{subst, suc, sym, true≢false, zero, ℕ, ◌++◌, ◌<◌, ◌∙◌, ◌∷◌, ◌≡◌}
use Rattle.std.proofs.lemmas.List.Elements.{All-append}
use Rattle.std.specs.List.{position}
use Rattle.std.specs.Option.{option_or}
use Rattle.std.specs.Prelude.{option_map, unwrap_or}
use Rattle.bucket_slots.proofs.BucketPlacing.{place_made, same_made}
use Rattle.bucket_slots.proofs.Positions.{position-None}
use Rattle.bucket_slots.proofs.PlacedSlots.{chain_put, own_put, was_free}
use Rattle.bucket_slots.specs.BucketView.{block_at, first_from, first_place, row_at}
use Rattle.bucket_slots.specs.Placing.{place_for_next, slots_with, with_place_made}
use Rattle.bucket_table.specs.Layout.Landings.{HasLandedFull, MoveInOrder, StandsInChain}
use Rattle.bucket_table.specs.Rehash.Carrying.{WentFirst, WentInOrder}
use Rattle.bucket_table.specs.Rehash.Relocation.{KeepsPlaces}
use Rattle.bucket_table.proofs.Moves.CarriedPairs.{in_chain, in_own}
use Rattle.bucket_table.proofs.Moves.Exchanges.{changes_at}
use Rattle.bucket_table.proofs.Moves.Landings.{all_stay}
use Rattle.bucket_table.proofs.Moves.Staying.{contains_at, from_row, in_row, own_or_chain, slot_of}

module _ {K V : Type 0} where
  -- no own slot is free
  abbrev IsFull : BucketView K V → Type 0
  IsFull b = (slot : ℕ) → slot < 32 → is_free (slot_at b.own slot) ≡ false

  full_by : (b : BucketView K V) (found : Option ℕ) → length b.own ≡ 32 → position is_free b.own ≡ found
      → ((place_for_next b).block ≡ 0 → ⊥) → IsFull b
  full_by b None long is other = λ slot below. position-None is_free b.own slot _ is (omega (arith, below, long))
  full_by b (Some pos) long is other =
      absurd (other (ap (λ (found : Option ℕ). (unwrap_or (option_or (option_map (λ (k : ℕ). record { block = 0; pos = k }) found)
      (first_from is_free 1 b.chain)) (record { block = 1; pos = 0 })).block) is))

  inside_own : (b : BucketView K V) (block pos : ℕ) → block ≡ 0 → pos < length (block_at b block) → pos < length b.own
  inside_own b zero pos own within = within
  inside_own b (suc i) pos own within = absurd (omega arith)

  not_full : (b : BucketView K V) (p : K × V) (byte : ℕ) → length b.own ≡ 32 → (place_for_next b).block ≡ 0 → IsFull b → ⊥
  not_full b p byte long own full =
      let next = place_for_next b in
      let within = inside_own (with_place_made b) next.block next.pos own (place_made b).within in
      let same = ap length (same_made (λ (t : BucketView K V). t.own) b refl) in
      true≢false (ap is_free (sym (was_free b p byte own)) ∙ full next.pos (omega (arith, within, same, long)))

  -- pairs that stay are where they were
  module _ (c d : List (BucketView K V)) (stay : KeepsPlaces c d) where
    pub own_still : (j : ℕ) (p : K × V) → Contains (live_pairs (bucket_at c j).own) p → Contains (live_pairs (bucket_at d j).own) p
    own_still j p has =
        let (slot, here) = slot_of live_pair (bucket_at c j).own p has in
        let occupied = live_not_free (slot_at (bucket_at c j).own slot) (live_from_pair (slot_at (bucket_at c j).own slot) p here) in
        contains_at live_pair refl (bucket_at d j).own slot p (ap live_pair (stay j (record { block = 0; pos = slot }) occupied) ∙ here)

    pub chain_still : (j : ℕ) (p : K × V) → StandsInChain (bucket_at c j) p → StandsInChain (bucket_at d j) p
    chain_still j p has =
        let (i, pos, here) = in_row live_pair (bucket_at c j).chain p has in
        let x = slot_at (row_at (bucket_at c j).chain i) pos in
        let occupied = live_not_free x (live_from_pair x p here) in
        from_row live_pair refl (bucket_at d j).chain i pos p (ap live_pair (stay j (record { block = suc i; pos = pos }) occupied) ∙ here)

    pair_still : (j : ℕ) (p : K × V) → Contains (pairs_in (bucket_at c j)) p → Contains (pairs_in (bucket_at d j)) p
    pair_still j p has = elim (own_or_chain (bucket_at c j) p has) [
      | inl own ↦ in_own (bucket_at d j) p (own_still j p own)
      | inr chain ↦ in_chain (bucket_at d j) p (chain_still j p chain)
    ]

    full_still : (j : ℕ) → IsFull (bucket_at c j) → IsFull (bucket_at d j)
    full_still j full slot below =
        ap is_free (stay j (record { block = 0; pos = slot }) (full slot below)) ∙ full slot below

    went_still : (p q : K × V) → WentFirst c p q → WentFirst d p q
    went_still p q (inl (j, own)) = inl (j, own_still j p own)
    went_still p q (inr (inl (j, chain))) = inr (inl (j, chain_still j q chain))
    went_still p q (inr (inr (i, j, apart, one, two))) = inr (inr (i, j, apart, pair_still i p one, pair_still j q two))

  landed_still : (c d : List (BucketView K V)) → KeepsPlaces c d → (p : K × V) → HasLandedFull c p → HasLandedFull d p
  landed_still c d stay p (inl (j, own)) = inl (j, own_still c d stay j p own)
  landed_still c d stay p (inr (j, chain, full)) = inr (j, chain_still c d stay j p chain, full_still c d stay j full)

  pub order_still : (c d : List (BucketView K V)) → KeepsPlaces c d → (ps : List (K × V)) → WentInOrder c ps → WentInOrder d ps
  order_still c d stay [] order = order
  order_still c d stay (p ∷ ps) order =
      ((λ k q below. went_still c d stay p _ (order.0 k q below)), order_still c d stay ps order.1)

  -- one more pair, before which all others have moved
  order_more : (c : List (BucketView K V)) (ps : List (K × V)) (q : K × V) → WentInOrder c ps → All (λ p. WentFirst c p q) ps
      → WentInOrder c (ps ++ q ∷ [])
  order_more c [] q order all = (All-nil (λ r. WentFirst c q r), tt)
  order_more c (p ∷ ps) q order all =
      let before = λ (r : K × V). WentFirst c r q in
      let behind = λ (r : K × V). WentFirst c p r in (
        All-append behind ps (q ∷ []) order.0 (All-cons behind q [] (All-head before p ps all) (All-nil behind)),
        order_more c ps q order.1 (All-tail before p ps all),
      )

  pub in_order_first : (s : BucketView K V) (c : List (BucketView K V)) → MoveInOrder s s c
  in_order_first s c = record { gone = []; rest = refl; landed = All-nil (HasLandedFull c); order = tt }

  pub in_order_last : (s0 s : BucketView K V) (c : List (BucketView K V)) → MoveInOrder s0 s c → pairs_in s ≡ []
      → WentInOrder c (pairs_in s0)
  in_order_last s0 s c amid none =
      let all : pairs_in s0 ≡ amid.gone = amid.rest ∙ ap (λ ps. amid.gone ++ ps) none ∙ append-nil amid.gone in
      rw all amid.order

  -- p, the first pair of s, moves to bucket j of c, and t is left
  module _ (kind j b : ℕ) (s0 s t : BucketView K V) (c : List (BucketView K V)) (p : K × V) (front : pairs_in s ≡ p ∷ pairs_in t)
      (laws : IsBucketOf kind (bucket_at c j)) (within : j < length c) (room : first_place is_free (bucket_at c j) ≡ None → ⊥)
      (amid : MoveInOrder s0 s c) where
    abbrev target : BucketView K V
    target = slots_with (bucket_at c j) p b

    abbrev d : List (BucketView K V)
    d = set c j target

    put_is : bucket_at d j ≡ target
    put_is = (changes_at j target c within).here

    stay : KeepsPlaces c d
    stay = all_stay p b laws (changes_at j target c within) room

    put_own : (place_for_next (bucket_at c j)).block ≡ 0 → Contains (live_pairs (bucket_at d j).own) p
    put_own own = rw put_is (contains_at live_pair refl target.own (place_for_next (bucket_at c j)).pos p
        (ap live_pair (own_put (bucket_at c j) p b own)))

    put_chain : ((place_for_next (bucket_at c j)).block ≡ 0 → ⊥) → StandsInChain (bucket_at d j) p
    put_chain other = rw put_is (chain_put (bucket_at c j) p b other)

    put : HasLandedFull d p
    put = elim (cases_eq (place_for_next (bucket_at c j)).block 0) [
      | inl own ↦ inl (j, put_own own)
      | inr other ↦ inr (
        j,
        put_chain other,
        full_still c d stay j (full_by (bucket_at c j) (position is_free (bucket_at c j).own) laws.own_long refl other),
      )
    ]

    -- a pair that landed in a chain did so because no own slot was free, so p gets no own slot there
    went_now : (r : K × V) → HasLandedFull c r → WentFirst d r p
    went_now r landed = elim (cases_eq (place_for_next (bucket_at c j)).block 0) [
      | inr other ↦ inr (inl (j, put_chain other))
      | inl own ↦ elim landed [
        | inl there ↦ inl (there.0, own_still c d stay there.0 r there.1)
        | inr there ↦ inr (inr (
          there.0,
          j,
          (λ same. not_full (bucket_at c j) p b laws.own_long own (subst (λ (i : ℕ). IsFull (bucket_at c i)) same there.2)),
          in_chain (bucket_at d there.0) r (chain_still c d stay there.0 r there.1),
          in_own (bucket_at d j) p (put_own own),
        ))
      ]
    ]

    pub goes_on : MoveInOrder s0 t d
    goes_on = record {
      gone = amid.gone ++ p ∷ [];
      rest = amid.rest ∙ ap (λ ps. amid.gone ++ ps) front ∙ sym (append_assoc amid.gone (p ∷ []) (pairs_in t));
      landed = All-append (HasLandedFull d) amid.gone (p ∷ []) (λ k r below. landed_still c d stay _ (amid.landed k r below))
          (All-cons (HasLandedFull d) p [] put (All-nil (HasLandedFull d)));
      order = order_more d amid.gone p (order_still c d stay amid.gone amid.order) (λ k r below. went_now _ (amid.landed k r below));
    }
