-- Which pair a step of an extraction calls the function with, and what it leaves.
use Rattle.bucket_table.proofs.Words.{ArraysView, Bool, BucketView, IsEquivalence, IsOneMap, List, None, Option, Place, Some, [], ap}
use Rattle.bucket_table.proofs.Words.{append-nil, append_assoc, arith, bucket_at, false, inl, inr, length, pairs_of, refl, same_Some, subst}
use Rattle.bucket_table.proofs.Words.{sym, true, ℕ, ◌++◌, ◌<◌, ◌∙◌, ◌∷◌, ◌≡◌, ◌≢◌, ◌⊎◌}
use Rattle.std.specs.Borrow.{Bor, MutBor}
use Rattle.std.specs.List.Retain.{ExtractsNext}
use Rattle.std.proofs.lemmas.Option.{none-some}
use Rattle.bucket_slots.specs.declared.bucket.TheConstants.{INDEX}
use Rattle.bucket_table.specs.Map.LookingUp.{pairs_in_all}
use Rattle.bucket_table.specs.Walking.Extracting.{AsksPair, ExtractView, Extracts, ExtractsAt, KeepsShape}
use Rattle.bucket_table.specs.Walking.Retains.{AreLeftOf}
use Rattle.bucket_table.specs.Walking.Row.{MovesOn, pairs_from, row_of, row_with}
use Rattle.bucket_table.proofs.Walking.Row.{exchanges, has_pairs, pairs_in_row, row_of-row_with, same_left, shape_both, shape_with}
use Rattle.bucket_table.proofs.Walking.Leaving.{all_left_at, all_left_both, all_left_same, gone_changed}
use Rattle.bucket_table.proofs.Walking.RetainingTable.{left_ahead, left_behind, one_map_losing}

module _ {K V : Type 0} where
  -- what happened to a pair, by what is returned
  abbrev Outcome : ℕ → Bool → K × V → List (K × V) → Option (K × V) → Type 0
  Outcome kind answer later stay picked =
      ((answer ≡ false) × (stay ≡ later ∷ []) × (picked ≡ None)) ⊎ ((answer ≡ true) × (stay ≡ []) × (kind ≢ INDEX → picked ≡ Some later))

  refused_by : {kind : ℕ} {answer : Bool} {later : K × V} {stay : List (K × V)} → kind ≢ INDEX → Outcome kind answer later stay None
      → (answer ≡ false) × (stay ≡ later ∷ [])
  refused_by frees (inl (is, there, none)) = (is, there)
  refused_by {later = later} frees (inr (is, gone, out)) = absurd (none-some later (out frees))

  picked_by : {kind : ℕ} {answer : Bool} {later pair : K × V} {stay : List (K × V)} → kind ≢ INDEX
      → Outcome kind answer later stay (Some pair)
      → (answer ≡ true) × (stay ≡ []) × (later ≡ pair)
  picked_by {pair = pair} frees (inl (is, there, none)) = absurd (none-some pair (sym none))
  picked_by {later = later} {pair = pair} frees (inr (is, gone, out)) = (is, gone, sym (same_Some pair later (out frees)))

module _ {S K V : Type 0} (step : S → Bor K → MutBor V → Bool → MutBor V → S → Type 0) (kind : ℕ) where
  -- the function didn't pick the pairs that are no longer left, and they are as it left them
  pub record IsExtracting (first : S) (old : ExtractView K V) (state : S) (now : ExtractView K V) : Type 0 where
    pub kept : List (K × V)
    pub asked : (picked : Option (K × V)) (last : S) (more rest : List (K × V))
        → ExtractsNext (AsksPair step) state now.left picked last more rest
        → ExtractsNext (AsksPair step) first old.left picked last (kept ++ more) rest
    pub stay : (front : List (K × V)) → pairs_of old.arrays ≡ front ++ old.left → pairs_of now.arrays ≡ front ++ (kept ++ now.left)
    pub one_map : (eq : K → K → Bool) → IsEquivalence eq → (hash : K → ℕ) → IsOneMap eq hash old.arrays → IsOneMap eq hash now.arrays
    pub others : KeepsShape old.arrays now.arrays
    pub left : AreLeftOf kind 0 (row_of old.arrays) (row_of now.arrays)

  pub sets_out : {first : S} {old now : ExtractView K V} → now ≡ old → IsExtracting first old first now
  sets_out {old = old} same = rw same (record {
    kept = [];
    asked = λ picked last more rest extracts. extracts;
    stay = λ front is. is;
    one_map = λ eq laws hash one. one;
    others = record { minimum = refl; maximum = refl; tickets = refl; current_len = refl; linked_len = refl };
    left = all_left_same kind 0 (row_of old.arrays);
  })

  -- no pair was left
  pub picks_none : {first state : S} {old : ExtractView K V} {now : ArraysView K V} (from_index index : ℕ) (from to : Place)
      → IsExtracting first old state (record { arrays = now; left = pairs_from (row_of now) from_index from })
      → pairs_from (row_of now) from_index from ≡ [] → pairs_from (row_of now) index to ≡ []
      → Extracts kind (AsksPair step) first old None (record { arrays = now; left = pairs_from (row_of now) index to }) state
  picks_none {first} {state} {old} {now} from_index index from to amid none end = rw end (record {
    kept = amid.kept;
    asked = subst (λ kept. ExtractsNext (AsksPair step) first old.left None state kept []) (append-nil amid.kept)
        (amid.asked None state [] []
        (subst (λ (left : List (K × V)). ExtractsNext (AsksPair step) state left None state [] []) (sym none) (refl, refl, refl, refl)));
    stay = λ front were. amid.stay front were ∙ ap (λ left. front ++ (amid.kept ++ left)) none;
    one_map = amid.one_map;
    others = amid.others;
    current = left_ahead kind 0 old.arrays.current old.arrays.linked now.current now.linked amid.others.current_len amid.left;
    linked = left_behind kind 0 old.arrays.current old.arrays.linked now.current now.linked amid.others.current_len amid.left;
  })

  -- the first pair isn't picked, and then the function is called with the others
  one_more : {state last final : S} {pair later : K × V} {left more rest : List (K × V)} {picked : Option (K × V)}
      → AsksPair step state pair false last later → ExtractsNext (AsksPair step) last left picked final more rest
      → ExtractsNext (AsksPair step) state (pair ∷ left) picked final (later ∷ more) rest
  one_more {last = last} {later = later} {more = more} call extracts = (false, last, later, call, (more, extracts, refl))

  -- the function was called with a pair: what was after it is left
  pub after : {state last : S} {pair : K × V} {now new : ArraysView K V} {index : ℕ} {at to : Place} {picked : Option (K × V)}
      → index < length (row_of now) → ExtractsAt step kind state pair now index at picked new to last
      → pairs_from (row_of new) index to ≡ pairs_from (row_of now) index at
  after {now = now} {index = index} {at = at} {to = to} within ask =
      ap (λ (arrays : ArraysView K V). pairs_from (row_of arrays) index to) ask.new_is
      ∙ ap (λ (row : List (BucketView K V)). pairs_from row index to) (row_of-row_with now index ask.left)
      ∙ same_left (row_of now) index within ask.left at to ask.slot.ahead

  module _ (frees : kind ≢ INDEX) {first state : S} {old : ExtractView K V} {now : ArraysView K V} {from_index index : ℕ}
      {from at : Place} {bucket : BucketView K V} (moves : MovesOn (row_of now) from_index from bucket index at)
      (amid : IsExtracting first old state (record { arrays = now; left = pairs_from (row_of now) from_index from }))
    where
      abbrev Asked : S → ArraysView K V → Place → Option (K × V) → Type 0
      Asked last new to picked = ExtractsAt step kind state moves.moves.pair now index at picked new to last

      module _ {last : S} {new : ArraysView K V} {to : Place} where
        one_map_after : {picked : Option (K × V)} → Asked last new to picked
            → (eq : K → K → Bool) → IsEquivalence eq → (hash : K → ℕ) → IsOneMap eq hash old.arrays → IsOneMap eq hash new
        one_map_after ask eq laws hash one =
            rw ask.new_is
            (one_map_losing laws hash (amid.one_map eq laws hash one) moves.within
            (has_pairs (bucket_at (row_of now) index) moves.from at moves.moves)
            (gone_changed kind 0 ask.slots.0 (bucket_at (row_of now) index) ask.left ask.slots.1).0)

        others_after : {picked : Option (K × V)} → Asked last new to picked → KeepsShape old.arrays new
        others_after ask = rw ask.new_is (shape_both old.arrays now _ amid.others (shape_with now index ask.left))

        left_after : {picked : Option (K × V)} → Asked last new to picked → AreLeftOf kind 0 (row_of old.arrays) (row_of new)
        left_after ask =
            all_left_both kind 0 (row_of old.arrays) (row_of now) (row_of new) amid.left
            (rw (ask.new_is, row_of-row_with now index ask.left) (all_left_at kind 0 (row_of now) index ask.left moves.within ask.slots))

        stay_after : {picked : Option (K × V)} (ask : Asked last new to picked) {stay : List (K × V)} (front : List (K × V))
            → ask.slot.stay ≡ stay
            → pairs_of old.arrays ≡ front ++ old.left
            → pairs_of new ≡ (front ++ amid.kept) ++ (stay ++ pairs_from (row_of new) index to)
        stay_after ask front stay_is were =
            let are = amid.stay front were ∙ sym (append_assoc front amid.kept _)
            ∙ ap (λ left. (front ++ amid.kept) ++ left) moves.first in
            ap pairs_of ask.new_is ∙ sym (pairs_in_row (row_with now index ask.left))
            ∙ ap pairs_in_all (row_of-row_with now index ask.left)
            ∙ exchanges (row_of now) index moves.within ask.left moves.from at moves.moves.pair _ (front ++ amid.kept) moves.moves.ahead
            ask.slot.pairs (pairs_in_row now ∙ are)
            ∙ (λ j. (front ++ amid.kept) ++ (stay_is j ++ sym (after moves.within ask) j))

        -- fewer pairs are left
        pub fewer : {picked : Option (K × V)} → Asked last new to picked
            → length (pairs_from (row_of new) index to) < length (pairs_from (row_of now) from_index from)
        fewer ask = omega (arith, ap length moves.first, ap length (after moves.within ask))

        -- the pair isn't picked
        pub refuses : Asked last new to None
            → IsExtracting first old last (record { arrays = new; left = pairs_from (row_of new) index to })
        refuses ask =
            let by = refused_by frees ask.slot.outcome in
            let call : AsksPair step state moves.moves.pair false last ask.slot.later =
            subst (λ answer. AsksPair step state moves.moves.pair answer last ask.slot.later) by.0 ask.slot.asked in
            record {
              kept = amid.kept ++ ask.slot.later ∷ [];
              asked = λ picked final more rest extracts.
                  subst (λ kept. ExtractsNext (AsksPair step) first old.left picked final kept rest)
                  (sym (append_assoc amid.kept (ask.slot.later ∷ []) more))
                  (amid.asked picked final (ask.slot.later ∷ more) rest
                  (subst (λ left. ExtractsNext (AsksPair step) state left picked final (ask.slot.later ∷ more) rest) (sym moves.first)
                  (one_more call
                  (subst (λ left. ExtractsNext (AsksPair step) last left picked final more rest) (after moves.within ask) extracts))));
              stay = λ front were.
                  stay_after ask front by.1 were
                  ∙ append_assoc front amid.kept _
                  ∙ ap (λ left. front ++ left) (sym (append_assoc amid.kept (ask.slot.later ∷ []) (pairs_from (row_of new) index to)));
              one_map = one_map_after ask;
              others = others_after ask;
              left = left_after ask;
            }

        -- or it is picked
        pub picks : {pair : K × V} → Asked last new to (Some pair)
            → Extracts kind (AsksPair step) first old (Some pair) (record { arrays = new; left = pairs_from (row_of new) index to }) last
        picks {pair = pair} ask =
            let by = picked_by frees ask.slot.outcome in
            let call : AsksPair step state moves.moves.pair true last pair =
            subst (λ later. AsksPair step state moves.moves.pair true last later) by.2
            (subst (λ answer. AsksPair step state moves.moves.pair answer last ask.slot.later) by.0 ask.slot.asked) in
            record {
              kept = amid.kept;
              asked = subst (λ kept. ExtractsNext (AsksPair step) first old.left (Some pair) last kept (pairs_from (row_of new) index to))
                  (append-nil amid.kept)
                  (amid.asked (Some pair) last [] (pairs_from (row_of new) index to)
                  (subst (λ left. ExtractsNext (AsksPair step) state left (Some pair) last [] (pairs_from (row_of new) index to))
                  (sym moves.first) (true, last, pair, call, (refl, refl, refl, after moves.within ask))));
              stay = λ front were. stay_after ask front by.1 were ∙ append_assoc front amid.kept _;
              one_map = one_map_after ask;
              others = others_after ask;
              current = left_ahead kind 0 old.arrays.current old.arrays.linked new.current new.linked (others_after ask).current_len
                  (left_after ask);
              linked = left_behind kind 0 old.arrays.current old.arrays.linked new.current new.linked (others_after ask).current_len
                  (left_after ask);
            }
