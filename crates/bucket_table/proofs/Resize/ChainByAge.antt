-- The pairs of a bucket's chain, after its own slots: a walk that removes them leaves the own slots.
use Rattle.bucket_table.proofs.Words.{Bool, BucketView, List, MovesToNext, None, Option, Place, Slot, Some, ℕ, ap, arith, block_at, cond}
use Rattle.bucket_table.proofs.Words.{drop, drop_all, false, false≢true, flattened, free, is_live, length, live_pair, live_pairs, nat_lt}
use Rattle.bucket_table.proofs.Words.{pairs_ahead, refl, row_at, rows_with, slot_in, slots_without, suc, sym, true, zero, ◌++◌, ◌+◌, ◌<◌}
use Rattle.bucket_table.proofs.Words.{◌∙◌, ◌∷◌, ◌≡◌, ◌≤◌}
use Rattle.bucket_table.specs.Resize.Renewing.{chain_pairs}
use Rattle.std.specs.Option.{is_some, option_map, option_or}
use Rattle.bucket_slots.specs.BucketView.{first_from, place_or_null}
use Rattle.bucket_slots.specs.Removing.{place_after, place_after_at, slots_without_at}
use Rattle.bucket_slots.specs.Slots.{all_free}
use Rattle.bucket_slots.specs.Walking.{next_in, next_place, position_after}
use Rattle.bucket_slots.proofs.FirstPlaces.{first_from-Some}
use Rattle.bucket_table.proofs.Walking.Row.{moves_past}

-- a place that was found
found_place : (found : Option Place) (next : Place) → is_some found ≡ true → next ≡ place_or_null found → found ≡ Some next
found_place None next some is = absurd (false≢true some)
found_place (Some place) next some is = ap (λ (p : Place). Some p) (sym is)

-- where a pointer is after its block is dropped, with other blocks after it or not, or stays
place_behind : (goes more : Bool) (i pos : ℕ) (place : Place)
    → place
    ≡ cond goes (cond more (record { block = i + 1; pos = 32 }) (record { block = i; pos = 31 })) (record { block = i + 1; pos = pos })
    → place.block ≡ 0 → place.pos ≡ 31
place_behind true true i pos place is none = let number = ap (λ (p : Place). p.block) is in absurd (omega (arith, number, none))
place_behind true false i pos place is none = ap (λ (p : Place). p.pos) is
place_behind false more i pos place is none = let number = ap (λ (p : Place). p.block) is in absurd (omega (arith, number, none))

module _ {K V : Type 0} where
  -- after the own slots, the chain's pairs are ahead
  pub chain_ahead : (bucket : BucketView K V) (at : Place) → length bucket.own ≡ 32 → at ≡ record { block = 0; pos = 31 }
      → chain_pairs bucket ≡ pairs_ahead bucket at
  chain_ahead bucket at long is =
      rw is (ap (λ ahead. live_pairs (ahead ++ flattened bucket.chain)) (sym (drop_all 32 bucket.own (omega (arith, long)))))

  -- a place that is found is in the pointer's block or after it
  found_behind : (block : ℕ) (rows : List (List (Slot K V))) (here : Option ℕ) (next : Place)
      → option_or (option_map (λ pos. record { block = block; pos = pos }) here) (first_from is_live (block + 1) rows) ≡ Some next
      → block ≤ next.block
  found_behind block rows (Some pos) next is =
      let same : record { block = block; pos = pos } ≡ next = cc in
      omega (arith, ap (λ (p : Place). p.block) same)
  found_behind block rows None next is = let later = (first_from-Some is_live (block + 1) rows next is).0 in omega (arith, later)

  -- and from the last own slot on it is in the chain
  found_in_chain : (bucket : BucketView K V) (block pos : ℕ) (next : Place) → length bucket.own ≡ 32 → (block ≡ 0 → pos ≡ 31)
      → next_place bucket (record { block = block; pos = pos }) ≡ Some next → 0 < next.block
  found_in_chain bucket zero pos next long past is =
      let none : next_in 32 bucket.own ≡ None = rw (drop_all 32 bucket.own (omega (arith, long))) refl in
      let later = (first_from-Some is_live 1 bucket.chain next (rw (past refl, none) at is)).0 in
      omega (arith, later)
  found_in_chain bucket (suc block) pos next long past is =
      let here = next_in (position_after pos) (block_at bucket (suc block)) in
      omega (arith, found_behind (suc block) (drop (suc block) bucket.chain) here next is)

  -- the next pair is taken, and the others are ahead
  pub first_taken : (bucket left : BucketView K V) (at next after : Place) (pair : K × V) → MovesToNext bucket at next
      → live_pair (slot_in bucket next) ≡ Some pair → pairs_ahead left after ≡ pairs_ahead bucket next
      → pairs_ahead bucket at ≡ pair ∷ pairs_ahead left after
  first_taken bucket left at next after pair moves here same =
      moves_past bucket at next pair moves here ∙ ap (λ (pairs : List (K × V)). pair ∷ pairs) (sym same)

  -- what a removal from the chain leaves
  still_own : (bucket : BucketView K V) (block pos : ℕ) → 0 < block
      → ((slots_without_at bucket block pos).own ≡ bucket.own) × ((slots_without_at bucket block pos).listed ≡ bucket.listed)
  still_own bucket zero pos later = absurd (omega arith)
  still_own bucket (suc block) pos later = (refl, refl)

  still_behind : (bucket : BucketView K V) (block pos : ℕ) → 0 < block → (place_after_at bucket block pos).block ≡ 0
      → (place_after_at bucket block pos).pos ≡ 31
  still_behind bucket zero pos later none = absurd (omega arith)
  still_behind bucket (suc block) pos later none =
      let rows = rows_with bucket.chain block pos free in
      place_behind (all_free (row_at rows block)) (nat_lt (block + 1) (length rows)) block pos _ refl none

  -- a walk over the chain leaves the own slots
  pub record KeepsOwn (old now : BucketView K V) (at : Place) : Type 0 where
    pub long : length old.own ≡ 32
    pub own : now.own ≡ old.own
    pub listed : now.listed ≡ old.listed
    pub behind : at.block ≡ 0 → at.pos ≡ 31

  pub keeps_at_first : (bucket : BucketView K V) (at : Place) → length bucket.own ≡ 32 → at ≡ record { block = 0; pos = 31 }
      → KeepsOwn bucket bucket at
  keeps_at_first bucket at long is =
      record { long = long; own = refl; listed = refl; behind = λ none. ap (λ (p : Place). p.pos) is }

  pub keeps_on : (old now left : BucketView K V) (at next after : Place) → KeepsOwn old now at → is_some (next_place now at) ≡ true
      → next ≡ place_or_null (next_place now at) → left ≡ slots_without now next → after ≡ place_after now next → KeepsOwn old left after
  keeps_on old now left at next after keeps some is left_is after_is =
      let long : length now.own ≡ 32 = ap length keeps.own ∙ keeps.long in
      let later = found_in_chain now at.block at.pos next long keeps.behind (found_place (next_place now at) next some is) in
      let (own, listed) = still_own now next.block next.pos later in
      record {
        long = keeps.long;
        own = ap (λ (b : BucketView K V). b.own) left_is ∙ own ∙ keeps.own;
        listed = ap (λ (b : BucketView K V). b.listed) left_is ∙ listed ∙ keeps.listed;
        behind = rw after_is (still_behind now next.block next.pos later);
      }
