-- A value beside a matching key was lent, after its slot was found.
use Rattle.bucket_table.proofs.Words.{Bool, ChangesValue, IsThere, List, Place, Side, Slot, Some, TableView, ℕ, bucket_on}
use Rattle.bucket_table.proofs.Words.{bucket_with_value, live_pair, pairs_of, same_Some, slot_in, slots_touched, subst, sym, with_bucket}
use Rattle.bucket_table.proofs.Words.{◌∙◌, ◌≡◌}
use Rattle.bucket_table.specs.Map.ByKey.{StandsAt}
use Rattle.bucket_table.specs.Map.Lending.{WritesUnder}
use Rattle.bucket_table.specs.Map.MapState.{state_of}
use Rattle.bucket_table.specs.Map.Preparing.{IsPrepared}
use Rattle.bucket_table.proofs.Scripts.CallSteps.{then_changed, there_before}

-- the pair in the slot is the one that the search found
same_there : {K V : Type 0} (matches : K → Bool) (pairs : List (K × V)) (slot : Slot K V) (p q : K × V) → live_pair slot ≡ Some p
    → IsThere matches pairs p → live_pair slot ≡ Some q → IsThere matches pairs q
same_there {K} {V} matches pairs slot p q found there lent =
    subst (λ (r : K × V). IsThere matches pairs r) (same_Some p q (sym found ∙ lent)) there

module _ {K V H : Type 0} (matches : K → Bool) (kind hash : ℕ) (old between : TableView K V H)
    (prepared : IsPrepared kind hash old between)
    (side : Side) (i : ℕ) (at : Place) (stands : StandsAt matches between.arrays side i at) (own : K) (before : V)
    (lent : live_pair (slot_in (bucket_on between.arrays side i) at) ≡ Some (own, before)) where
  there : IsThere matches (pairs_of between.arrays) (own, before)
  there = same_there matches (pairs_of between.arrays) (slot_in (bucket_on between.arrays side i) at) stands.pair (own, before) stands.slot
      stands.there lent

  -- what is lent was in the map before the unit was worked
  pub lent_there : IsThere matches (pairs_of old.arrays) (own, before)
  lent_there = there_before matches (state_of kind old) (state_of kind between) (own, before) prepared.map there

  -- and another value is written there, and the slot is touched if the call touches
  pub lent_writes : (touches : Bool) (value : V) (new : TableView K V H)
      → new ≡ with_bucket between side i (bucket_with_value (slots_touched touches (bucket_on between.arrays side i) at) at value)
      → ChangesValue (state_of kind between) (own, before) value (state_of kind new)
      → WritesUnder touches matches kind hash old before value new
  lent_writes touches value new is wrote = record {
    map = (
      own,
      there.1,
      then_changed (state_of kind old) (state_of kind between) (state_of kind new) (own, before) value prepared.map wrote,
    );
    arrays = record { between = between; prepared = prepared; done = (side, i, at, stands, is) };
  }
