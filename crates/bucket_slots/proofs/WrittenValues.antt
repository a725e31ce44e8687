-- The pairs of a bucket after a value is written.
use Rattle.bucket_slots.proofs.Words.{BucketView, IsBucketOf, IsChain, List, Place, Some, ap, block_at, bucket_with_value, cons_option}
use Rattle.bucket_slots.proofs.Words.{live_pair, pairs_ahead, pairs_in, refl, slot_in, slot_with_value, ℕ, ◌++◌, ◌∙◌, ◌∷◌, ◌≡◌}
use Rattle.bucket_slots.proofs.AheadAfterRemoval.{pairs_ahead-with_slot}
use Rattle.bucket_slots.proofs.ChangedSlots.{live_inside, slot_in-with_slot}
use Rattle.bucket_slots.proofs.PairsAfter.{live_from_pair, live_is}
use Rattle.bucket_slots.proofs.SlotFronts.{pairs_in-with_slot}

module _ {K V : Type 0} where
  -- the pairs after one value is replaced
  pub record IsValued (s : BucketView K V) (at : Place) (p : K × V) (value : V) : Type 0 where
    pub pairs : (front : List (K × V)) → pairs_in s ≡ front ++ p ∷ pairs_ahead s at
        → pairs_in (bucket_with_value s at value) ≡ front ++ (p.0, value) ∷ pairs_ahead s at
    pub ahead : pairs_ahead (bucket_with_value s at value) at ≡ pairs_ahead s at
    pub here : live_pair (slot_in (bucket_with_value s at value) at) ≡ Some (p.0, value)

  pub valued : (kind : ℕ) (s : BucketView K V) (at : Place) (p : K × V) (value : V) → IsBucketOf kind s
      → live_pair (slot_in s at) ≡ Some p → IsValued s at p value
  valued kind s at p value kept here =
      let alive = live_from_pair (slot_in s at) p here in
      let chain : IsChain s.chain = record { long = kept.blocks_long; few = kept.few } in
      let x = slot_with_value (slot_in s at) value in
      let is = live_is (slot_in s at) p here in
      let found : live_pair x ≡ Some (p.0, value) = ap (λ slot. live_pair (slot_with_value slot value)) is.1 in
      record {
        pairs = λ front was. pairs_in-with_slot kind s at p kept here x front was
            ∙ ap (λ f. front ++ cons_option f (pairs_ahead s at)) found;
        ahead = pairs_ahead-with_slot s s (bucket_with_value s at value) at at x refl kept.own_long chain alive refl refl;
        here = ap live_pair (slot_in-with_slot s at x (live_inside (block_at s at.block) at.pos alive)) ∙ found;
      }
