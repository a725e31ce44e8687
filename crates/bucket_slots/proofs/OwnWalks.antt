-- A walk over the own slots of a bucket by a bitmap of the remaining ones.
use Rattle.bucket_slots.proofs.Words.{BucketView, IsLowest, IsMaskOf, MovesToNext, Place, SetsBit, [], ap, arith, drop}
use Rattle.bucket_slots.proofs.Words.{filter_map-append}
use Rattle.bucket_slots.proofs.Words.{flattened, free, is_live, IsTrue, live_pair, live_pairs, ne_eqb, pairs_ahead}
use Rattle.bucket_slots.proofs.Words.{pairs_in, append-nil, refl}
use Rattle.bucket_slots.proofs.Words.{bit_at-zero, cases_lt, inl, inr, slot_at, slot_in, suc, sym, zero, ℕ, List, ◌++◌}
use Rattle.bucket_slots.proofs.Words.{◌+◌, ◌-◌, ◌<◌, ◌∙◌, ◌∷◌, ◌≡◌, ◌≢◌, ◌≤◌, ◌^◌}
use Rattle.std.proofs.Math.Seq.{drop-nil}
use Rattle.std.proofs.lemmas.Nat.Bits.{bit_at_above}
use Rattle.bucket_slots.specs.ArrayView.{bucket_at}
use Rattle.bucket_slots.specs.Layout.Bitmaps.{KeepsAfter}
use Rattle.bucket_slots.specs.Layout.Digests.{AreDigests, DigestLists, IsDigest, digest_at}
use Rattle.bucket_slots.specs.OwnWalks.{AreAllAfter, AreAllOwn, AreOwnAfter, NamesFrom}
use Rattle.bucket_slots.specs.Walking.{position_after}
use Rattle.bucket_slots.proofs.LiveMasks.{named_live, names_all, names_next, next_pair, no_pair}
use Rattle.bucket_slots.proofs.Masks.{bit-mask}
use Rattle.bucket_slots.proofs.NextPlaces.{pairs_ahead-inside}
use Rattle.bucket_slots.proofs.NextSlots.{live_pairs-live}

-- no bit is past the last own slot
pub keeps_none : (bits : ℕ) (at : Place) (from : ℕ) → bits < 2 ^ 32 → (at.pos ≤ 32 → from ≡ position_after at.pos)
    → 32 ≤ from
    → KeepsAfter bits at 0
keeps_none bits at from fits near past = record {
  own = λ own. record {
    ahead = λ i after. bit_at-zero i ∙ sym (bit_at_above bits 32 i fits (omega (arith, after, beyond)));
    behind = λ i before. bit_at-zero i;
  };
  chained = λ other. refl;
}
  where
    beyond : 32 ≤ position_after at.pos
    beyond = elim (cases_lt 32 at.pos) [
      | inl far ↦ rw (ne_eqb at.pos 32 (λ same. omega (arith, same, far))) (omega (arith, far))
      | inr inside ↦ omega (arith, near inside, past)
    ]

module _ {K V : Type 0} where
  -- the live own slots that are after an own place
  pub own_after : (bucket : BucketView K V) (live : ℕ) (at : Place) (left : ℕ) → IsMaskOf is_live bucket.own live
      → KeepsAfter live at left → at.block ≡ 0 → AreOwnAfter bucket at left
  own_after bucket live at left mask keeps own =
      let from = keeps.own own in
      record {
        own = own;
        names = record {
          ahead = λ i after. from.ahead i after ∙ bit-mask is_live bucket.own live mask i free refl;
          behind = from.behind;
        };
      }

  -- if there are some, the place is an own one
  pub some_after : (bucket : BucketView K V) (live : ℕ) (at : Place) (left : ℕ) → IsMaskOf is_live bucket.own live
      → KeepsAfter live at left → left ≢ 0 → AreOwnAfter bucket at left
  some_after bucket live at left mask keeps some = go at.block refl
    where
      go : (block : ℕ) → at.block ≡ block → AreOwnAfter bucket at left
      go zero is = own_after bucket live at left mask keeps is
      go (suc block) is = absurd (some (keeps.chained (λ own. omega (arith, is, own))))

  -- if there are none and no chain, no pair is ahead
  none_ahead : (bucket : BucketView K V) (live block pos : ℕ) → AreAllOwn bucket live
      → KeepsAfter live (record { block = block; pos = pos }) 0
      → pairs_ahead bucket (record { block = block; pos = pos }) ≡ []
  none_ahead bucket live zero pos all keeps =
      let from = keeps.own refl in
      let names : NamesFrom bucket.own 0 (position_after pos) = record {
        ahead = λ i after. from.ahead i after ∙ bit-mask is_live bucket.own live all.mask i free refl;
        behind = from.behind;
      } in
      rw (all.chainless, append-nil (drop (position_after pos) bucket.own)) (no_pair bucket.own (position_after pos)
      names)
  none_ahead bucket live (suc block) pos all keeps =
      rw (all.chainless, drop-nil (position_after pos)) refl

  pub all_after : (bucket : BucketView K V) (live : ℕ) (at : Place) (left : ℕ) → AreAllOwn bucket live
      → KeepsAfter live at left
      → AreAllAfter bucket at left
  all_after bucket live at left all keeps = record {
    none = λ none. none_ahead bucket live at.block at.pos all (rw none at keeps);
    some = some_after bucket live at left all.mask keeps;
  }

  -- what a digest states that isn't stale
  pub all_own : (digests : DigestLists) (buckets : List (BucketView K V)) (index live : ℕ) → AreDigests digests buckets
      → live ≡ (digest_at digests index).live → live ≢ 2 ^ 32 - 1 → AreAllOwn (bucket_at buckets index) live
  all_own digests buckets index live are is known =
      let said = (are index (λ stale. known (is ∙ stale))).1 in
      record { mask = rw is said.mask; chainless = said.chainless }

  -- what a digest of a bucket states
  pub own_digest : (bucket : BucketView K V) (live : ℕ) (bytes : List ℕ) → IsDigest (record { live = live; bytes = bytes }) bucket
      → AreAllOwn bucket live
  own_digest bucket live bytes is = record { mask = is.mask; chainless = is.chainless }

  -- if no own slot is live and there is no chain, there is no pair
  pub no_pairs : (bucket : BucketView K V) (live : ℕ) → AreAllOwn bucket live → live ≡ 0 → pairs_in bucket ≡ []
  no_pairs bucket live all none =
      rw (all.chainless, append-nil bucket.own) (no_pair bucket.own 0 (names_all bucket.own 0 (rw none at all.mask)))

  -- the next live slot is an own one, and `rest` is the bitmap of the own ones after it
  pub record StepsOwn (bucket : BucketView K V) (at to : Place) (rest : ℕ) : Type 0 where
    pub moves : MovesToNext bucket at to
    pub live : IsTrue (is_live (slot_in bucket to))
    pub left : AreOwnAfter bucket to rest

  -- it is that of the lowest bit
  pub steps_own : (bucket : BucketView K V) (at to : Place) (left pos after : ℕ) → AreOwnAfter bucket at left
      → IsLowest left pos
      → SetsBit left pos 0 after → to ≡ record { block = 0; pos = pos } → StepsOwn bucket at to after
  steps_own bucket at to left pos after own low clears is = rw is (
      let from = position_after at.pos in
      let alive = named_live bucket.own left from pos own.names low in
      let pair = live_pairs-live (slot_at bucket.own pos) [] alive in
      let behind = flattened bucket.chain in
      let next = next_pair bucket.own left from pos pair.0 own.names low pair.1 in
      let past : position_after pos ≡ pos + 1 = rw (ne_eqb pos 32 (λ same. omega (arith, same, low.within))) refl in
      let ahead : pairs_ahead bucket (record { block = 0; pos = at.pos })
      ≡ pair.0 ∷ pairs_ahead bucket (record { block = 0; pos = pos }) =
      filter_map-append live_pair (drop from bucket.own) behind
      ∙ ap (λ pairs. pairs ++ live_pairs behind) next
      ∙ ap (λ pairs. pair.0 ∷ pairs) (sym (filter_map-append live_pair (drop (pos + 1) bucket.own) behind))
      ∙ ap (λ pairs. pair.0 ∷ pairs) (sym (pairs_ahead-inside bucket 0 pos low.within)) in
      record {
        moves = record {
          pair = pair.0;
          here = pair.1;
          ahead = ap (λ n. pairs_ahead bucket (record { block = n; pos = at.pos })) own.own ∙ ahead;
        };
        live = alive;
        left = record { own = refl; names = rw past (names_next bucket.own left from pos after own.names low clears) };
      }
      )
