-- What a put does to the slots of a cache's bucket: it never fails there, and the chain stays.
use Rattle.bucket_table.proofs.Words.{Bool, BucketView, CACHE, Contains, Contains-append_left, IfNone, IfSome, None, Option, Place, Some, ℕ}
use Rattle.bucket_table.proofs.Words.{ap, false, first_place, flattened, free, get_or-set_same, is_free, length-set, live_from_pair}
use Rattle.bucket_table.proofs.Words.{live_pair, refl, slot_at, slots_after_insertion, slots_evicted, slots_touched, subst, true, ◌↔◌, ◌∙◌}
use Rattle.bucket_table.proofs.Words.{◌∷◌, ◌≡◌}
use Rattle.bucket_slots.specs.Placing.{place_for_next, slots_with}
use Rattle.bucket_table.specs.Map.Putting.{Goes, slots_left, slots_put}
use Rattle.std.proofs.Common.{IsNone, OnSome}
use Rattle.std.specs.List.{position}
use Rattle.bucket_slots.specs.Clearing.{slots_for_insertion}
use Rattle.bucket_slots.specs.Evicting.{slot_to_evict}
use Rattle.bucket_slots.proofs.BucketRecency.{none_free}
use Rattle.bucket_slots.proofs.ChangedSlots.{live_inside}
use Rattle.bucket_slots.proofs.FirstPlaces.{first_from-None}

module _ {K V : Type 0} where
  -- what an eviction states of a bucket
  pub goes : (s t : BucketView K V) (r : Option (K × V)) → IsNone r ↔ Contains s.own free
      → IfSome r (λ pair. live_pair (slot_at s.own (slot_to_evict s)) ≡ Some pair) → OnSome r (t ≡ slots_evicted s) → IfNone r (t ≡ s)
      → Goes s r × (t ≡ slots_left s r)
  goes s t None none there gone same = (none.0 refl, same)
  goes s t (Some pair) none there gone same = ((λ has. let no = none.1 has in absurd cc, there), gone)

  -- an own slot is then free
  left_free : (s : BucketView K V) (gone : Option (K × V)) → Goes s gone → Contains (slots_left s gone).own free
  left_free s None has = has
  left_free s (Some pair) went =
      let pos = slot_to_evict s in
      let within = live_inside s.own pos (live_from_pair (slot_at s.own pos) pair went.1) in
      (pos, rw length-set within, get_or-set_same s.own pos free free within)

  placed_own : (keeps : Bool) (t : BucketView K V) (pair : K × V) (byte : ℕ) (found : Option ℕ) → position is_free t.own ≡ found
      → Contains t.own free → slots_touched keeps (slots_with t pair byte) (place_for_next t) ≡ slots_put keeps t pair byte
  placed_own keeps t pair byte None is has = absurd (none_free t.own is has)
  placed_own true t pair byte (Some pos) is has = rw is refl
  placed_own false t pair byte (Some pos) is has = rw is refl

  -- so a pair that is placed and touched is in an own slot
  pub touched_own : (keeps : Bool) (s : BucketView K V) (gone : Option (K × V)) (pair : K × V) (byte : ℕ) → Goes s gone
      → slots_touched keeps (slots_with (slots_left s gone) pair byte) (place_for_next (slots_left s gone))
      ≡ slots_put keeps (slots_left s gone) pair byte
  touched_own keeps s gone pair byte went =
      let t = slots_left s gone in
      placed_own keeps t pair byte (position is_free t.own) refl (left_free s gone went)

  -- the pair is in an own slot, so the chain stays
  pub chain-slots_put : (keeps : Bool) (s : BucketView K V) (gone : Option (K × V)) (pair : K × V) (byte : ℕ) → Goes s gone
      → (slots_put keeps (slots_left s gone) pair byte).chain ≡ s.chain
  chain-slots_put keeps s None pair byte went = refl
  chain-slots_put keeps s (Some gone) pair byte went = refl

  -- and there is a free place
  left_room : (s : BucketView K V) (gone : Option (K × V)) → Goes s gone → first_place is_free (slots_left s gone) ≡ None → ⊥
  left_room s gone went none =
      let t = slots_left s gone in
      let has = Contains-append_left t.own (flattened t.chain) free (left_free s gone went) in
      let no = first_from-None is_free 0 (t.own ∷ t.chain) none has.0 free has.1 in
      let yes = ap is_free has.2 in
      absurd cc

  -- an insertion into a cache looks for no tombstones
  for_insertion-cache : (kind : ℕ) (keeps : ℕ → Bool) (s : BucketView K V) → kind ≡ CACHE → slots_for_insertion kind keeps s ≡ s
  for_insertion-cache kind keeps s cache = rw cache refl

  pub after_insertion-cache : (kind : ℕ) (keeps : ℕ → Bool) (s : BucketView K V) (pair : K × V) (byte : ℕ) → kind ≡ CACHE
      → slots_after_insertion kind keeps s pair byte ≡ slots_with s pair byte
  after_insertion-cache kind keeps s pair byte cache = rw cache refl

module _ {K V : Type 0} (kind : ℕ) (marks : ℕ → Bool) (s t : BucketView K V) (gone : Option (K × V)) (cache : kind ≡ CACHE)
    (is : t ≡ slots_left s gone) where
  -- so it doesn't fail
  pub never_full : Goes s gone → first_place is_free (slots_for_insertion kind marks t) ≡ None → ⊥
  never_full went none = left_room s gone went
      (subst (λ (b : BucketView K V). first_place is_free b ≡ None) (for_insertion-cache kind marks t cache ∙ is) none)

  -- and what it leaves, after the pair is touched
  pub put_is : Goes s gone → (keeps : Bool) (pair : K × V) (byte : ℕ) (at : Place) (after new : BucketView K V)
      → at ≡ place_for_next (slots_for_insertion kind marks t) → after ≡ slots_after_insertion kind marks t pair byte
      → new ≡ slots_touched keeps after at → new ≡ slots_put keeps (slots_left s gone) pair byte
  put_is went keeps pair byte at after new place put touched =
      let b = slots_left s gone in
      let in_it : after ≡ slots_with b pair byte = put ∙ after_insertion-cache kind marks t pair byte cache
      ∙ ap (λ (u : BucketView K V). slots_with u pair byte) is in
      let there : at ≡ place_for_next b = place
      ∙ ap (λ (u : BucketView K V). place_for_next u) (for_insertion-cache kind marks t cache ∙ is) in
      touched ∙ ap (λ (u : BucketView K V). slots_touched keeps u at) in_it
      ∙ ap (λ (q : Place). slots_touched keeps (slots_with b pair byte) q) there ∙ touched_own keeps s gone pair byte went
