-- What digests state of buckets, and how it holds after a change.
use Rattle.bucket_slots.proofs.Words.{BucketView, IsMaskOf, List, SetsBit, Slot, Some, [], ap, arith, bit_and, bit_at, bit_at_and, byte_of}
use Rattle.bucket_slots.proofs.Words.{cases_eq, cond, empty_bucket, false, free, get_or, get_or-map, get_or-set_other}
use Rattle.bucket_slots.proofs.Words.{get_or-set_same, has_byte, is_free, is_marked, IsBucket, INDEX, IsLowest, IsTrue, Place}
use Rattle.bucket_slots.proofs.Words.{position, position-Some, sum_by-append, trailing_zeros, get_or-le-sum_by, bit_at_not, w32, slots_without}
use Rattle.bucket_slots.proofs.Words.{slots_with, slots_after_insertion, is_match, place_matched, first_from, None, list_any, list_any_at, list_any_none}
use Rattle.bucket_slots.proofs.Words.{cases_Bool, false≢true}
use Rattle.bucket_slots.proofs.Words.{Bool, cases_lt, inl, inr, is_live, length, length-set, live, live_pairs, marked, min}
use Rattle.bucket_slots.proofs.Words.{ones, pairs_in, refl, set, slot_at, subst, sym, true, common_steps, flattened}
use Rattle.bucket_slots.proofs.Words.{replicate, ◌≤◌, suc, with_unmade, zero, ℕ, ◌-◌, ◌<◌, ◌==◌, ◌^◌, ◌∙◌, ◌≡◌, ◌≢◌}
use Rattle.std.specs.Int.Count.{ones-ones}
use Rattle.bucket_slots.specs.ArrayView.{bucket_at}
use Rattle.bucket_slots.specs.BucketView.{block_at, bucket_with_value, row_at, slot_in, with_slot_at}
use Rattle.bucket_slots.specs.Evicting.{slots_touched}
use Rattle.bucket_slots.specs.Clearing.{is_full_with_marks}
use Rattle.bucket_slots.specs.Slots.{slot_with_value}
use Rattle.bucket_slots.proofs.BucketPlacing.{looks_at_none}
use Rattle.bucket_slots.specs.Layout.ArrayFields.{IsArray}
use Rattle.bucket_slots.specs.Layout.Digests.{Refreshes, AreDigests, ChangesOne, Digest, DigestLists, IsDigest, IsStale, KnowsNone, digest_at}
use Rattle.bucket_slots.specs.declared.bucket.TheConstants.{BUCKET_LEN}
use Rattle.bucket_slots.proofs.Counting.{length-live_pairs, length-live_pairs-append, tally}
use Rattle.bucket_slots.proofs.Bitmaps.{lowest}
use Rattle.bucket_slots.proofs.Positions.{position_at}
use Rattle.bucket_slots.proofs.ArrayParts.{part_unmade}
use Rattle.bucket_slots.proofs.Spreading.{put_in_own}
use Rattle.bucket_slots.proofs.FirstPlaces.{first_chain}
use Rattle.bucket_slots.proofs.RowMasks.{candidate_live, unmatched}
use Rattle.bucket_slots.proofs.Masks.{lowest_passes, IsLeft-first, ones-mask, position-none_left}
use Rattle.bucket_slots.proofs.Masks.{IsMaskOf-from, IsMaskOf-set, bit-mask, within}

module _ {K V : Type 0} where
  -- all digests are stale
  pub AreDigests-none : (digests : DigestLists) (buckets : List (BucketView K V)) → KnowsNone 0 digests → AreDigests digests buckets
  AreDigests-none digests buckets none index said = absurd (said (none index (omega arith)))

  -- one digest and its bucket change, and the digest is stale or that of the bucket
  pub AreDigests-set : (old new : DigestLists) (buckets : List (BucketView K V)) (index : ℕ) (bucket : BucketView K V)
      → AreDigests old buckets
      → index < length buckets → ChangesOne index old new → ((digest_at new index).live ≢ 2 ^ 32 - 1
      → (4 < length buckets) × IsDigest (digest_at new index) bucket)
      → AreDigests new (set buckets index bucket)
  AreDigests-set old new buckets index bucket kept below others here i said = elim (cases_eq i index) [
    | inl same ↦
        let there = get_or-set_same buckets index bucket empty_bucket below in
        let is = here (λ stale. said (ap (λ k. (digest_at new k).live) same ∙ stale)) in
        (rw (length-set buckets index bucket) is.0, rw (same, there) is.1)
    | inr other ↦
        let is = kept i (λ stale. said (ap (λ d. d.live) (others i other) ∙ stale)) in (
          rw (length-set buckets index bucket) is.0,
          rw (others i other, get_or-set_other buckets index i bucket empty_bucket other) is.1,
        )
  ]

  -- one digest becomes stale, and its bucket changes
  pub AreDigests-stale : (old new : DigestLists) (buckets : List (BucketView K V)) (index : ℕ) (bucket : BucketView K V)
      → AreDigests old buckets
      → index < length buckets → ChangesOne index old new → IsStale (digest_at new index) → AreDigests new (set buckets index bucket)
  AreDigests-stale old new buckets index bucket kept below others stale =
      AreDigests-set old new buckets index bucket kept below others (λ said. absurd (said stale))

  matched_bit : (slot : Slot K V) (byte own bit : ℕ) → (is_live slot ≡ true → byte_of slot ≡ Some own)
      → (is_live slot ≡ true → bit ≡ cond (own == byte) 1 0) → min bit (cond (is_live slot) 1 0) ≡ cond (has_byte byte slot) 1 0
  matched_bit (live pair stored) byte own bit is compared =
      let some : Some stored ≡ Some own = is refl in
      let same : own ≡ stored = cc in
      rw (compared refl, same) (grind (arith, common_steps))
  matched_bit free byte own bit is compared = omega arith
  matched_bit (marked pair stored) byte own bit is compared = omega arith

  -- the live own slots whose byte matches
  pub candidates_are : (digest : Digest) (bucket : BucketView K V) (byte mask : ℕ) → IsDigest digest bucket
      → IsMaskOf (λ own. own == byte) digest.bytes mask
      → IsMaskOf (has_byte byte) bucket.own (bit_and mask digest.live)
  candidates_are digest bucket byte mask d match = IsMaskOf-from (has_byte byte) bucket.own _ free refl (λ i.
      let alive = bit-mask is_live bucket.own digest.live d.mask i free refl in
      let matched : min (bit_at mask i) (cond (is_live (slot_at bucket.own i)) 1 0) ≡ cond (has_byte byte (slot_at bucket.own i)) 1 0 =
      matched_bit (slot_at bucket.own i) byte (get_or digest.bytes i 0) (bit_at mask i) (d.bytes i) (λ h.
      match i ∙ ap (λ b. cond b 1 0) (get_or-map (λ own. own == byte) digest.bytes i 0 false
      (omega (arith, d.bytes_long, d.own_long, within is_live bucket.own i free refl h)))) in
      omega (arith, bit_at_and mask digest.live i))

  -- an own slot is filled
  pub IsDigest-filled : (digest new : Digest) (bucket : BucketView K V) (pos : ℕ) (pair : K × V) (byte : ℕ) → IsDigest digest bucket
      → pos < 32 → SetsBit digest.live pos 1 new.live → new.bytes ≡ set digest.bytes pos byte
      → IsDigest new (record bucket { own = set bucket.own pos (live pair byte) })
  IsDigest-filled digest new bucket pos pair byte d below bits bytes = record {
    mask = IsMaskOf-set is_live bucket.own digest.live d.mask pos new.live (live pair byte) (omega (arith, d.own_long, below)) bits;
    bytes = λ i alive. rw bytes (elim (cases_eq i pos) [
      | inl same ↦
          rw (
            same,
            get_or-set_same bucket.own pos (live pair byte) free (omega (arith, d.own_long, below)),
            get_or-set_same digest.bytes pos byte 0 (omega (arith, d.bytes_long, below)),
          ) refl
      | inr other ↦
          let there = get_or-set_other bucket.own pos i (live pair byte) free other in
          rw (there, get_or-set_other digest.bytes pos i byte 0 other) (d.bytes i (rw there at alive))
    ]);
    bytes_long = rw bytes (length-set digest.bytes pos byte ∙ d.bytes_long);
    own_long = length-set bucket.own pos _ ∙ d.own_long;
    chainless = d.chainless;
  }

  -- an own slot is freed
  pub IsDigest-freed : (digest new : Digest) (bucket left : BucketView K V) (pos : ℕ) → IsDigest digest bucket
      → pos < 32 → SetsBit digest.live pos 0 new.live → new.bytes ≡ digest.bytes
      → left.own ≡ set bucket.own pos free → left.chain ≡ bucket.chain
      → IsDigest new left
  IsDigest-freed digest new bucket left pos d below bits bytes own chain = record {
    mask = rw own (IsMaskOf-set is_live bucket.own digest.live d.mask pos new.live free (omega (arith, d.own_long, below)) bits);
    bytes = λ i alive. rw (bytes, own) (elim (cases_eq i pos) [
      | inl same ↦
          let none : is_live (slot_at left.own i) ≡ false =
          rw (own, same, get_or-set_same bucket.own pos free free (omega (arith, d.own_long, below))) refl in
          absurd cc
      | inr other ↦
          let there = get_or-set_other bucket.own pos i free free other in
          rw there (d.bytes i (rw (own, there) at alive))
    ]);
    bytes_long = rw bytes d.bytes_long;
    own_long = rw own (length-set bucket.own pos free ∙ d.own_long);
    chainless = chain ∙ d.chainless;
  }

  free_at : (n pos : ℕ) → ◌≡◌ {A = Slot K V} (slot_at (replicate n free) pos) free
  free_at zero pos = refl
  free_at (suc n) zero = refl
  free_at (suc n) (suc pos) = free_at n pos

  -- a bucket with a live own slot is initialized
  pub made_there : (made part : List (BucketView K V)) (len i : ℕ) (released : Bool) (pos : ℕ) → with_unmade made len released ≡ part
      → i < length part → is_live (slot_at (bucket_at part i).own pos) ≡ true → i < length made
  made_there made part len i released pos same below alive = elim (cases_lt i (length made)) [
    | inl there ↦ there
    | inr past ↦
        let unmade = part_unmade made part len i released same past below in
        let none : is_live (slot_at (bucket_at part i).own pos) ≡ false = rw (← unmade, free_at 32 pos) refl in
        absurd cc
  ]

  pub free_from : (slot : Slot K V) → is_free slot ≡ true → slot ≡ free
  free_from free is = refl
  free_from slot is = cc

  module _ (old new : DigestLists) (buckets : List (BucketView K V)) (index offset size : ℕ)
      (kept : IsArray (length buckets) offset size × AreDigests old buckets) (below : index < length buckets)
      (others : ChangesOne index old new) where
    -- one digest and its bucket change in an array
    pub set_at : (bucket : BucketView K V)
        → ((digest_at new index).live ≢ 2 ^ 32 - 1 → (4 < length buckets) × IsDigest (digest_at new index) bucket)
        → IsArray (length (set buckets index bucket)) offset size × AreDigests new (set buckets index bucket)
    set_at bucket here = (
      subst (λ (n : ℕ). IsArray n offset size) (sym (length-set buckets index bucket)) kept.0,
      AreDigests-set old new buckets index bucket kept.1 below others here,
    )

    pub stale_at : IsStale (digest_at new index) → (bucket : BucketView K V)
        → IsArray (length (set buckets index bucket)) offset size × AreDigests new (set buckets index bucket)
    stale_at stale bucket = set_at bucket (λ said. absurd (said stale))

  -- a bucket of an array changes, and its digest stays true
  pub kept_at : (digests : DigestLists) (buckets : List (BucketView K V)) (index offset size : ℕ)
      → IsArray (length buckets) offset size × AreDigests digests buckets → index < length buckets → (bucket : BucketView K V)
      → ((digest : Digest) → IsDigest digest (bucket_at buckets index) → IsDigest digest bucket)
      → IsArray (length (set buckets index bucket)) offset size × AreDigests digests (set buckets index bucket)
  kept_at digests buckets index offset size kept below bucket stays =
      set_at digests digests buckets index offset size kept below (λ i other. refl) bucket
      (λ said. let is = kept.1 index said in (is.0, stays (digest_at digests index) is.1))

  valued : (slot : Slot K V) (value : V)
      → (is_live (slot_with_value slot value) ≡ is_live slot) × (byte_of (slot_with_value slot value) ≡ byte_of slot)
  valued free value = (refl, refl)
  valued (live pair byte) value = (refl, refl)
  valued (marked pair byte) value = (refl, refl)

  -- the value in a live slot changes
  pub IsDigest-valued : (digest : Digest) (b : BucketView K V) (at : Place) (value : V) → is_live (slot_in b at) ≡ true
      → IsDigest digest b → IsDigest digest (bucket_with_value b at value)
  IsDigest-valued digest b at value alive d = go at.block alive
    where
      go : (block : ℕ) → is_live (slot_at (block_at b block) at.pos) ≡ true
          → IsDigest digest (with_slot_at b block at.pos (slot_with_value (slot_at (block_at b block) at.pos) value))
      go zero here =
          let new = set b.own at.pos (slot_with_value (slot_at b.own at.pos) value) in
          let below = within is_live b.own at.pos free refl here in
          let same : (i : ℕ) → (is_live (slot_at new i) ≡ is_live (slot_at b.own i))
          × (byte_of (slot_at new i) ≡ byte_of (slot_at b.own i)) =
          λ i. elim (cases_eq i at.pos) [
            | inl e ↦ rw (e, get_or-set_same b.own at.pos (slot_with_value (slot_at b.own at.pos) value) free below)
                (valued (slot_at b.own at.pos) value)
            | inr other ↦ rw (get_or-set_other b.own at.pos i (slot_with_value (slot_at b.own at.pos) value) free other) (refl, refl)
          ] in record {
            mask = IsMaskOf-from is_live new digest.live free refl
                (λ i. bit-mask is_live b.own digest.live d.mask i free refl ∙ ap (λ x. cond x 1 0) (sym (same i).0));
            bytes = λ i stays. (same i).1 ∙ d.bytes i (sym (same i).0 ∙ stays);
            bytes_long = d.bytes_long;
            own_long = length-set b.own at.pos _ ∙ d.own_long;
            chainless = d.chainless;
          }
      go (suc i) here =
          let none : is_live (slot_at (row_at b.chain i) at.pos) ≡ false = rw d.chainless refl in
          absurd cc

  -- a slot is touched
  pub IsDigest-touched : (digest : Digest) (keeps : Bool) (b : BucketView K V) (at : Place) → IsDigest digest b
      → IsDigest digest (slots_touched keeps b at)
  IsDigest-touched digest keeps b at d = record {
    mask = d.mask;
    bytes = d.bytes;
    bytes_long = d.bytes_long;
    own_long = d.own_long;
    chainless = d.chainless;
  }

  -- all digests from an index on are stale, and the buckets before it stay
  pub AreDigests-front : (digests : DigestLists) (old new : List (BucketView K V)) (start : ℕ) → AreDigests digests old
      → KnowsNone start digests → length new ≡ length old
      → ((i : ℕ) → i < start → bucket_at new i ≡ bucket_at old i) → AreDigests digests new
  AreDigests-front digests old new start kept none long same i said = elim (cases_lt i start) [
    | inl before ↦ let is = kept i said in (rw long is.0, rw (same i before) is.1)
    | inr past ↦ absurd (said (none i past))
  ]

  -- one digest is refreshed
  pub AreDigests-refreshed : (old new : DigestLists) (buckets : List (BucketView K V)) (index : ℕ) (bucket : BucketView K V) (bits : ℕ)
      (bytes : List ℕ) → 4 < length buckets → AreDigests old buckets → ChangesOne index old new → Refreshes bits bytes (digest_at new index)
      → (bits ≢ 2 ^ 32 - 1 → IsDigest (record { live = bits; bytes = bytes }) bucket) → bucket ≡ bucket_at buckets index
      → AreDigests new buckets
  AreDigests-refreshed old new buckets index bucket bits bytes many kept others refreshed is read i said = elim (cases_eq i index) [
    | inl same ↦ (many, rw (same, ← read) (at_index refreshed (λ stale. said (ap (λ k. (digest_at new k).live) same ∙ stale))))
    | inr other ↦
        let was = kept i (λ stale. said (ap (λ d. d.live) (others i other) ∙ stale)) in
        (was.0, rw (others i other) was.1)
  ]
    where
      at_index : Refreshes bits bytes (digest_at new index) → (digest_at new index).live ≢ 2 ^ 32 - 1
          → IsDigest (digest_at new index) bucket
      at_index (inl stale) known = absurd (known stale)
      at_index (inr e) known =
          subst (λ (d : Digest). IsDigest d bucket) (sym e) (is (λ stale. known (ap (λ (d : Digest). d.live) e ∙ stale)))

  -- if no live own slot has the byte, none matches
  pub none_by_mask : (matches : K → Bool) (byte : ℕ) (bucket : BucketView K V) → IsMaskOf (has_byte byte) bucket.own 0 → bucket.chain ≡ []
      → place_matched matches byte bucket ≡ None
  none_by_mask matches byte bucket mask none =
      let want = is_match matches byte in
      let left = IsLeft-first (has_byte byte) (λ slot. want slot ≡ false) free bucket.own 0 refl (unmatched matches byte) mask in
      let nowhere = position-none_left (has_byte byte) want free bucket.own left in
      sym (first_chain want bucket.own bucket.chain (sym nowhere)) ∙ ap (first_from want 1) none

  clear_bit : (slot : Slot K V) → tally (is_marked slot) ≤ 0 → (is_live slot ≡ true → is_free slot ≡ false)
      × (is_live slot ≡ false → is_free slot ≡ true)
  clear_bit free none = (λ e. cc, λ e. refl)
  clear_bit (live pair byte) none = (λ e. refl, λ e. cc)
  clear_bit (marked pair byte) none = absurd (omega arith)

  unmarked_at : (own : List (Slot K V)) (i : ℕ) → list_any is_marked own ≡ false → i < length own → is_marked (slot_at own i) ≡ false
  unmarked_at own i none below = elim (cases_Bool (is_marked (slot_at own i))) [
    | inl is ↦ absurd (false≢true (sym none ∙ list_any_at is_marked own i free below is))
    | inr other ↦ other
  ]

  -- in a bucket without tombstones the lowest own slot that isn't live is the first free one
  free_by_mask : (kind : ℕ) (b : BucketView K V) (chained bits pos : ℕ) → IsBucket kind b chained
      → list_any is_marked b.own ≡ false → bits < 2 ^ 32 → IsMaskOf is_live b.own bits → IsLowest (2 ^ 32 - 1 - bits) pos
      → position is_free b.own ≡ Some pos
  free_by_mask kind b chained bits pos laws unmarked fits mask low =
      let none : (i : ℕ) → i < 32 → tally (is_marked (slot_at b.own i)) ≤ 0 = λ i below.
      omega (arith, ap tally (unmarked_at b.own i unmarked (omega (arith, laws.own_long, below)))) in
      let bit : (i : ℕ) → i < 32 → bit_at (2 ^ 32 - 1 - bits) i ≡ 1 - cond (is_live (slot_at b.own i)) 1 0 = λ i below.
      bit_at_not w32 bits i fits below ∙ ap (λ n. 1 - n) (bit-mask is_live b.own bits mask i free refl) in
      let within = low.within in
      position_at is_free b.own pos free (omega (arith, laws.own_long, within))
      (λ k before. (clear_bit (slot_at b.own k) (none k (omega arith))).0
      (bit_gone (is_live (slot_at b.own k)) (sym (bit k (omega arith)) ∙ low.lower k before)))
      ((clear_bit (slot_at b.own pos) (none pos within)).1 (bit_there (is_live (slot_at b.own pos)) (sym (bit pos within) ∙ low.set)))
    where
      bit_gone : (is : Bool) → 1 - cond is 1 0 ≡ 0 → is ≡ true
      bit_gone true e = refl
      bit_gone false e = absurd (omega arith)

      bit_there : (is : Bool) → 1 - cond is 1 0 ≡ 1 → is ≡ false
      bit_there true e = absurd (omega arith)
      bit_there false e = refl

  -- so the pair is put there
  pub free_own : {b seen : BucketView K V} (kind chained bits pos : ℕ) → b ≡ seen → IsBucket kind b chained
      → list_any is_marked seen.own ≡ false → bits < 2 ^ 32 → IsMaskOf is_live seen.own bits → IsLowest (2 ^ 32 - 1 - bits) pos
      → (position is_free b.own ≡ Some pos) × (pos < length b.own) × (slot_at b.own pos ≡ free)
  free_own {b} kind chained bits pos is laws unmarked fits mask low =
      let first = free_by_mask kind b chained bits pos laws (rw (← is) at unmarked) fits (rw (← is) at mask) low in
      let here = position-Some is_free b.own pos free first in
      (first, here.0, free_from (slot_at b.own pos) here.1)

  -- an own slot that is vacated
  pub without_own : (b : BucketView K V) (at : Place) → at.block ≡ 0
      → ((slots_without b at).own ≡ set b.own at.pos free) × ((slots_without b at).chain ≡ b.chain)
  without_own b at e = rw e (refl, refl)

  -- if a bit of a byte's mask is set, that slot is live
  pub some_in_mask : (byte : ℕ) (own : List (Slot K V)) (bits : ℕ) → IsMaskOf (has_byte byte) own bits → bits < 2 ^ 32 → bits ≢ 0
      → (pos : ℕ) × (is_live (slot_at own pos) ≡ true)
  some_in_mask byte own bits mask fits some =
      let low = lowest bits (omega (arith, some)) fits in
      let pos = trailing_zeros w32 bits in
      (pos, candidate_live (slot_at own pos) byte (lowest_passes (has_byte byte) own bits pos free mask low refl))

  -- a pair is placed in the first free slot, an own one
  pub IsDigest-put : (digest new : Digest) (b : BucketView K V) (pos : ℕ) (pair : K × V) (byte : ℕ) → IsDigest digest b
      → position is_free b.own ≡ Some pos → pos < 32 → SetsBit digest.live pos 1 new.live → new.bytes ≡ set digest.bytes pos byte
      → IsDigest new (slots_with b pair byte)
  IsDigest-put digest new b pos pair byte d place below bits bytes =
      subst (λ (x : BucketView K V). IsDigest new x) (sym (put_in_own b pos pair byte place))
      (IsDigest-filled digest new b pos pair byte d below bits bytes)

  -- no own slot of a bucket that is no index is a tombstone
  pub own_unmarked : (kind chained : ℕ) (b : BucketView K V) → IsBucket kind b chained → kind ≢ INDEX → list_any is_marked b.own ≡ false
  own_unmarked kind chained b laws other =
      let marks : Slot K V → ℕ = λ x. tally (is_marked x) in
      let none = laws.unmarked other in
      list_any_none is_marked b.own (λ i d below. not_tallied (is_marked (get_or b.own i d))
      (omega (arith, none, sum_by-append marks b.own (flattened b.chain), get_or-le-sum_by marks b.own i d below)))
    where
      not_tallied : (is : Bool) → tally is ≤ 0 → is ≡ false
      not_tallied true few = absurd (omega arith)
      not_tallied false few = refl

  -- where no own slot is a tombstone an insertion looks for none
  pub after_put : (kind : ℕ) (keeps : ℕ → Bool) (b : BucketView K V) (pair : K × V) (byte : ℕ)
      → list_any is_marked b.own ≡ false → slots_after_insertion kind keeps b pair byte ≡ slots_with b pair byte
  after_put kind keeps b pair byte unmarked =
      let full : is_full_with_marks b.own ≡ false = rw unmarked (grind arith) in
      rw (looks_at_none kind b full) refl

  -- the number of pairs is the number of set bits
  pub live_counted : (digest : Digest) (bucket : BucketView K V) → IsDigest digest bucket → ones digest.live ≡ length (pairs_in bucket)
  live_counted digest bucket d =
      let lives = length-live_pairs-append bucket.own (flattened bucket.chain) in
      let none = ap (λ (c : List (List (Slot K V))). length (live_pairs (flattened c))) d.chainless in
      omega (arith, lives, none, length-live_pairs bucket.own, ones-mask is_live bucket.own digest.live d.mask)

  pub few_live : (digest : Digest) (bucket : BucketView K V) (len : ℕ) → (digest.live ≢ 2 ^ 32 - 1 → IsDigest digest bucket)
      → len ≤ 32 → ones digest.live < len → length (pairs_in bucket) < len
  few_live digest bucket len is most few =
      let d = is (λ stale. let all = ones-ones 32 in omega (arith, rw stale at few, all, most)) in
      omega (arith, few, live_counted digest bucket d)

-- a bitmap that isn't stale
pub said_is : (stale : Bool) (bits : ℕ) → (bits ≡ 2 ^ 32 - 1 → IsTrue stale) → stale ≡ false → bits ≢ 2 ^ 32 - 1
said_is stale bits stale_is is e = let yes : stale ≡ true = stale_is e in absurd cc

pub null_at : (valid : Bool) (pos : ℕ) → ((pos ≡ BUCKET_LEN → ⊥) → IsTrue valid) → valid ≡ false → pos ≡ BUCKET_LEN
null_at valid pos points is = elim (cases_eq pos BUCKET_LEN) [
  | inl null ↦ null
  | inr other ↦ let yes : valid ≡ true = points other in absurd cc
]

-- an array that isn't short
pub many_by : {short : Bool} (len : ℕ) → (len ≤ 4 → IsTrue short) → short ≡ false → 4 < len
many_by len few is = elim (cases_lt 4 len) [
  | inl more ↦ more
  | inr upto ↦ let yes = few (omega (arith, upto)) in absurd cc
]
