-- The destination of the pair in a slot: by its key's hash, or by its byte if its bucket has only one target.
use Rattle.bucket_table.proofs.Words.{All, All-head, All-permutation, BucketView, IsHome, IsInRange, IsLength, Place, Slot, Some, ℕ, ap}
use Rattle.bucket_table.proofs.Words.{arith, entries_in, home_of, live_pair, pair_of, pairs_in, pairs_in-slots_vacated, slot_in}
use Rattle.bucket_table.proofs.Words.{slots_vacated, sym, ◌%◌, ◌+◌, ◌∙◌, ◌≡◌, ◌≤◌}
use Rattle.bucket_table.specs.Layout.Moving.{HasOwnByte}
use Rattle.std.specs.Option.{option_map}
use Rattle.bucket_slots.proofs.PairsAfter.{entries_in-slots_vacated_at, live_is}
use Rattle.bucket_slots.specs.Slots.{byte_of}
use Rattle.bucket_table.specs.Rehash.Relocation.{IsWay}
use Rattle.bucket_table.proofs.Moves.HomesByDivision.{home_is}

module _ {K V : Type 0} where
  -- the key that was read is that of the pair in the slot
  pub key_is : (x : Slot K V) (p : K × V) (k : K) → live_pair x ≡ Some p → option_map (λ (q : K × V). q.0) (pair_of x) ≡ Some k → k ≡ p.0
  key_is x p k here read =
      let e : Some p.0 ≡ Some k = ap (λ y. option_map (λ (q : K × V). q.0) (pair_of y)) (sym (live_is x p here).1) ∙
      read in cc

  -- by the hash
  pub way_by_hash : (hash : K → ℕ) (len : ℕ) (x : Slot K V) (p : K × V) (k : K) (h j : ℕ) → live_pair x ≡ Some p
      → option_map (λ (q : K × V). q.0) (pair_of x) ≡ Some k → h ≡ hash k → IsHome len h j → IsWay hash len p j h
  way_by_hash hash len x p k h j here read hashed home =
      let own : h ≡ hash p.0 = hashed ∙ ap hash (key_is x p k here read) in
      record { home = rw own at home; own_byte = ap (λ (n : ℕ). n % 256) own }

  -- by the byte
  pub way_by_byte : (hash : K → ℕ) (len start end : ℕ) (s : BucketView K V) (at : Place) (p : K × V)
      (byte : ℕ) → live_pair (slot_in s at) ≡ Some p → byte_of (slot_in s at) ≡ Some byte → All (HasOwnByte hash) (entries_in s)
      → All (λ (q : K × V). IsInRange start end (home_of len (hash q.0))) (pairs_in s)
      → IsLength len → end ≤ len → end ≡ start + 1 → IsWay hash len p start byte
  way_by_byte hash len start end s at p byte here read own all long within one =
      let slot = live_is (slot_in s at) p here in
      let e : Some slot.0 ≡ Some byte = ap byte_of (sym slot.1) ∙ read in
      let same : slot.0 ≡ byte = cc in
      let out = entries_in-slots_vacated_at s at.block at.pos p slot.0 slot.1 in
      let mine = All-head (HasOwnByte hash) (p, slot.0) (entries_in (slots_vacated s at)) (All-permutation (HasOwnByte hash) _ _ out own) in
      let inside = All-head (λ (q : K × V). IsInRange start end (home_of len (hash q.0))) p (pairs_in (slots_vacated s at)) (All-permutation
      (λ (q : K × V). IsInRange start end (home_of len (hash q.0))) _ _ (pairs_in-slots_vacated s at p here) all) in
      record {
        home = home_is len (hash p.0) start long (omega (arith, within, one)) (omega (arith, inside.0, inside.1, one));
        own_byte =
            omega (arith, mine, same);
      }
