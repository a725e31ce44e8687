-- What an insertion into a map with room for it leaves.
use Rattle.std.proofs.Common.{ℕ, ◌≡◌, ◌<◌, ◌+◌, ◌/◌, ◌==◌, ◌⊎◌, inl, inr, Bool, cond, ◌∷◌, arith, refl, subst, ◌∙◌}
use Rattle.std.specs.List.Sorted.{IsPermutation}
use Rattle.std.proofs.lemmas.Bool.{cases_lt}
use Rattle.std.proofs.lemmas.List.Sums.{sum_by-cons}
use Rattle.bucket_slots.specs.Sizing.{IsTooFull}
use Rattle.bucket_table.specs.Rehash.Relocation.{home_of}
use Rattle.bucket_slots.specs.declared.not_inserted.NotInserted.{NotInserted}
use Rattle.bucket_slots.specs.declared.not_inserted.NotInserted.TheVariants.{Memory}
use Rattle.bucket_table.proofs.CallerLemmas.{homed-permutation}
use Rattle.collections.specs.Capacity.{HasRoomFor}
use Rattle.collections.specs.Changes.{Adds, ReturnsPair, Stays}
use Rattle.collections.specs.Crowding.{HasAtHome, LacksRoom}
use Rattle.collections.specs.Maps.{MapView, map_len}
use Rattle.collections.specs.Slots.{GrowsSlots}
use Rattle.example_callers.specs.Filled.{HasCrowdedBucket}

module _ {K V H : Type 0} (eq : K → K → Bool) (hash_of : H → K → ℕ) where
  -- the slots are those that were made, or a bucket among those is crowded
  pub record HasRoomYet (hasher : H) (slots pairs : ℕ) (map : MapView K V H) : Type 0 where
    pub hasher_is : map.hasher ≡ hasher
    pub enough : IsTooFull slots pairs → ⊥
    pub room : ((map.slots ≡ slots) × (map.old_slots ≡ 0)) ⊎ ((key : K) × HasAtHome 31 (hash_of hasher) key slots map.entries)

  pub room_made : (made : MapView K V H) (more pairs : ℕ) → map_len made + more ≡ pairs → HasRoomFor more made
      → HasRoomYet made.hasher made.slots pairs made
  room_made made more pairs same has = record {
    hasher_is = refl;
    enough = subst (λ (n : ℕ). IsTooFull made.slots n → ⊥) same has.enough;
    room = inl (refl, has.alone);
  }

  module _ (hasher : H) (slots pairs : ℕ) (old new : MapView K V H) (has : HasRoomYet hasher slots pairs old) (some : 0 < pairs) where
    slots_some : 0 < slots
    slots_some = elim (cases_lt 0 slots) [
      | inl more ↦ more
      | inr none ↦ absurd (has.enough (omega (arith, none, some)))
    ]

    more_there : (key k : K) (v : V) → IsPermutation ((k, v) ∷ old.entries) new.entries
        → HasAtHome 31 (hash_of hasher) key slots old.entries
        → HasAtHome 31 (hash_of hasher) key slots new.entries
    more_there key k v moved crowded =
        let len = slots / 32 in
        let index = home_of len (hash_of hasher key) in
        let all = homed-permutation (hash_of hasher) len index ((k, v) ∷ old.entries) new.entries moved in
        let one = sum_by-cons (λ (q : K × V). cond (home_of len (hash_of hasher q.0) == index) 1 0) (k, v) old.entries in
        (crowded.0, omega (arith, all, one, crowded.1))

    -- a pair more
    pub room_after : (k : K) (v : V) → Adds eq old k v new → GrowsSlots hash_of k old new → HasRoomYet hasher slots pairs new
    unfolding GrowsSlots
    room_after k v adds grows = record {
      hasher_is = adds.kept.hasher ∙ has.hasher_is;
      enough = has.enough;
      room = elim has.room [
        | inr (key, crowded) ↦ inr (key, more_there key k v adds.entries crowded)
        | inl (same, alone) ↦ elim grows [
          | inl keeps ↦ inl (
            keeps.slots ∙ same,
            elim keeps.old_slots [
              | inl stays ↦ stays ∙ alone
              | inr gone ↦ gone
            ],
          )
          | inr (inl made) ↦ absurd (omega (arith, made.none, same, slots_some))
          | inr (inr changed) ↦ inr (k, more_there k k v adds.entries (rw (same, has.hasher_is) at changed.crowded))
        ]
      ];
    }

    -- and a pair whose insertion failed
    pub refused : (k : K) → Stays eq old new → LacksRoom hash_of k old → HasCrowdedBucket (hash_of hasher) pairs new
    unfolding LacksRoom
    refused k stays lacks = elim has.room [
      | inr (key, crowded) ↦ named key crowded
      | inl (same, alone) ↦ elim lacks [
        | inl (inl (inl none)) ↦ absurd (omega (arith, none, same, slots_some))
        | inl (inl (inr fewer)) ↦ absurd (omega (arith, fewer, alone))
        | inl (inr old_home) ↦ absurd (omega (arith, old_home.0, alone))
        | inr full ↦
            let here = rw (same, has.hasher_is) at full in
            named k (here.0, omega (arith, here.1))
      ]
    ]
      where
        named : (key : K) → HasAtHome 31 (hash_of hasher) key slots old.entries → HasCrowdedBucket (hash_of hasher) pairs new
        named key crowded =
            let len = slots / 32 in
            let index = home_of len (hash_of hasher key) in
            let all = homed-permutation (hash_of hasher) len index old.entries new.entries stays.entries in
            record { slots = slots; enough = has.enough; key = key; crowded = (crowded.0, omega (arith, all, crowded.1)) }

-- the pair that is returned is the one that was passed in
pub handed_back : {K V H : Type 0} (eq : K → K → Bool) (key : K) (value : V) (map : MapView K V H) {why : NotInserted K V} {k : K} {v : V}
    → why ≡ Memory k v → ReturnsPair eq key value map why → why ≡ Memory key value
handed_back eq key value map is back =
    let same = subst (ReturnsPair eq key value map) is back in is ∙ (λ i. Memory (same.0 i) (same.1 i))
