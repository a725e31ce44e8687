-- How many slots some pairs need, and what making room and freeing slots leave of a map.
use Rattle.std.proofs.Common.{Bool, Err, IsTrue, List, Ok, OnOk, Result, [], ap, arith, false, inl, inr, length, max, min, pow-add, refl}
use Rattle.std.proofs.Common.{subst, sym}
use Rattle.std.proofs.Common.{true, ℕ, ◌*◌, ◌+◌, ◌-◌, ◌/◌, ◌<◌, ◌^◌, ◌∙◌, ◌≡◌, ◌≤◌, ◌↔◌, ◌⊎◌}
use Rattle.std.specs.Int.{IsPowerOfTwo}
use Rattle.std.specs.List.{IsDistinct}
use Rattle.std.specs.Map.{keys_of}
use Rattle.std.specs.Prelude.{IsErr}
use Rattle.std.proofs.lemmas.Bool.{cases_lt, false≢true}
use Rattle.std.proofs.lemmas.List.{nil_from_length}
use Rattle.std.proofs.lemmas.List.Sorted.{IsPermutation-refl}
use Rattle.bucket_slots.specs.Sizing.{IsLeastPowerOfTwo, IsLength, IsLengthFor, IsPowerIn, IsTooFull}
use Rattle.bucket_slots.proofs.CallerLemmas.{exponent_le, power_divides}
use Rattle.bucket_table.specs.Resize.Remaking.{IsSettledAt}
use Rattle.bucket_table.specs.Rehash.State.{first_tickets}
use Rattle.bucket_table.specs.Resize.Resizing.{with_minimum}
use Rattle.bucket_table.specs.Views.ArraysView.{ArraysView, TableView}
use Rattle.collections.specs.Capacity.{AreTooMany, GainsRoom, HasRoomFor, IsFitted, IsMinimumFor, IsSlotsFor, MakesRoom, ShrinksToFit, TakesSlots}
use Rattle.collections.specs.Changes.{Stays}
use Rattle.collections.specs.Maps.{IsUnique, MapView, map_len, map_of}
use Rattle.collections.proofs.Collecting.{stays_same}

pub not_full : (slots pairs : ℕ) (tested : Bool) → (IsTrue tested ↔ IsTooFull slots pairs) → tested ≡ false → IsTooFull slots pairs → ⊥
not_full slots pairs tested means is full = false≢true (sym is ∙ means.1 full)

pub none_moving : (len : ℕ) (tested : Bool) → (IsTrue tested ↔ (0 < len)) → tested ≡ false → 32 * len ≡ 0
none_moving len tested means is = elim (cases_lt 0 len) [
  | inl some ↦ absurd (false≢true (sym is ∙ means.1 some))
  | inr none ↦ omega (arith, none)
]

pub some_moving : (len : ℕ) (tested : Bool) → (IsTrue tested ↔ (0 < len)) → tested ≡ true → 32 * len ≡ 0 → ⊥
some_moving len tested means is none =
    let some = means.0 is in
    absurd (omega (arith, some, none))

-- an array holds no more pairs than its slots may take
pub most : (slots pairs : ℕ) → (IsTooFull slots pairs → ⊥) → pairs ≤ (slots / 16) * 13
most slots pairs enough = elim (cases_lt ((slots / 16) * 13) pairs) [
  | inl full ↦ absurd (enough full)
  | inr few ↦ few
]

pub too_many : (pairs : ℕ) → IsTooFull (2 ^ 62) pairs → AreTooMany pairs
too_many pairs many slots holds =
    let few = most slots pairs holds.enough in
    let within = holds.power.at_most in
    absurd (omega (arith, few, within, many))

-- room for some pairs at most is room for more at most
pub room_within : {K V H : Type 0} (eq : K → K → Bool) (old new : MapView K V H) (few most : ℕ) → few ≤ most → GainsRoom eq few old new
    → GainsRoom eq most old new
room_within eq old new few most order gains =
    let within = gains.within in
    record {
      stays = gains.stays;
      no_fewer = gains.no_fewer;
      more = gains.more;
      within = omega (arith, order, within);
      made = gains.made;
    }

-- the least power of two for 16 slots for each 13 pairs
pub slots_found : (pairs power : ℕ) → (IsTooFull (2 ^ 62) pairs → ⊥) → IsLeastPowerOfTwo (max ((pairs + 12) / 13 * 16) 64) power
    → IsSlotsFor pairs power
slots_found pairs power has_room least =
    let few = most (2 ^ 62) pairs has_room in
    let enough = least.at_least in
    record {
      holds = record {
        power = record {
          power = least.is_power;
          at_least = omega (arith, enough);
          at_most = least.least (2 ^ 62) (62, refl) (omega (arith, few));
        };
        enough = λ full. absurd (omega (arith, enough, full));
      };
      least = λ other holds.
          let room = most other pairs holds.enough in
          let large = holds.power.at_least in
          least.least other holds.power.power (omega (arith, room, large));
    }

slots_are_one : (pairs a b : ℕ) → IsSlotsFor pairs a → IsSlotsFor pairs b → a ≡ b
slots_are_one pairs a b is also =
    let below = is.least b also.holds in
    let above = also.least a is.holds in
    omega (arith, below, above)

-- no pairs need no slots, but an array has 64
none_held : AreTooMany 0 → ⊥
none_held many = many 64 (record {
  power = record { power = (6, refl); at_least = omega arith; at_most = omega arith };
  enough = λ full. absurd (omega (arith, full));
})

pub minimum_none : (pairs : ℕ) → pairs ≡ 0 → IsMinimumFor pairs 64
minimum_none pairs none = record {
  none = λ is. refl;
  some = λ more slots is. absurd (omega (arith, more, none));
  beyond = λ many. absurd (none_held (subst AreTooMany none many));
}

pub minimum_some : (pairs slots : ℕ) → (pairs ≡ 0 → ⊥) → IsSlotsFor pairs slots → IsMinimumFor pairs slots
minimum_some pairs slots some is = record {
  none = λ none. absurd (some none);
  some = λ more other also. slots_are_one pairs slots other is also;
  beyond = λ many. absurd (many slots is.holds);
}

pub minimum_beyond : (pairs : ℕ) → (pairs ≡ 0 → ⊥) → AreTooMany pairs → IsMinimumFor pairs (2 ^ 63)
minimum_beyond pairs some many = record {
  none = λ none. absurd (some none);
  some = λ more slots is. absurd (many slots is.holds);
  beyond = λ many. refl;
}

-- an array for a power of two has that many slots
whole : (slots : ℕ) → IsPowerOfTwo slots → 64 ≤ slots → 32 * (slots / 32) ≡ slots
whole slots (k, is) large =
    let order : 5 ≤ k = exponent_le 5 k (omega (arith, is, large)) in
    let parts = power_divides 5 k order in
    omega (arith, is, parts)

pub slots_of_len : (slots len : ℕ) → IsPowerIn 64 (2 ^ 62) slots → IsLengthFor slots len → 32 * len ≡ slots
slots_of_len slots len is (power, least, len_is) =
    let within = is.at_most in
    let large = is.at_least in
    let below = least.least slots is.power (omega (arith, within)) in
    let above = least.at_least in
    let same = whole slots is.power large in
    omega (arith, within, large, below, above, len_is, same)

-- the slots of an array are a power of two
pub slots_in : (len : ℕ) → IsLength len → IsPowerIn 64 (2 ^ 62) (32 * len)
slots_in len is =
    let (k, power) = is.power in
    let least = is.at_least in
    let greatest = is.at_most in
    let parts = pow-add 2 k 5 in
    record { power = (k + 5, omega (arith, power, parts)); at_least = omega (arith, least); at_most = omega (arith, greatest) }

pub greater_in : (a b : ℕ) → IsPowerIn 64 (2 ^ 62) a → (b ≡ 0) ⊎ IsPowerIn 64 (2 ^ 62) b → IsPowerIn 64 (2 ^ 62) (max a b)
greater_in a b is (inl none) = let e : a ≡ max a b = omega (arith, none) in subst (IsPowerIn 64 (2 ^ 62)) e is
greater_in a b is (inr also) = elim (cases_lt a b) [
  | inl less ↦ let e : b ≡ max a b = omega (arith, less) in subst (IsPowerIn 64 (2 ^ 62)) e also
  | inr le ↦ let e : a ≡ max a b = omega (arith, le) in subst (IsPowerIn 64 (2 ^ 62)) e is
]

-- the slots that an array has, or none
pub slots_of_array : (len : ℕ) → (0 < len → IsLength len) → (32 * len ≡ 0) ⊎ IsPowerIn 64 (2 ^ 62) (32 * len)
slots_of_array len long = elim (cases_lt 0 len) [
  | inl some ↦ inr (slots_in len (long some))
  | inr none ↦ inl (omega (arith, none))
]

-- an array for a power of two to which the pairs were moved has that many slots
pub settled_slots : {K V : Type 0} (slots : ℕ) (arrays : ArraysView K V) → IsPowerIn 64 (2 ^ 62) slots → IsSettledAt slots arrays
    → (32 * length arrays.current ≡ slots) × (32 * length arrays.linked ≡ 0)
settled_slots slots arrays is settled =
    let alone = settled.alone in
    (slots_of_len slots (length arrays.current) is settled.len, omega (arith, alone))

-- an array that keeps its length, or has that for a capacity that isn't less, has no fewer slots
pub none_fewer : (slots was len : ℕ) → IsPowerIn 64 (2 ^ 62) slots → (len ≡ was) ⊎ IsLengthFor slots len → 32 * was ≤ slots
    → 32 * was ≤ 32 * len
none_fewer slots was len is (inl same) least = omega (arith, same)
none_fewer slots was len is (inr for) least = omega (arith, slots_of_len slots len is for, least)

-- the number of pairs, limited to 64 bits, is the true number if the pairs are not too many
counted : (n more len pairs : ℕ) → len ≡ min n (2 ^ 64 - 1) → pairs ≡ len + more
    → (pairs ≤ (2 ^ 62 / 16) * 13) ⊎ (n + more ≤ (2 ^ 62 / 16) * 13) → pairs ≡ n + more
counted n more len pairs cut is (inl few) = omega (arith, cut, is, few)
counted n more len pairs cut is (inr few) = omega (arith, cut, is, few)

-- pairs for which there is room in an array, or that are none, are not too many
not_many : (slots pairs : ℕ) → (slots ≡ 0) ⊎ IsPowerIn 64 (2 ^ 62) slots → (IsTooFull slots pairs → ⊥) → AreTooMany pairs → ⊥
not_many slots pairs (inl none) enough many =
    let few = most slots pairs enough in
    let e : pairs ≡ 0 = omega (arith, none, few) in
    none_held (subst AreTooMany e many)
not_many slots pairs (inr is) enough many = many slots (record { power = is; enough = enough })

few_in : (slots pairs : ℕ) → (slots ≡ 0) ⊎ IsPowerIn 64 (2 ^ 62) slots → (IsTooFull slots pairs → ⊥) → pairs ≤ (2 ^ 62 / 16) * 13
few_in slots pairs (inl none) enough = let few = most slots pairs enough in omega (arith, none, few)
few_in slots pairs (inr is) enough =
    let few = most slots pairs enough in
    let within = is.at_most in
    omega (arith, few, within)

module _ {K V H E : Type 0} (eq : K → K → Bool) (more : ℕ) (old : MapView K V H) (unique : IsUnique eq old)
    (shape : (old.slots ≡ 0) ⊎ IsPowerIn 64 (2 ^ 62) old.slots) (len : ℕ) (len_is : len ≡ min (map_len old) (2 ^ 64 - 1)) where
  -- nothing changes if no room is made
  stays_refused : (error : E) → (HasRoomFor more old → ⊥) → MakesRoom eq more old (Err error) old
  stays_refused error none = record {
    stays = stays_same eq old unique;
    room = tt;
    slots = tt;
    no_fewer = omega arith;
    ready = λ has. absurd (none has);
    too_many = λ many. (refl, refl);
  }

  -- the count exceeds 64 bits
  pub overflows : (error : E) → (len + more < 2 ^ 64 → ⊥) → MakesRoom eq more old (Err error) old
  overflows error much = stays_refused error (λ has.
      let few = few_in old.slots (map_len old + more) shape has.enough in
      much (omega (arith, few, len_is)))

  module _ (pairs : ℕ) (pairs_are : pairs ≡ len + more) where
    -- there is no number of slots for that many
    pub beyond : (error : E) → AreTooMany pairs → MakesRoom eq more old (Err error) old
    beyond error many = stays_refused error (λ has.
        let few = few_in old.slots (map_len old + more) shape has.enough in
        let same = counted (map_len old) more len pairs len_is pairs_are (inr few) in
        not_many old.slots (map_len old + more) shape has.enough (subst AreTooMany same many))

    -- there is room
    pub is_ready : (IsTooFull old.slots pairs → ⊥) → old.old_slots ≡ 0 → MakesRoom {E = E} eq more old (Ok tt) old
    is_ready enough alone =
        let few = few_in old.slots pairs shape enough in
        let same = counted (map_len old) more len pairs len_is pairs_are (inl few) in
        let room : IsTooFull old.slots (map_len old + more) → ⊥ = subst (λ (n : ℕ). IsTooFull old.slots n → ⊥) same enough in
        record {
          stays = stays_same eq old unique;
          room = record { alone = alone; enough = room };
          slots = λ none. absurd (none (record { alone = alone; enough = room }));
          no_fewer = omega arith;
          ready = λ has. (refl, refl);
          too_many = λ many. absurd (not_many old.slots (map_len old + more) shape room many);
        }

    -- all pairs move to an array for that many
    pub makes : (answer : Result (Unit {0}) E) (new : MapView K V H) → Stays eq old new → OnOk answer (TakesSlots pairs old new)
        → old.slots ≤ new.slots → (AreTooMany pairs → IsErr answer × (new ≡ old))
        → ((IsTooFull old.slots pairs → ⊥) → old.old_slots ≡ 0 → ⊥) → MakesRoom eq more old answer new
    makes answer new stays takes no_fewer refused unready = record {
      stays = stays;
      room = room answer takes;
      slots = slots answer takes;
      no_fewer = no_fewer;
      ready = λ has.
          let few = few_in old.slots (map_len old + more) shape has.enough in
          let same = counted (map_len old) more len pairs len_is pairs_are (inr few) in
          absurd (unready (subst (λ (n : ℕ). IsTooFull old.slots n → ⊥) (sym same) has.enough) has.alone);
      too_many = λ many. refused (many_too many);
    }
      where
        room : (answer : Result (Unit {0}) E) → OnOk answer (TakesSlots pairs old new) → OnOk answer (HasRoomFor more new)
        room (Ok done) takes =
            let held = takes.least_is.holds in
            let few = few_in takes.least pairs (inr held.power) held.enough in
            let same = counted (map_len old) more len pairs len_is pairs_are (inl few) in
            let enough = most takes.least pairs held.enough in
            let kept = stays.len in
            let slots = takes.slots_are in
            record { alone = takes.alone; enough = λ full. absurd (omega (arith, enough, kept, same, slots, full)) }
        room (Err error) none = tt

        slots : (answer : Result (Unit {0}) E) → OnOk answer (TakesSlots pairs old new)
            → OnOk answer ((HasRoomFor more old → ⊥) → TakesSlots (map_len old + more) old new)
        slots (Ok done) takes =
            let held = takes.least_is.holds in
            let few = few_in takes.least pairs (inr held.power) held.enough in
            let same = counted (map_len old) more len pairs len_is pairs_are (inl few) in
            λ none. subst (λ (n : ℕ). TakesSlots n old new) same takes
        slots (Err error) none = tt

        many_too : AreTooMany (map_len old + more) → AreTooMany pairs
        many_too many = elim (cases_lt ((2 ^ 62 / 16) * 13) pairs) [
          | inl much ↦ too_many pairs much
          | inr few ↦ subst AreTooMany (sym (counted (map_len old) more len pairs len_is pairs_are (inl few))) many
        ]

-- what a move of all pairs leaves
pub slots_taken : {K V H A E : Type 0} (pairs least slots : ℕ) (old new : MapView K V H) (answer : Result A E) → IsSlotsFor pairs least
    → slots ≡ max least old.slots → OnOk answer ((new.slots ≡ slots) × (new.old_slots ≡ 0)) → OnOk answer (TakesSlots pairs old new)
slots_taken pairs least slots old new (Ok done) for is (slots_are, alone) =
    record { alone = alone; least = least; least_is = for; slots_are = slots_are ∙ is }
slots_taken pairs least slots old new (Err error) for is none = tt

module _ {K V H : Type 0} where
  -- the minimum is 0, and nothing else changes
  pub least_gone : (t s : TableView K V H) → s ≡ record t { arrays = with_minimum t.arrays 0 }
      → map_of s ≡ record (map_of t) { minimum = 0 }
  least_gone t s is = rw is refl

  -- a table without slots has no buckets
  pub no_buckets : (t : TableView K V H) → (map_of t).slots ≡ 0 → (map_of t).old_slots ≡ 0 → (map_of t).bucket_lens ≡ []
  no_buckets t none alone =
      rw (nil_from_length t.arrays.current (omega (arith, none)), nil_from_length t.arrays.linked (omega (arith, alone))) refl

  -- and then all slots are dropped
  pub slots_gone : (t s u : TableView K V H) → s ≡ record t { arrays = with_minimum t.arrays 0 } → u.hasher ≡ s.hasher
      → u.arrays ≡ record s.arrays { current = []; linked = []; tickets = first_tickets 0 }
      → map_of u ≡ record (map_of t) { entries = []; minimum = 0; slots = 0; old_slots = 0; bucket_lens = [] }
  slots_gone t s u is hasher arrays = rw (arrays, hasher, is) refl

module _ {K V H : Type 0} (eq : K → K → Bool) (old : MapView K V H) (unique : IsUnique eq old) (len : ℕ)
    (len_is : len ≡ min (map_len old) (2 ^ 64 - 1)) where
  -- a map without pairs has no slots left
  pub shrinks_none : {E : Type 0} (new : MapView K V H) → (old.slots ≡ 0 → old.old_slots ≡ 0 → old.bucket_lens ≡ []) → len ≡ 0
      → new ≡ record old { entries = []; minimum = 0; slots = 0; old_slots = 0; bucket_lens = [] } → ShrinksToFit {E = E} eq old (Ok tt) new
  shrinks_none new buckets none is =
      let empty = nil_from_length old.entries (omega (arith, len_is, none)) in
      record {
        stays = rw is (record {
          entries = rw empty (IsPermutation-refl []);
          len = rw empty refl;
          gets = λ key. rw empty refl;
          kept = record {
            unique = subst (λ (ps : List (K × V)). IsDistinct eq (keys_of ps)) empty unique;
            hasher = refl;
            minimum = refl;
            maximum = refl;
          };
        });
        fitted = rw is (record { alone = refl; none = λ gone. refl; some = λ some. absurd (some refl) });
        ready = λ had. (refl, rw (is, empty, had.none empty, had.alone, buckets (had.none empty) had.alone) refl);
        none = λ gone. refl;
      }

  module _ (some : len ≡ 0 → ⊥) where
    -- a map that has a pair
    has_pairs : old.entries ≡ [] → ⊥
    has_pairs empty = let none : map_len old ≡ 0 = ap (λ (ps : List (K × V)). length ps) empty in some (omega (arith, len_is, none))

    -- and as few slots as its pairs take
    had_for : IsFitted old → IsSlotsFor len old.slots
    had_for had =
        let for = had.some has_pairs in
        let few = few_in old.slots (map_len old) (inr for.holds.power) for.holds.enough in
        let same : map_len old ≡ len = omega (arith, few, len_is) in
        subst (λ (n : ℕ). IsSlotsFor n old.slots) same for

    -- no array can hold that many
    pub shrinks_refused : {E : Type 0} (error : E) → AreTooMany len → ShrinksToFit eq old (Err error) (record old { minimum = 0 })
    shrinks_refused error many = record {
      stays = stays_same eq (record old { minimum = 0 }) unique;
      fitted = tt;
      ready = λ had. absurd (many old.slots (had_for had).holds);
      none = λ empty. absurd (has_pairs empty);
    }

    module _ {E : Type 0} (slots : ℕ) (for : IsSlotsFor len slots) where
      fits : (answer : Result (Unit {0}) E) (new : MapView K V H) → map_len new ≡ map_len old
          → OnOk answer ((new.slots ≡ slots) × (new.old_slots ≡ 0)) → OnOk answer (IsFitted new)
      fits (Ok done) new kept (slots_are, alone) =
          let few = few_in slots len (inr for.holds.power) for.holds.enough in
          let same : len ≡ map_len new = omega (arith, few, len_is, kept) in
          record {
            alone = alone;
            none = λ empty. absurd (some (same ∙ ap (λ (ps : List (K × V)). length ps) empty));
            some = λ pairs. rw slots_are (subst (λ (n : ℕ). IsSlotsFor n slots) same for);
          }
      fits (Err refused) new kept none = tt

      -- all pairs move to as few slots as they need
      pub shrinks_moved : (answer : Result (Unit {0}) E) (new : MapView K V H) → Stays eq (record old { minimum = 0 }) new
          → OnOk answer ((new.slots ≡ slots) × (new.old_slots ≡ 0)) → (slots ≡ old.slots → old.old_slots ≡ 0 → ⊥)
          → ShrinksToFit eq old answer new
      shrinks_moved answer new stays moved unready = record {
        stays = stays;
        fitted = fits answer new stays.len moved;
        ready = λ had. absurd (unready (slots_are_one len slots old.slots for (had_for had)) had.alone);
        none = λ empty. absurd (has_pairs empty);
      }

      -- there are as few already
      pub shrinks_ready : slots ≡ old.slots → old.old_slots ≡ 0 → ShrinksToFit {E = E} eq old (Ok tt) (record old { minimum = 0 })
      shrinks_ready same alone = record {
        stays = stays_same eq (record old { minimum = 0 }) unique;
        fitted = fits (Ok tt) (record old { minimum = 0 }) refl (sym same, alone);
        ready = λ had. (refl, refl);
        none = λ empty. refl;
      }
