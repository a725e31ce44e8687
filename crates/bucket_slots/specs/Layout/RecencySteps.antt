-- What the private calls of an LRU list do to its pairs of bytes.
use Rattle.std.specs.Prelude.{ℕ, ◌<◌, ◌≡◌, Bool, true, false, List, ◌∷◌}
use Rattle.bucket_slots.specs.Recency.{is_listed, is_newest, order_without}
use Rattle.bucket_slots.specs.RecencyLinks.{Links, links_of}

-- both parts of each pair are slots
abbrev pub HoldsSlots : List (ℕ × ℕ) → Type 0
HoldsSlots pairs = (slot : ℕ) → ((links_of pairs slot).0 < 32) × ((links_of pairs slot).1 < 32)

-- a listed slot leaves the circle: if the old pairs link an order, the new pairs link it without that slot
abbrev pub Unlinks : List (ℕ × ℕ) → List (ℕ × ℕ) → ℕ → Type 0
Unlinks old new slot =
    (order : List ℕ) → Links old order → is_listed order slot ≡ true → Links new (order_without order slot)

-- a slot other than the newest leaves the circle, if it is listed
abbrev pub UnlinksBehind : List (ℕ × ℕ) → List (ℕ × ℕ) → ℕ → Type 0
UnlinksBehind old new slot =
    (order : List ℕ) → Links old order → is_newest order slot ≡ false → Links new (order_without order slot)

-- an unlisted slot is put before the newest one
abbrev pub LinksBefore : List (ℕ × ℕ) → List (ℕ × ℕ) → ℕ → ℕ → Type 0
LinksBefore old new newest slot =
    (order : List ℕ)
    → Links old order
    → is_newest order newest ≡ true
    → is_listed order slot ≡ false
    → Links new (slot ∷ order)

-- the result is whether a slot other than the newest is listed
abbrev pub TellsListed : List (ℕ × ℕ) → ℕ → Bool → Type 0
TellsListed pairs slot answer =
    (order : List ℕ) → Links pairs order → is_newest order slot ≡ false → answer ≡ is_listed order slot
