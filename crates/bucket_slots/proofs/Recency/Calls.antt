-- What the calls of an LRU list return and leave, given what `unlink` and `link` leave.
use Rattle.bucket_slots.proofs.Words.{IsOwnTail, IsRecencyOrder, Links, LinksBefore, List, None, Some, Unlinks, UnlinksBehind, [], ap}
use Rattle.bucket_slots.proofs.Words.{arith, cond-true, eq-eqb, eqb-false, false, is_listed, is_newest, length, links_of, or_parts}
use Rattle.bucket_slots.proofs.Words.{order_after_touch, order_in, order_with_oldest, order_without, order_without_oldest, refl, slice_set}
use Rattle.bucket_slots.proofs.Words.{subst, suc, sym, tail_of, true, ℕ, ◌+◌, ◌-◌, ◌<◌, ◌==◌, ◌∙◌, ◌∷◌, ◌≡◌, ◌≢◌}
use Rattle.bucket_slots.specs.Recency.{appending_answer, eviction_answer, removal_answer, touch_answer}
use Rattle.bucket_slots.proofs.Recency.Linking.{link_first}
use Rattle.bucket_slots.proofs.Recency.Orders.{eqb-same, is_listed-order_without, is_newest-behind, last_from, last_is_listed}
use Rattle.bucket_slots.proofs.Recency.Orders.{newest_isnt_last, newest_listed, newest_once, oldest_of-last, order_has_newest}
use Rattle.bucket_slots.proofs.Recency.Orders.{order_is_empty, order_without-last, order_without-newest}
use Rattle.bucket_slots.proofs.Recency.Turning.{turned}
use Rattle.bucket_slots.proofs.Recency.Walks.{Stores, stores}

-- under a tail that isn't 0 the newest slot is first
own_parts : (pairs : List (ℕ × ℕ)) (tail : ℕ) → IsOwnTail pairs tail → tail ≢ 0
    → (older : List ℕ) × (order_in pairs tail ≡ (tail - 1) ∷ older) × Links pairs ((tail - 1) ∷ older)
own_parts pairs tail own some =
    let parts = order_has_newest (order_in pairs tail) tail own.names_newest some in (parts.0, parts.1, rw (← parts.1) own.links)

-- evict

tail_of-order_without_oldest : (newest : ℕ) (older : List ℕ) (new_tail : ℕ) → IsRecencyOrder (newest ∷ older)
    → (last_from newest older ≡ newest → new_tail ≡ 0) → (last_from newest older ≢ newest → new_tail ≡ newest + 1)
    → new_tail ≡ tail_of (order_without_oldest (newest ∷ older))
tail_of-order_without_oldest newest [] new_tail is_order alone more = alone refl
tail_of-order_without_oldest newest (next ∷ older) new_tail is_order alone more =
    let one_less : length (newest ∷ next ∷ older) - 1 ≡ suc (length older) = omega arith in
    rw one_less (more (λ same. newest_isnt_last newest next older is_order (sym same)))

pub evicts : (pairs left : List (ℕ × ℕ)) (tail new_tail : ℕ) → IsOwnTail pairs tail → tail ≢ 0
    → Unlinks pairs left (links_of pairs (tail - 1)).0 → ((links_of pairs (tail - 1)).0 ≡ tail - 1 → new_tail ≡ 0)
    → ((links_of pairs (tail - 1)).0 ≢ tail - 1 → new_tail ≡ tail)
    → (Some ((links_of pairs (tail - 1)).0, new_tail) ≡ eviction_answer (order_in pairs tail))
    × Stores left new_tail (order_without_oldest (order_in pairs tail))
evicts pairs left tail new_tail own some unlinks alone more =
    let newest = tail - 1 in
    let parts = own_parts pairs tail own some in
    let older = parts.0 in
    let links = parts.2 in
    let is_last = links.circle.1 in
    let is_new_tail : new_tail ≡ tail_of (order_without_oldest (newest ∷ older)) =
    tail_of-order_without_oldest newest older new_tail links.is_order
    (λ same. alone (is_last ∙ same))
    (λ apart. more (λ same. apart (sym is_last ∙ same)) ∙ omega arith) in
    let unlinked : Links left (order_without_oldest (newest ∷ older)) =
    rw (← order_without-last newest older links.is_order)
    (rw is_last at unlinks (newest ∷ older) links (last_is_listed newest older)) in
    rw parts.1 (
      rw (oldest_of-last newest older) (rw is_last (rw is_new_tail refl)),
      stores left new_tail (order_without_oldest (newest ∷ older)) unlinked is_new_tail,
    )

-- remove

tail_of-order_without : (order : List ℕ) (tail slot : ℕ) → tail ≡ tail_of order → is_newest order slot ≡ false
    → tail ≡ tail_of (order_without order slot)
tail_of-order_without [] tail slot is_tail behind = is_tail
tail_of-order_without (newest ∷ older) tail slot is_tail behind = rw behind is_tail

pub removes_behind : (pairs left : List (ℕ × ℕ)) (tail slot : ℕ) → IsOwnTail pairs tail → slot ≢ tail - 1 → UnlinksBehind pairs left slot
    → (None ≡ removal_answer (order_in pairs tail) slot) × Stores left tail (order_without (order_in pairs tail) slot)
removes_behind pairs left tail slot own apart unlinks =
    let order = order_in pairs tail in
    let behind = is_newest-behind order tail slot own.names_newest apart in
    let same_tail = tail_of-order_without order tail slot own.names_newest behind in
    (rw behind refl, stores left tail (order_without order slot) (unlinks order own.links behind) same_tail)

-- the tail after the newest slot is removed: its older neighbour + 1, or 0 if that is the slot itself
tail_of-older : (pairs : List (ℕ × ℕ)) (newest : ℕ) (older : List ℕ) (new_tail : ℕ) → Links pairs (newest ∷ older)
    → ((links_of pairs newest).1 ≡ newest → new_tail ≡ 0) → ((links_of pairs newest).1 ≢ newest → new_tail ≡ (links_of pairs newest).1 + 1)
    → new_tail ≡ tail_of older
tail_of-older pairs newest [] new_tail links alone more = alone links.circle.0
tail_of-older pairs newest (next ∷ older) new_tail links alone more =
    let once = newest_once newest (next ∷ older) links.is_order in
    let apart : next ≢ newest = λ same. eqb-false newest next (or_parts (newest == next) (is_listed older newest) once).0 (sym same) in
    more (rw links.circle.2.0 apart) ∙ ap (λ (slot : ℕ). slot + 1) links.circle.2.0

pub removes_newest : (pairs left : List (ℕ × ℕ)) (tail new_tail slot : ℕ) → IsOwnTail pairs tail → tail ≢ 0 → slot ≡ tail - 1
    → Unlinks pairs left slot → ((links_of pairs slot).1 ≡ slot → new_tail ≡ 0)
    → ((links_of pairs slot).1 ≢ slot → new_tail ≡ (links_of pairs slot).1 + 1)
    → (Some new_tail ≡ removal_answer (order_in pairs tail) slot) × Stores left new_tail (order_without (order_in pairs tail) slot)
removes_newest pairs left tail new_tail slot own some is_slot unlinks alone more =
    let parts = own_parts pairs tail own some in
    let older = parts.0 in
    let links : Links pairs (slot ∷ older) = rw is_slot parts.2 in
    let is_new_tail : new_tail ≡ tail_of (order_without (slot ∷ older) slot) =
    tail_of-older pairs slot older new_tail links alone more ∙ ap tail_of (sym (order_without-newest slot older links.is_order)) in
    let unlinked = unlinks (slot ∷ older) links (newest_listed slot older) in
    let stored = stores left new_tail (order_without (slot ∷ older) slot) unlinked is_new_tail in
    let answer : Some new_tail ≡ removal_answer (slot ∷ older) slot = ap Some is_new_tail ∙ sym (cond-true _ _ _ (eqb-same slot)) in
    rw (parts.1, ← is_slot) (answer, stored)

-- promote

pub promotes_first : (pairs : List (ℕ × ℕ)) (tail slot : ℕ) → IsOwnTail pairs tail → tail ≡ 0 → slot < 32
    → Stores (slice_set pairs slot (slot, slot)) (slot + 1) (order_after_touch (order_in pairs tail) slot)
promotes_first pairs tail slot own is_zero in_range =
    let is_empty = order_is_empty (order_in pairs tail) (sym is_zero ∙ own.names_newest) in
    let links : Links pairs [] = rw (← is_empty) own.links in
    rw is_empty (stores (slice_set pairs slot (slot, slot)) (slot + 1) (slot ∷ []) (link_first pairs slot links in_range) refl)

pub promotes_newest : (pairs : List (ℕ × ℕ)) (tail slot : ℕ) → IsOwnTail pairs tail → tail ≢ 0 → slot ≡ tail - 1
    → order_in pairs tail ≡ order_after_touch (order_in pairs tail) slot
promotes_newest pairs tail slot own some is_slot =
    let parts = own_parts pairs tail own some in
    let is_order : order_in pairs tail ≡ slot ∷ parts.0 = rw is_slot parts.1 in
    let links : Links pairs (slot ∷ parts.0) = rw is_slot parts.2 in
    rw is_order (ap (λ (older : List ℕ). slot ∷ older) (sym (order_without-newest slot parts.0 links.is_order)))

is_newest-order_without : (order : List ℕ) (tail slot : ℕ) → tail ≡ tail_of order → tail ≢ 0 → is_newest order slot ≡ false
    → is_newest (order_without order slot) (tail - 1) ≡ true
is_newest-order_without [] tail slot is_tail some behind = absurd (some is_tail)
is_newest-order_without (newest ∷ older) tail slot is_tail some behind = rw behind (eq-eqb newest (tail - 1) (omega arith))

pub promotes_behind : (pairs between left : List (ℕ × ℕ)) (tail slot : ℕ) → IsOwnTail pairs tail → tail ≢ 0 → slot ≢ tail - 1
    → UnlinksBehind pairs between slot → LinksBefore between left (tail - 1) slot
    → (Some (slot + 1) ≡ touch_answer (order_in pairs tail) slot) × Stores left (slot + 1) (order_after_touch (order_in pairs tail) slot)
promotes_behind pairs between left tail slot own some apart unlinks links_before =
    let order = order_in pairs tail in
    let behind = is_newest-behind order tail slot own.names_newest apart in
    let linked = links_before (order_without order slot) (unlinks order own.links behind)
    (is_newest-order_without order tail slot own.names_newest some behind)
    (is_listed-order_without order slot) in
    (rw behind refl, stores left (slot + 1) (order_after_touch order slot) linked refl)

-- append

pub appends_first : (pairs : List (ℕ × ℕ)) (tail slot : ℕ) → IsOwnTail pairs tail → tail ≡ 0 → slot < 32
    → (Some (slot + 1) ≡ appending_answer (order_in pairs tail) slot)
    × Stores (slice_set pairs slot (slot, slot)) (slot + 1) (order_with_oldest (order_in pairs tail) slot)
appends_first pairs tail slot own is_zero in_range =
    let is_empty = order_is_empty (order_in pairs tail) (sym is_zero ∙ own.names_newest) in
    let links : Links pairs [] = rw (← is_empty) own.links in
    rw is_empty (refl, stores (slice_set pairs slot (slot, slot)) (slot + 1) (slot ∷ []) (link_first pairs slot links in_range) refl)

-- in a circle the place before the newest slot is the one after the oldest
pub appends_behind : (pairs left : List (ℕ × ℕ)) (tail slot : ℕ) → IsOwnTail pairs tail → tail ≢ 0
    → is_listed (order_in pairs tail) slot ≡ false → LinksBefore pairs left (tail - 1) slot
    → (None ≡ appending_answer (order_in pairs tail) slot) × Stores left tail (order_with_oldest (order_in pairs tail) slot)
appends_behind pairs left tail slot own some absent links_before =
    let parts = own_parts pairs tail own some in
    let newest = tail - 1 in
    let older = parts.0 in
    let once = subst (λ order. is_listed order slot ≡ false) parts.1 absent in
    let front = links_before (newest ∷ older) parts.2 (eq-eqb newest newest refl) once in
    let linked = turned left (slot ∷ []) (newest ∷ older) front in
    rw parts.1 (refl, stores left tail (order_with_oldest (newest ∷ older) slot) linked (omega arith))
