-- The own slots of a bucket in LRU order: the listed ones, newest first, then the others, each once.
use Rattle.bucket_slots.proofs.Words.{All, All-append, All-cons, All-head, All-nil, All-tail, IsRecencyOrder, List, [], ap, append-nil}
use Rattle.bucket_slots.proofs.Words.{append_assoc, arith, cases_Bool, cases_eq, false, inl, inr, is_listed, length, length-append}
use Rattle.bucket_slots.proofs.Words.{ne_eqb, order_without, refl, replicate, set, subst, suc, sym, take, true}
use Rattle.bucket_slots.proofs.Words.{false≢true, zero, ℕ, ◌++◌, ◌+◌, ◌-◌, ◌<◌, ◌==◌, ◌∙◌, ◌∷◌, ◌≡◌, ◌≤◌, Bool}
use Rattle.std.specs.List.{list_any, range_with_len}
use Rattle.bucket_slots.specs.ByUse.{each_once, slots_by_use}
use Rattle.bucket_slots.specs.RecencyLaws.{no_slots}
use Rattle.bucket_slots.specs.Recency.{order_and_zeros, order_with_oldest}
use Rattle.bucket_slots.proofs.Recency.Orders.{eqb-flip, eqb-same, is_listed-order_without, length_at_most, newest_once}
use Rattle.bucket_slots.proofs.Recency.Orders.{older_order, order_turned, order_with, order_without-absent, split_at}
use Rattle.bucket_slots.proofs.Recency.Taking.{set-order_and_zeros}

-- two slots may be removed in either order
pub without_both : (order : List ℕ) (slot other : ℕ)
    → order_without (order_without order slot) other ≡ order_without (order_without order other) slot
without_both [] slot other = refl
without_both (newest ∷ older) slot other = elim (cases_Bool (newest == slot)) [
  | inl is ↦ elim (cases_Bool (newest == other)) [
    | inl both ↦ rw (is, both) (without_both older slot other)
    | inr one ↦ rw (is, one, is) (without_both older slot other)
  ]
  | inr isnt ↦ elim (cases_Bool (newest == other)) [
    | inl one ↦ rw (isnt, one) (without_both older slot other)
    | inr neither ↦ rw (isnt, neither, isnt) (ap (λ (rest : List ℕ). newest ∷ rest) (without_both older slot other))
  ]
]

-- a slot that is removed may have been anywhere
without_one : (first rest : List ℕ) (slot : ℕ)
    → order_without (each_once (first ++ slot ∷ rest)) slot ≡ order_without (each_once (first ++ rest)) slot
without_one [] rest slot =
    rw (eqb-same slot) (order_without-absent (order_without (each_once rest) slot) slot (is_listed-order_without (each_once rest) slot))
without_one (newest ∷ older) rest slot =
    let others = without_both (each_once (older ++ slot ∷ rest)) newest slot
    ∙ ap (λ (order : List ℕ). order_without order newest) (without_one older rest slot)
    ∙ sym (without_both (each_once (older ++ rest)) newest slot) in
    elim (cases_Bool (newest == slot)) [
      | inl is ↦ rw is others
      | inr isnt ↦ rw isnt (ap (λ (order : List ℕ). newest ∷ order) others)
    ]

-- a slot that occurs earlier counts only there
once_again : (first rest : List ℕ) (slot : ℕ) → is_listed first slot ≡ true → each_once (first ++ slot ∷ rest) ≡ each_once (first ++ rest)
once_again [] rest slot listed = absurd (false≢true listed)
once_again (newest ∷ older) rest slot listed = elim (cases_eq slot newest) [
  | inl same ↦ ap (λ (order : List ℕ). newest ∷ order)
      (subst (λ (taken : ℕ). order_without (each_once (older ++ slot ∷ rest)) taken ≡ order_without (each_once (older ++ rest)) taken) same
      (without_one older rest slot))
  | inr apart ↦
      let later = rw (ne_eqb slot newest apart) at listed in
      ap (λ (order : List ℕ). newest ∷ order_without order newest) (once_again older rest slot later)
]

-- an order has each of its slots once
once_all : (order : List ℕ) → IsRecencyOrder order → each_once order ≡ order
once_all [] is_order = refl
once_all (newest ∷ older) is_order =
    ap (λ (rest : List ℕ). newest ∷ rest)
    (ap (λ (rest : List ℕ). order_without rest newest) (once_all older (older_order newest older is_order))
    ∙ order_without-absent older newest (newest_once newest older is_order))

-- a touch keeps all slots that there are
touch_keeps : (order : List ℕ) (slot : ℕ) → IsRecencyOrder order → length order ≤ length (slot ∷ order_without order slot)
touch_keeps order slot is_order = elim (cases_Bool (is_listed order slot)) [
  | inl listed ↦
      let parts = split_at order slot is_order listed in
      omega (arith, ap length parts.2, ap length parts.3, length-append parts.0 parts.1, length-append parts.0 (slot ∷ parts.1))
  | inr absent ↦ omega (arith, ap length (order_without-absent order slot absent))
]

without_order : (order : List ℕ) (slot : ℕ) → IsRecencyOrder order → IsRecencyOrder (order_without order slot)
without_order order slot is_order = elim (cases_Bool (is_listed order slot)) [
  | inl listed ↦
      let parts = split_at order slot is_order listed in
      let first = order_turned parts.0 (slot ∷ parts.1) (subst IsRecencyOrder parts.2 is_order) in
      subst IsRecencyOrder (sym parts.3) (order_turned parts.1 parts.0 (older_order slot (parts.1 ++ parts.0) first))
  | inr absent ↦ subst IsRecencyOrder (sym (order_without-absent order slot absent)) is_order
]

range_below : (from len : ℕ) → from + len ≤ 32 → All (λ slot. slot < 32) (range_with_len from len)
range_below from zero within = All-nil (λ slot. slot < 32)
range_below from (suc len) within =
    All-cons (λ slot. slot < 32) from (range_with_len (from + 1) len) (omega (arith, within))
    (range_below (from + 1) len (omega (arith, within)))

once_is_order : (slots : List ℕ) → All (λ slot. slot < 32) slots → IsRecencyOrder (each_once slots)
once_is_order [] below = no_slots
once_is_order (slot ∷ slots) below =
    let rest = once_is_order slots (All-tail (λ slot. slot < 32) slot slots below) in
    order_with slot _ (All-head (λ slot. slot < 32) slot slots below) (is_listed-order_without (each_once slots) slot)
    (without_order (each_once slots) slot rest)

-- the LRU order has at least 32 slots
once_long : (first : List ℕ) → All (λ slot. slot < 32) first → 32 ≤ length (slots_by_use 32 first)
once_long [] below = omega arith
once_long (slot ∷ slots) below =
    let rest = All-tail (λ slot. slot < 32) slot slots below in
    let order = once_is_order (slots ++ range_with_len 0 32)
    (All-append (λ slot. slot < 32) slots (range_with_len 0 32) rest (range_below 0 32 (omega arith))) in
    omega (arith, once_long slots rest, touch_keeps (slots_by_use 32 slots) slot order)

take_first : (taken rest : List ℕ) → take (length taken) (taken ++ rest) ≡ taken
take_first [] rest = refl
take_first (slot ∷ taken) rest = ap (λ (slots : List ℕ). slot ∷ slots) (take_first taken rest)

list_any_flip : (slots : List ℕ) (slot : ℕ) → is_listed slots slot ≡ list_any (λ other. other == slot) slots
list_any_flip [] slot = refl
list_any_flip (first ∷ slots) slot = rw (eqb-flip slot first, list_any_flip slots slot) refl

-- the slots so far are in the bytes, and those from a slot on are still to be added
pub record AddsOthers (all bytes : List ℕ) (len from : ℕ) : Type 0 where
  pub taken : List ℕ
  pub is_order : IsRecencyOrder taken
  pub counted : len ≡ length taken
  pub bytes_are : bytes ≡ order_and_zeros taken
  pub all_are : each_once (taken ++ range_with_len from (32 - from)) ≡ all

module _ (all bytes : List ℕ) (len from : ℕ) (adds : AddsOthers all bytes len from) where
  pub few : len ≤ 32
  few = omega (arith, adds.counted, length_at_most adds.taken adds.is_order)

  so_far : take len bytes ≡ adds.taken
  so_far = rw (adds.bytes_are, adds.counted) (take_first adds.taken (replicate (32 - length adds.taken) 0))

  asked : (found : Bool) → found ≡ list_any (λ slot. slot == from) (take len bytes) → is_listed adds.taken from ≡ found
  asked found is = list_any_flip adds.taken from ∙ ap (list_any (λ slot. slot == from)) (sym so_far) ∙ sym is

  next : from < 32 → range_with_len from (32 - from) ≡ from ∷ range_with_len (from + 1) (32 - (from + 1))
  next within =
      let more : 32 - from ≡ suc (32 - (from + 1)) = omega (arith, within) in
      rw more refl

  pub passes_listed : from < 32 → list_any (λ slot. slot == from) (take len bytes) ≡ true → AddsOthers all bytes len (from + 1)
  passes_listed within listed = record {
    taken = adds.taken;
    is_order = adds.is_order;
    counted = adds.counted;
    bytes_are = adds.bytes_are;
    all_are = sym (once_again adds.taken (range_with_len (from + 1) (32 - (from + 1))) from (asked true (sym listed)))
        ∙ ap (λ (rest : List ℕ). each_once (adds.taken ++ rest)) (sym (next within)) ∙ adds.all_are;
  }

  -- there is room for a slot that isn't listed, and it becomes the last one
  module _ (within : from < 32) (absent : list_any (λ slot. slot == from) (take len bytes) ≡ false) where
    later : IsRecencyOrder (order_with_oldest adds.taken from)
    later = order_turned (from ∷ []) adds.taken (order_with from adds.taken within (asked false (sym absent)) adds.is_order)

    pub has_room : len < 32
    has_room = omega (arith, adds.counted, length_at_most _ later, length-append adds.taken (from ∷ []))

    pub adds_slot : AddsOthers all (set bytes len from) (len + 1) (from + 1)
    adds_slot = record {
      taken = order_with_oldest adds.taken from;
      is_order = later;
      counted = omega (arith, adds.counted, length-append adds.taken (from ∷ []));
      bytes_are = rw (adds.bytes_are, adds.counted) (set-order_and_zeros adds.taken from (omega (arith, has_room, adds.counted)));
      all_are = ap each_once (append_assoc adds.taken (from ∷ []) (range_with_len (from + 1) (32 - (from + 1)))
          ∙ ap (λ (rest : List ℕ). adds.taken ++ rest) (sym (next within))) ∙ adds.all_are;
    }

pub adds_first : (listed bytes : List ℕ) (len : ℕ) → IsRecencyOrder listed → bytes ≡ order_and_zeros listed → len ≡ length listed
    → AddsOthers (slots_by_use 32 listed) bytes len 0
adds_first listed bytes len is_order bytes_are counted = record {
  taken = listed;
  is_order = is_order;
  counted = counted;
  bytes_are = bytes_are;
  all_are = refl;
}

pub adds_all : (listed bytes : List ℕ) (len from : ℕ) → IsRecencyOrder listed → AddsOthers (slots_by_use 32 listed) bytes len from
    → 32 ≤ from → bytes ≡ slots_by_use 32 listed
adds_all listed bytes len from is_order adds past =
    let none : 32 - from ≡ 0 = omega (arith, past) in
    let whole : adds.taken ≡ slots_by_use 32 listed =
    sym (once_all adds.taken adds.is_order) ∙ ap each_once (sym (append-nil adds.taken)) ∙ (rw none at adds.all_are) in
    let full : 32 - length adds.taken ≡ 0 = omega (arith, ap length whole, once_long listed is_order.below) in
    adds.bytes_are ∙ rw full (append-nil adds.taken) ∙ whole
