-- An order that is taken slot by slot, the newest first, into 32 bytes.
use Rattle.bucket_slots.proofs.Words.{IsRecencyOrder, List, Some, [], ap, append_assoc, arith, length, length-append, order_without, refl}
use Rattle.bucket_slots.proofs.Words.{replicate, set, set-append_seam, subst, suc, sym, tail_of, ℕ, ◌++◌, ◌+◌, ◌-◌, ◌<◌, ◌∙◌, ◌∷◌, ◌≡◌, ◌≢◌}
use Rattle.bucket_slots.specs.Recency.{order_and_zeros, removal_answer}
use Rattle.bucket_slots.proofs.Recency.Orders.{eqb-same, length_at_most, newest_below, order_has_newest, order_without-newest}

-- the newest slots of an order, `len` of them, are taken and are in the bytes; the others are left
pub record TakesOrder (all : List ℕ) (bytes : List ℕ) (len : ℕ) (left : List ℕ) : Type 0 where
  pub is_order : IsRecencyOrder all
  pub taken : List ℕ
  pub parts : all ≡ taken ++ left
  pub counted : len ≡ length taken
  pub bytes_are : bytes ≡ order_and_zeros taken

pub set-order_and_zeros : (taken : List ℕ) (newest : ℕ) → length taken < 32
    → set (order_and_zeros taken) (length taken) newest ≡ order_and_zeros (taken ++ newest ∷ [])
set-order_and_zeros taken newest few =
    let rest = 31 - length taken in
    let first : 32 - length taken ≡ suc rest = omega arith in
    let later : 32 - length (taken ++ newest ∷ []) ≡ rest = omega (arith, length-append taken (newest ∷ [])) in
    rw (first, later, append_assoc taken (newest ∷ []) (replicate rest 0)) (set-append_seam taken 0 (replicate rest 0) newest)

-- the newest of the remaining slots is taken
pub record TakesNewest (all bytes : List ℕ) (len : ℕ) (left : List ℕ) (newest : ℕ) : Type 0 where
  pub has_room : len < 32
  pub own_slot : newest < 32
  pub answer : removal_answer left newest ≡ Some (tail_of (order_without left newest))
  pub shorter : length (order_without left newest) < length left
  pub takes : TakesOrder all (set bytes len newest) (len + 1) (order_without left newest)

takes_first : (all bytes : List ℕ) (len newest : ℕ) (older : List ℕ) → TakesOrder all bytes len (newest ∷ older)
    → IsRecencyOrder (newest ∷ older) → TakesNewest all bytes len (newest ∷ older) newest
takes_first all bytes len newest older takes is_order =
    let gone : order_without (newest ∷ older) newest ≡ older = order_without-newest newest older is_order in
    let long = ap length takes.parts ∙ length-append takes.taken (newest ∷ older) in
    let few : length takes.taken < 32 = omega (arith, length_at_most all takes.is_order, long) in
    record {
      has_room = omega (arith, few, takes.counted);
      own_slot = newest_below newest older is_order;
      answer = rw (eqb-same newest) refl;
      shorter = omega (arith, ap length gone);
      takes = rw gone (record {
        is_order = takes.is_order;
        taken = takes.taken ++ newest ∷ [];
        parts = takes.parts ∙ sym (append_assoc takes.taken (newest ∷ []) older);
        counted = omega (arith, takes.counted, length-append takes.taken (newest ∷ []));
        bytes_are = rw (takes.bytes_are, takes.counted) (set-order_and_zeros takes.taken newest few);
      });
    }

pub takes_newest : (all bytes : List ℕ) (len : ℕ) (left : List ℕ) (tail : ℕ) → TakesOrder all bytes len left → IsRecencyOrder left
    → tail ≡ tail_of left → tail ≢ 0 → TakesNewest all bytes len left (tail - 1)
takes_newest all bytes len left tail takes is_order is_tail some =
    let parts = order_has_newest left tail is_tail some in
    let first = takes_first all bytes len (tail - 1) parts.0 (subst (TakesOrder all bytes len) parts.1 takes)
    (subst IsRecencyOrder parts.1 is_order) in
    subst (λ those. TakesNewest all bytes len those (tail - 1)) (sym parts.1) first
