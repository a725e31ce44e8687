-- The digits of a number, written from the last to the first.
use Rattle.std.proofs.Common.{◌≡◌, ℕ, ◌+◌, ◌-◌, ◌*◌, ◌/◌, ◌%◌, ◌<◌, ◌≤◌, ◌^◌, List, ◌∷◌, ◌++◌, length, drop, slice_set, sym, ap, ◌∙◌}
use Rattle.std.proofs.Common.{zero, suc, arith, add-one, append_assoc}
use Rattle.std.proofs.Math.Nat.{pow-suc}
use Rattle.std.proofs.lemmas.List.{drop-set, length-set}
use Rattle.std.proofs.lemmas.Fmt.{decimal_step, decimal_digit}
use Rattle.std.specs.Fmt.{decimal}

-- the bytes from the place `last` on are the last bytes of a text, and `rest` is the number before them
pub record AreWritten (text : List ℕ) (rest last : ℕ) (digits : List ℕ) : Type 0 where
  pub within : last ≤ 19
  pub small : rest < 10 ^ (last + 1)
  pub room : length digits ≡ 21
  pub written : text ≡ decimal rest ++ drop (last + 1) digits

small_before : (rest last : ℕ) → rest < 10 ^ (last + 1) → rest / 10 < 10 ^ last
small_before rest last small =
    let step : 10 ^ (last + 1) ≡ 10 ^ last * 10 = rw add-one (pow-suc 10 last) in
    omega arith

-- one more digit is written before the last one
one_before : (rest last : ℕ) → 10 ≤ rest → rest < 10 ^ (last + 1) → 1 ≤ last
one_before rest zero large small = omega arith
one_before rest (suc last) large small = omega arith

one_written : (text : List ℕ) (rest last : ℕ) (digits : List ℕ) → AreWritten text rest last digits → 10 ≤ rest → rest < 2 ^ 64
    → AreWritten text (rest / 10) (last - 1) (slice_set digits last (48 + rest % 10))
one_written text rest last digits so_far large fits =
    let room : 1 ≤ last = one_before rest last large so_far.small in
    let back : last - 1 + 1 ≡ last = omega arith in
    let set : drop last (slice_set digits last (48 + rest % 10)) ≡ (48 + rest % 10) ∷ drop (last + 1) digits =
    drop-set digits last _ (omega (arith, so_far.within, so_far.room)) in
    record {
      within = omega (arith, so_far.within);
      small = rw back (small_before rest last so_far.small);
      room = length-set digits last _ ∙ so_far.room;
      written = rw (back, set) (so_far.written
          ∙ ap (λ (t : List ℕ). t ++ drop (last + 1) digits) (decimal_step rest large fits)
          ∙ append_assoc (decimal (rest / 10)) _ _);
    }

pub two_written : (text : List ℕ) (rest last : ℕ) (digits : List ℕ) → AreWritten text rest last digits → 100 ≤ rest → rest < 2 ^ 64
    → AreWritten text (rest / 100) (last - 2) (slice_set (slice_set digits last (48 + rest % 100 % 10)) (last - 1) (48 + rest % 100 / 10))
two_written text rest last digits so_far large fits =
    let ones : rest % 100 % 10 ≡ rest % 10 = omega arith in
    let tens : rest % 100 / 10 ≡ rest / 10 % 10 = omega arith in
    let front : rest / 100 ≡ rest / 10 / 10 = omega arith in
    let back : last - 2 ≡ last - 1 - 1 = omega arith in
    rw (ones, tens, front, back)
    (one_written text (rest / 10) (last - 1) _ (one_written text rest last digits so_far (omega arith) fits) (omega arith) (omega arith))

-- the first digit is the last that is written
pub first_written : (text : List ℕ) (rest last : ℕ) (digits : List ℕ) → AreWritten text rest last digits → rest < 10
    → drop last (slice_set digits last (48 + rest)) ≡ text
first_written text rest last digits so_far digit =
    drop-set digits last _ (omega (arith, so_far.within, so_far.room))
    ∙ sym (so_far.written ∙ ap (λ (t : List ℕ). t ++ drop (last + 1) digits) (decimal_digit rest digit))

-- the first two digits are the last that are written
pub first_two_written : (text : List ℕ) (rest last : ℕ) (digits : List ℕ) → AreWritten text rest last digits → 10 ≤ rest → rest < 100
    → drop (last - 1) (slice_set (slice_set digits last (48 + rest % 10)) (last - 1) (48 + rest / 10)) ≡ text
first_two_written text rest last digits so_far large small =
    first_written text (rest / 10) (last - 1) _ (one_written text rest last digits so_far large (omega arith)) (omega arith)
