use Rattle.std.proofs.Common.{◌≡◌, inl, inr, length, sym, ◌∙◌, arith}
use Rattle.std.proofs.lemmas.Bool.{eqb-false, eqb-true}
use Rattle.bhtable.proofs.Numbers.{too_large_at, all_read, no_number, none_if, number_from, other_byte_at}
use Rattle.bhtable.proofs.lines.words.number_of.Goals as goal

pub returns-then-is_empty-clause-accepted : goal.returns-then-is_empty-clause-accepted
returns-then-is_empty-clause-accepted c = no_number c.args.word.now (λ number. elim c.then-is_empty.either [
  | inl empty ↦ omega (arith, number.some, eqb-true (length c.args.word.now) 0 (sym c.is_empty.ensures ∙ empty))
  | inr long ↦ omega (arith, number.few, long.1)
])

pub returns-then-not-is_ascii_digit-clause-accepted : goal.returns-then-not-is_ascii_digit-clause-accepted
returns-then-not-is_ascii_digit-clause-accepted c =
    let l = c.loop-byte in
    no_number c.args.word.now
    (other_byte_at _ l.number l.byte-index l.invariant c.loop-byte-test.true
    (sym c.is_ascii_digit.ensures.value ∙ c.if-not-is_ascii_digit.true))

pub returns-in_err-checked_mul-clause-accepted : goal.returns-in_err-checked_mul-clause-accepted
returns-in_err-checked_mul-clause-accepted c =
    let l = c.loop-byte in
    none_if _ c.args.word.now c.from_residual.ensures
    (too_large_at _ l.number l.byte-index l.invariant c.loop-byte-test.true (omega (arith, c.in_err-checked_mul.ensures)))

pub returns-in_err-number-clause-accepted : goal.returns-in_err-number-clause-accepted
returns-in_err-number-clause-accepted c =
    let l = c.loop-byte in
    none_if _ c.args.word.now c.from_residual-in_err-number.ensures
    (too_large_at _ l.number l.byte-index l.invariant c.loop-byte-test.true
    (omega (arith, c.in_err-number.ensures, c.in_ok-checked_mul.ensures)))

pub returns-clause-accepted : goal.returns-clause-accepted
returns-clause-accepted c =
    let l = c.loop-byte in
    let some : length c.args.word.now ≡ 0 → ⊥ = eqb-false _ _ (sym c.if-is_empty.ensures) in
    sym (number_from c.args.word.now (all_read _ l.number l.byte-index l.invariant c.loop-byte-test.false (omega (arith, some))
    (omega (arith, c.if-word-gt-LONGEST_NUMBER.false))))
