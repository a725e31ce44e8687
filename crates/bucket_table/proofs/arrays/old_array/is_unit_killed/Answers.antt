use Rattle.bucket_table.proofs.Words.{ap, arith, false, get_or, killed_flags, length, subst, sym, true, ℕ, ⊎_elim, ◌*◌, ◌+◌, ◌<◌, ◌∙◌, ◌≡◌}
use Rattle.bucket_table.proofs.Words.{◌≤◌}
use Rattle.std.proofs.lemmas.Bool.{cases_lt, false≢true}
use Rattle.bucket_table.proofs.Views.Killed.{get_or-killed_flags, length-killed_flags}
use Rattle.std.proofs.Common.{
  ℕ,
  ◌≡◌,
  ◌<◌,
  ◌≤◌,
  ◌*◌,
  ◌+◌,
  true,
  false,
  length,
  sym,
  ap,
  subst,
  ◌∙◌,
  arith,
  ⊎_elim,
  get_or,
}
use Rattle.bucket_table.proofs.arrays.old_array.is_unit_killed.Goals as goal

pub returns-then-not-is_killed : goal.returns-then-not-is_killed
returns-then-not-is_killed g c =
    let buckets = c.args.array.now in
    let long = length-killed_flags buckets in
    let within : c.loop-i.i < length buckets = omega (arith, c.loop-i-test.true, c.min-end.ensures, c.len-2.ensures.value) in
    let inside : c.loop-i.i < length (killed_flags buckets) = omega arith in
    let low : 64 * c.args.unit ≤ c.loop-i.i = omega (
      arith,
      c.loop-i-test.true,
      c.loop-i.auto.i,
      c.min-start.ensures,
      c.min-end.ensures,
      c.len.ensures.value,
      c.len-2.ensures.value,
    ) in
    let high : c.loop-i.i < 64 * c.args.unit + 64 = omega (arith, c.loop-i-test.true, c.min-end.ensures) in
    let here = c.is_killed.ensures ∙ ap (λ b. b.killed) c.bucket.ensures ∙ sym (get_or-killed_flags buckets c.loop-i.i within) in (
      λ h. absurd (false≢true h),
      λ all. let killed : c.is_killed.result ≡ true = here ∙ all
          c.loop-i.i low high inside in absurd (false≢true (sym c.if-not-is_killed.true ∙ killed)),
    )

pub loop-i-preserved : goal.loop-i-preserved
loop-i-preserved g c = λ k low below.
    let buckets = c.args.array.now in
    let within : c.loop-i.i < length buckets = omega (arith, c.loop-i-test.true, c.min-end.ensures, c.len-2.ensures.value) in
    let here = c.is_killed.ensures ∙ ap (λ b. b.killed) c.bucket.ensures ∙ sym (get_or-killed_flags buckets c.loop-i.i within) in
    let killed : get_or (killed_flags buckets) c.loop-i.i false ≡ true = sym here ∙
    c.if-not-is_killed.false in
    ⊎_elim (λ (less : k < c.loop-i.i). c.loop-i.invariant k low less)
    (λ (ge : c.loop-i.i ≤ k). let last : c.loop-i.i ≡ k = omega arith in subst
    (λ (n : ℕ). get_or (killed_flags buckets) n false ≡ true) last killed) (cases_lt k c.loop-i.i)
