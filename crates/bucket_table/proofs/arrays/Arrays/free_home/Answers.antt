use Rattle.bucket_table.proofs.Words.{ap, arith, false≢true, length, pairs_in, subst, sym, ℕ, ◌<◌, ◌∙◌}
use Rattle.bucket_table.proofs.Resize.Asked.{none_from}
use Rattle.bucket_table.proofs.arrays.Arrays.free_home.Goals.{else-is_checked-via-else-is_checked}
use Rattle.bucket_table.proofs.arrays.Arrays.free_home.Goals.{else-is_checked-via-then-is_checked+else-len-ge-BUCKET_LEN}
use Rattle.bucket_table.proofs.arrays.Arrays.free_home.Goals as goal

pub returns-then-len-ge-BUCKET_LEN-clause-none : goal.returns-then-len-ge-BUCKET_LEN-clause-none
returns-then-len-ge-BUCKET_LEN-clause-none g c = λ index may.
    let long = c.len-then-is_checked.ensures ∙ ap (λ b. length (pairs_in b)) c.bucket_of.ensures in
    let one = c.home-index.ensures.the_one index may.home.own in
    let few = may.few c.if-is_checked.true in
    omega (arith, rw (one, ← long) at few, c.if-len-ge-BUCKET_LEN.true)

pub returns-clause-free : goal.returns-clause-free
returns-clause-free g c = record {
  alone = none_from c.has_old.ensures c.if-has_old.false;
  home = c.home-index.ensures;
  few = elim c.else-is_checked.branch [
    | else-is_checked-via-then-is_checked+else-len-ge-BUCKET_LEN w ↦ λ asked.
        let long = w.len-then-is_checked.ensures ∙ ap (λ b. length (pairs_in b)) w.bucket_of.ensures
        in
        subst (λ (n : ℕ). n < 32) long w.if-len-ge-BUCKET_LEN.false
    | else-is_checked-via-else-is_checked w ↦ λ asked. absurd (false≢true (sym w.if-is_checked.false ∙ asked))
  ];
}
