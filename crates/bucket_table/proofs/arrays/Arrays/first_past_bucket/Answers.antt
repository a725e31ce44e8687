use Rattle.bucket_table.proofs.Words.{arith, bound_of, rules, subst, sym, ℕ, ◌+◌, ◌<◌}
use Rattle.bucket_table.specs.Walking.Cursors.{Passes}
use Rattle.bucket_table.proofs.Views.Keeping.{keeps_both}
use Rattle.bucket_table.proofs.arrays.Arrays.first_past_bucket.Goals as goal

pub returns-clause-kept : goal.returns-clause-kept
returns-clause-kept g c = keeps_both c.args.self.now c.shrink_emptied.new.self c.first_past.new.self c.shrink_emptied.ensures.kept
    c.first_past.ensures.kept.keeps

pub first_past-requires : goal.first_past-requires
first_past-requires g c =
    let within : c.args.index < c.len_on-len.result = subst (λ (n : ℕ). c.args.index < n)
    (sym c.len_on-len.ensures.value) c.requires.within in (
      search rules,
      (
        search rules,
        (
          c.len_on-len.ensures.power (omega (arith, within)),
          (
            within,
            c.shrink_emptied.ensures.placed
                (g.H.KeyHash.hash_of c.args.hasher.now) c.requires.placed,
          ),
        ),
      ),
    )

pub returns-clause-departs : goal.returns-clause-departs
returns-clause-departs g c = record {
  between = c.shrink_emptied.new.self;
  asked = c.shrink_emptied.ensures.asked;
  passes = subst
      (λ (n : ℕ). Passes (λ (i : ℕ). i) (bound_of n (c.args.index + 1)) c.shrink_emptied.new.self c.first_past.result c.first_past.new.self)
      c.len_on-len.ensures.value c.first_past.ensures.passes;
}
