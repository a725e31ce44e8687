use Rattle.bucket_table.proofs.Words.{IsLength, arith, rules, subst, ◌<◌, ◌∙◌}
use Rattle.bucket_table.proofs.Walking.CursorSteps.{ends, passes_at, sets_out, stops_at}
use Rattle.bucket_table.proofs.Views.Keeping.{kept_both}
use Rattle.bucket_table.proofs.Walking.PassingUnits.{begins_wide, passes_all, passes_found, passes_refused, worked_more, worked_none}
use Rattle.bucket_table.proofs.arrays.Arrays.first_from.Goals as goal

pub returns-in_default-clause-kept : goal.returns-in_default-clause-kept
returns-in_default-clause-kept g c = kept_both c.args.self.now c.loop-index.self c.prepare_at.new.self c.loop-index.invariant.0.kept
    c.prepare_at.ensures.kept

pub returns-then-find_next-clause-kept : goal.returns-then-find_next-clause-kept
returns-then-find_next-clause-kept g c = kept_both c.args.self.now c.loop-index.self c.prepare_at.new.self c.loop-index.invariant.0.kept
    c.prepare_at.ensures.kept

pub returns-then-find_next-clause-found : goal.returns-then-find_next-clause-found
returns-then-find_next-clause-found g c =
    stops_at (g.H.KeyHash.hash_of c.args.hasher.now) c.args.self.now c.loop-index.self c.prepare_at.new.self c.args.start c.loop-index.index
    c.len.result c.loop-index.at c.find_next.new.self c.bucket_of.result.now
    c.loop-index.invariant.0 c.prepare_at.ensures.placed c.prepare_at.ensures.kept c.len.ensures.value (search rules) c.len.ensures.power
    c.in-Ok.ensures.ready c.bucket_of.ensures (c.find_next.ensures.ahead c.if-find_next.true)

pub loop-index-smaller : goal.loop-index-smaller
loop-index-smaller g c =
    let same = c.loop-index.invariant.0.kept.current_len in
    let within : c.loop-index.index < c.len.result = search rules in
    omega (arith, within, c.len.ensures.value, same)

pub loop-index-preserved : goal.loop-index-preserved
loop-index-preserved g c = (
  passes_at (g.H.KeyHash.hash_of c.args.hasher.now) c.args.self.now c.loop-index.self c.prepare_at.new.self c.args.start c.loop-index.index
      c.len.result c.loop-index.at c.find_next.new.self c.bucket_of.result.now
      c.loop-index.invariant.0 c.prepare_at.ensures.placed c.prepare_at.ensures.kept c.len.ensures.value (search rules)
      c.in-Ok.ensures.ready c.bucket_of.ensures (c.find_next.ensures.end c.if-find_next.false),
  worked_more c.args.self.now c.loop-index.self c.prepare_at.new.self c.args.start c.loop-index.index c.loop-index.invariant.1
      c.prepare_at.ensures.kept c.prepare_at.ensures.units c.prepare_at.ensures.alone c.len.result c.len.ensures.value (search rules)
      c.in-Ok.ensures.ready,
)

pub loop-index-init : goal.loop-index-init
loop-index-init g c = (
  sets_out (g.H.KeyHash.hash_of c.args.hasher.now) c.args.self.now c.args.start c.null.result c.requires.placed c.null.ensures,
  worked_none c.args.self.now c.args.start,
)

pub returns-in_default-clause-passes : goal.returns-in_default-clause-passes
returns-in_default-clause-passes g c = λ bound begins.
    passes_refused c.args.self.now c.loop-index.self c.prepare_at.new.self c.args.start c.loop-index.index c.loop-index.invariant.1
    c.prepare_at.ensures.kept c.prepare_at.ensures.units c.prepare_at.ensures.alone c.len.result bound c.len.ensures.value
    (search rules) c.in_default.ensures.wanted (begins_wide c.args.self.now c.len.result c.args.start bound
    (c.len.ensures.value ∙ c.loop-index.invariant.1.kept.current_len) c.len.ensures.power begins)

pub returns-then-find_next-clause-passes : goal.returns-then-find_next-clause-passes
returns-then-find_next-clause-passes g c = λ bound begins.
    passes_found c.args.self.now c.prepare_at.new.self c.args.start c.loop-index.index bound
    (worked_more c.args.self.now c.loop-index.self c.prepare_at.new.self c.args.start c.loop-index.index c.loop-index.invariant.1
    c.prepare_at.ensures.kept c.prepare_at.ensures.units c.prepare_at.ensures.alone c.len.result c.len.ensures.value (search rules)
    c.in-Ok.ensures.ready)
    c.loop-index.invariant.0.order (begins_wide c.args.self.now c.len.result c.args.start bound
    (c.len.ensures.value ∙ c.loop-index.invariant.1.kept.current_len) c.len.ensures.power begins)

pub returns-clause-passes : goal.returns-clause-passes
returns-clause-passes g c = λ bound begins.
    passes_all c.args.self.now c.loop-index.self c.args.start c.loop-index.index bound c.loop-index.invariant.1
    (omega (arith, c.loop-index-test.false, c.len.ensures.value)) (begins_wide c.args.self.now c.len.result c.args.start bound
    (c.len.ensures.value ∙ c.loop-index.invariant.1.kept.current_len) c.len.ensures.power begins)

pub returns-clause-found : goal.returns-clause-found
returns-clause-found g c = record {
  none = λ nothing. ends (g.H.KeyHash.hash_of c.args.hasher.now) c.args.self.now c.loop-index.self c.args.start c.loop-index.index
      c.loop-index.at c.loop-index.invariant.0 (g.met.H.KeyHash.fits c.args.hasher.now) c.fact_sound.ensures
      (λ some. subst IsLength c.len.ensures.value (c.len.ensures.power (omega (arith, some, c.len.ensures.value)))) (omega
      (arith, c.loop-index-test.false, c.len.ensures.value));
  null = c.loop-index.invariant.0.null;
}

pub returns-in_default-clause-found : goal.returns-in_default-clause-found
returns-in_default-clause-found g c = record { none = λ nothing. absurd cc; null = c.loop-index.invariant.0.null }
