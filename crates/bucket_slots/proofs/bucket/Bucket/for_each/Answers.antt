use Rattle.bucket_slots.proofs.Words.{ap, arith, length, of_calls, pairs_ahead, pairs_in, rules, slot_in, sym, ◌∙◌}
use Rattle.bucket_slots.proofs.PairsAfter.{live_from_pair}
use Rattle.bucket_slots.proofs.CallingEach.{done, goes_on, own_alone, own_called}
use Rattle.bucket_slots.proofs.bucket.Bucket.for_each.Goals as goal

pub returns-then-is_empty-clause-calls : goal.returns-then-is_empty-clause-calls
returns-then-is_empty-clause-calls g c =
    own_alone _ c.args.f.now c.for_each.new.f c.args.self.now _ (ap (λ b. b.own) c.self.view_is)
    (sym (ap (λ b. b.chain) c.self.view_is) ∙ c.is_empty.ensures c.if-is_empty.true) c.for_each.ensures.calls

pub pairs-init : goal.pairs-init
pairs-init g c = (
  λ always. c.for_each.ensures.again,
  own_called _ c.args.f.now c.for_each.new.f c.args.self.now c.at-at.result _ (ap (λ b. b.own) c.self.view_is) c.self.invariant.1.own_long
      c.at-at.ensures c.for_each.ensures.calls,
)

pub entry-requires : goal.entry-requires
entry-requires g c =
    let m = c.find_next.ensures.ahead c.pairs-test.true in
    (search rules, (search rules, live_from_pair (slot_in c.args.self.now c.find_next.new.self) m.pair m.here))

pub pairs-smaller : goal.pairs-smaller
pairs-smaller g c = let m = c.find_next.ensures.ahead c.pairs-test.true in omega (arith, ap length m.ahead)

pub pairs-preserved : goal.pairs-preserved
pairs-preserved g c = (
  λ always. let here = c.pairs.invariant.0 always in search of_calls,
  goes_on _ c.args.f.now c.pairs.f c.f.new.self (pairs_in c.args.self.now) c.args.self.now c.pairs.at c.find_next.new.self
      c.entry.result.0 c.entry.result.1 c.pairs.invariant.1 (c.find_next.ensures.ahead c.pairs-test.true)
      c.entry.ensures.pair c.f.ensures,
)

pub returns-clause-calls : goal.returns-clause-calls
returns-clause-calls g c =
    done _ c.args.f.now c.pairs.f (pairs_in c.args.self.now) (pairs_ahead c.args.self.now c.pairs.at) c.pairs.invariant.1
    (c.find_next.ensures.end c.pairs-test.false).ahead

pub f-requires : goal.f-requires
f-requires g c = let here = c.pairs.invariant.0 c.requires.callable in search of_calls
