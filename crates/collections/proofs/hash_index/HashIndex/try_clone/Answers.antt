use Rattle.std.proofs.Common.{◌≡◌, arith, subst, sym}
use Rattle.bucket_table.specs.Views.ArraysView.{TableView}
use Rattle.collections.specs.Maps.{MapView, map_of}
use Rattle.collections.proofs.Cloning.{IsCloning, cloned, lowered, none_cloned, one_more_cloned, some_left}
use Rattle.collections.proofs.hash_index.HashIndex.try_clone.Goals as goal

-- the map of an index, with the minimum of the first copy
abbrev with_first : {K V H : Type 0} → TableView K V H → TableView K V H → MapView K V H
with_first own first = record (map_of own) { minimum = first.arrays.minimum }

pub loop-pair-init : goal.loop-pair-init
loop-pair-init g c =
    let first = c.with_minimum-copy in
    let own = with_first c.args.self.now first.result in (
      subst (λ left. IsCloning g.K.PartialEq.eq g.K.Clone.is_clone g.V.Clone.is_clone own (map_of first.result) (map_of first.result) left)
          (sym c.iter-pairs.ensures.rest)
          (none_cloned g.K.PartialEq.eq g.K.Clone.is_clone g.V.Clone.is_clone own (map_of first.result) first.ensures.empty),
      first.ensures.unmarked,
    )

pub loop-pair-preserved : goal.loop-pair-preserved
loop-pair-preserved g c =
    let first = c.with_minimum-copy in
    let pair = c.in-Some.pair in
    let put = c.in_ok-put_clone.ensures in (
      one_more_cloned g.K.PartialEq.eq g.K.Clone.is_clone g.V.Clone.is_clone (with_first c.args.self.now first.result) (map_of first.result)
          (map_of c.loop-pair.copy) (map_of c.put_clone.new.self) c.loop-pair.pairs c.next.new.self (pair.0.now, pair.1.now) put.0.pair
          c.loop-pair.invariant.0 c.in-Some.ensures.steps put.0.clone put.0.puts,
      put.1 c.loop-pair.invariant.1,
    )

pub returns-clause-copy : goal.returns-clause-copy
returns-clause-copy g c =
    let first = c.with_minimum-copy in
    let hasher : c.hasher.result.now ≡ c.args.self.now.hasher = rw (← c.self.view_is) c.hasher.ensures in
    let whole = cloned g.K.PartialEq.eq g.K.Clone.is_clone g.V.Clone.is_clone g.met.K.Eq.laws g.H.Clone.is_clone
    (with_first c.args.self.now first.result) (map_of first.result) (map_of c.loop-pair.copy) c.loop-pair.pairs
    c.in_ok-hasher.hasher c.loop-pair.invariant.0 c.in_default.ensures.steps.0 c.iter-pairs.ensures.unique first.ensures.empty
    (rw hasher at c.in_ok-hasher.ensures.cases) first.ensures.hasher (omega (arith, first.ensures.minimum)) first.ensures.maximum in (
      lowered g.K.PartialEq.eq g.K.Clone.is_clone g.V.Clone.is_clone g.H.Clone.is_clone (map_of c.args.self.now) c.loop-pair.copy
          c.set_minimum.new.self first.result.arrays.minimum c.minimum_capacity-minimum.result whole c.set_minimum.ensures
          (rw (← c.self.view_is) c.minimum_capacity-minimum.ensures),
      rw c.set_minimum.ensures c.loop-pair.invariant.1,
    )

pub returns-in_err-hasher-clause-succeeds : goal.returns-in_err-hasher-clause-succeeds
returns-in_err-hasher-clause-succeeds g c =
    let hasher : c.hasher.result.now ≡ c.args.self.now.hasher = rw (← c.self.view_is) c.hasher.ensures in
    λ empty sure. absurd (c.in_err-hasher.ensures.cases (rw hasher sure))

pub returns-in_err-put_clone-clause-succeeds : goal.returns-in_err-put_clone-clause-succeeds
returns-in_err-put_clone-clause-succeeds g c =
    let first = c.with_minimum-copy in
    let pair = c.in-Some.pair in
    λ empty sure. absurd (some_left g.K.PartialEq.eq g.K.Clone.is_clone g.V.Clone.is_clone (with_first c.args.self.now first.result)
    (map_of first.result) (map_of c.loop-pair.copy) c.loop-pair.pairs c.next.new.self (pair.0.now, pair.1.now) c.loop-pair.invariant.0
    c.in-Some.ensures.steps empty)
