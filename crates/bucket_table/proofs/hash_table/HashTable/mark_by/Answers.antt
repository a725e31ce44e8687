use Rattle.bucket_table.proofs.Words.{bucket_on, by-no_new, by-trans, marks_in, tombstones_of, refl}
use Rattle.bucket_slots.proofs.MarksAfter.{by-one, marks_in-slots_marked}
use Rattle.bucket_table.proofs.Map.KeySteps.{marks_through}
use Rattle.bucket_table.proofs.Map.SlotSteps.{marks}
use Rattle.bucket_table.specs.Map.MapState.{state_of}
use Rattle.bucket_table.proofs.Map.TakeSteps.{same_taken, shown_before, then_taken}
use Rattle.bucket_table.proofs.Map.Counted.{counted_after, len_taken}
use Rattle.bucket_table.proofs.hash_table.HashTable.mark_by.Goals as goal

pub invariant_of-self : goal.invariant_of-self
invariant_of-self g c =
    let o = c.in-Some.spot in
    let stands = rw (← c.self.view_is) at c.in-Some.ensures.found in
    let e = c.mark_at.ensures in
    let x = marks g.met.K.Eq.laws g.H.KeyHash.hash_of g.row.TYPE o.side o.index c.self.invariant.one_map stands.within o.at stands.pair
    stands.slot _ _ e.kept e.placed in
    counted_after c.self.invariant x.one_map 1 0 (len_taken x.map) c.count_taken.ensures

pub returns-in-Some-clause-map : goal.returns-in-Some-clause-map
returns-in-Some-clause-map g c =
    let o = c.in-Some.spot in
    let stands = rw (← c.self.view_is) at c.in-Some.ensures.found in
    let keeps = rw (← c.self.view_is) at c.fetch_spot.ensures.prepared.map in
    let own = c.entry_of.result.0 in
    let value = c.entry_of.result.1 in
    let there = c.entry_of.ensures in
    let e = c.mark_at.ensures in (
      own,
      value,
      c.reader-answer.ensures,
      same_taken (g.P.KeyProbe.matches c.args.probe.now) _ _ stands.pair (own.now, value.now) stands.slot stands.there there,
      then_taken _ _ _ (own.now, value.now) keeps (marks g.met.K.Eq.laws g.H.KeyHash.hash_of g.row.TYPE o.side o.index
          c.self.invariant.one_map
          stands.within o.at (own.now, value.now) there _ _ e.kept e.placed).map,
    )

pub returns-in-Some-clause-arrays : goal.returns-in-Some-clause-arrays
returns-in-Some-clause-arrays g c = record {
  between = c.fetch_spot.new.self;
  prepared = c.fetch_spot.ensures.prepared;
  done = (
    c.in-Some.spot.side,
    c.in-Some.spot.index,
    c.in-Some.spot.at,
    c.in-Some.ensures.found,
    rw (← c.self.view_is, ← c.pairs_left-pairs.ensures) c.mark_at.ensures.asked,
  );
}

pub returns-in-Some-clause-marks : goal.returns-in-Some-clause-marks
returns-in-Some-clause-marks g c =
    let o = c.in-Some.spot in
    let epoch = g.G.Generation.epoch_of c.args.generation.now in
    let stands = rw (← c.self.view_is) at c.in-Some.ensures.found in
    let none = rw (← c.self.view_is) at c.fetch_spot.ensures.prepared.kept.keeps.marks in
    by-trans epoch (tombstones_of c.args.self.now.arrays) (tombstones_of c.self.inside.arrays) (tombstones_of c.mark_at.new.self)
    (by-no_new epoch _ _ none)
    (marks_through epoch _ o.side o.index _ c.mark_at.new.self (by-one epoch stands.pair
    (marks_in (bucket_on c.self.inside.arrays o.side o.index)) _ (marks_in-slots_marked _ o.at epoch stands.pair stands.slot))
    c.mark_at.ensures.kept.marks)

pub returns-in-None-clause-map : goal.returns-in-None-clause-map
returns-in-None-clause-map g c = (c.in-None.ensures.absent, c.fetch_spot.ensures.prepared.map)

pub returns-in-None-clause-arrays : goal.returns-in-None-clause-arrays
returns-in-None-clause-arrays g c = record { between = c.fetch_spot.new.self; prepared = c.fetch_spot.ensures.prepared; done = refl }

pub returns-in-None-clause-marks : goal.returns-in-None-clause-marks
returns-in-None-clause-marks g c = by-no_new _ _ _ c.fetch_spot.ensures.prepared.kept.keeps.marks

pub reader-answer-requires : goal.reader-answer-requires
reader-answer-requires g c =
    let stands = rw (← c.self.view_is) at c.in-Some.ensures.found in
    let keeps = rw (← c.self.view_is) at c.fetch_spot.ensures.prepared.map in
    c.requires.callable _ _ (shown_before (g.P.KeyProbe.matches c.args.probe.now) (state_of g.row.TYPE c.args.self.now) _ _
    stands.pair _ keeps
    stands.slot stands.there c.entry_of.ensures)
