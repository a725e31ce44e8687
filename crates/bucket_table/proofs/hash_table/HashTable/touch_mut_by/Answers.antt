use Rattle.bucket_table.proofs.Words.{refl}
use Rattle.bucket_table.proofs.Map.Lending.{lent_there, lent_writes}
use Rattle.bucket_table.proofs.Map.SlotSteps.{writes_touching}
use Rattle.bucket_table.proofs.Map.Counted.{counted_same, len_written}
use Rattle.bucket_table.proofs.hash_table.HashTable.touch_mut_by.Goals as goal

pub invariant_of-self-lent : goal.invariant_of-self-lent
invariant_of-self-lent g c value =
    let o = c.in-Some.spot in
    let stands = rw (← c.self.view_is) at c.in-Some.ensures.found in
    let x = writes_touching g.met.K.Eq.laws g.H.KeyHash.hash_of g.row.TYPE o.side o.index c.self.invariant.one_map stands.within o.at _
    c.touch_entry_of.ensures.pair g.L.LruList.KEEPS value in
    counted_same c.self.invariant x.one_map (len_written x.map)

pub returns-in-Some : goal.returns-in-Some
returns-in-Some g c =
    let matches = g.P.KeyProbe.matches c.args.probe.now in
    let o = c.in-Some.spot in
    let own = c.touch_entry_of.result.0.now in
    let here = c.touch_entry_of.ensures.pair in
    let between = c.fetch_spot.new.self in
    let prepared = c.fetch_spot.ensures.prepared in
    let stands = c.in-Some.ensures.found in
    let seen = rw (← c.self.view_is) at stands in (
      (
        refl,
        λ value. lent_writes matches g.row.TYPE _ c.args.self.now between prepared o.side o.index o.at stands own _
            (rw (← c.self.view_is) here) g.L.LruList.KEEPS value _ (rw (← c.self.view_is) refl) (rw (← c.self.view_is)
            (writes_touching g.met.K.Eq.laws g.H.KeyHash.hash_of g.row.TYPE o.side o.index c.self.invariant.one_map seen.within o.at _ here
            g.L.LruList.KEEPS value).map),
        tt,
      ),
      record {
        writes_back = tt;
        found = (
          own,
          lent_there matches g.row.TYPE _ c.args.self.now between prepared o.side o.index o.at stands own _ (rw (← c.self.view_is) here),
        );
        absent = tt;
        fixed = c.fetch_spot.ensures.fixed;
      },
    )

pub returns-in-None : goal.returns-in-None
returns-in-None g c = (
  (refl, λ value. tt, rw (← c.self.view_is) at c.fetch_spot.ensures.prepared),
  record { writes_back = tt; found = tt; absent = c.in-None.ensures.absent; fixed = c.fetch_spot.ensures.fixed },
)
