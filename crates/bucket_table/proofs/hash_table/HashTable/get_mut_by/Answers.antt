use Rattle.bucket_table.proofs.Words.{false, refl}
use Rattle.bucket_table.proofs.Map.Lending.{lent_there, lent_writes}
use Rattle.bucket_table.proofs.hash_table.HashTable.get_mut_by.Goals as goal

pub returns-in-Some : goal.returns-in-Some
returns-in-Some g c =
    let o = c.in-Some.spot in
    let own = c.entry_mut_at.result.0.now in
    let e = c.entry_mut_at.ensures in
    let between = c.fetch_spot.new.self in
    let prepared = c.fetch_spot.ensures.prepared in
    let stands = c.in-Some.ensures.found in (
      (
        refl,
        λ value. lent_writes (g.P.KeyProbe.matches c.args.probe.now) g.row.TYPE _ c.args.self.now between prepared o.side o.index o.at
            stands
            own _ e.pair false value _ refl (e.map value),
        tt,
      ),
      record {
        writes_back = tt;
        found = (
          own,
          lent_there (g.P.KeyProbe.matches c.args.probe.now) g.row.TYPE _ c.args.self.now between prepared o.side o.index o.at stands own _
              e.pair,
        );
        absent = tt;
        fixed = c.fetch_spot.ensures.fixed;
      },
    )

pub returns-in-None : goal.returns-in-None
returns-in-None g c = (
  (refl, λ value. tt, c.fetch_spot.ensures.prepared),
  record { writes_back = tt; found = tt; absent = c.in-None.ensures.absent; fixed = c.fetch_spot.ensures.fixed },
)
