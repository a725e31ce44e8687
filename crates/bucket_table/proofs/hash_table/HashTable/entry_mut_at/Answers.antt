use Rattle.bucket_table.proofs.Words.{refl}
use Rattle.bucket_table.proofs.Map.SlotSteps.{writes}
use Rattle.bucket_table.proofs.Map.Counted.{counted_same, len_written}
use Rattle.bucket_table.proofs.hash_table.HashTable.entry_mut_at.Goals as goal

pub invariant_of-self-lent : goal.invariant_of-self-lent
invariant_of-self-lent g c value =
    let o = c.args.spot.now in
    let within = rw (← c.self.view_is) at c.requires.within in
    let x = writes g.met.K.Eq.laws g.H.KeyHash.hash_of g.row.TYPE o.side o.index c.self.invariant.one_map within o.at _
    c.entry_of_mut.ensures.pair value in
    counted_same c.self.invariant x.one_map (len_written x.map)

pub returns : goal.returns
returns g c =
    let o = c.args.spot.now in
    let within = rw (← c.self.view_is) at c.requires.within in
    let here = c.entry_of_mut.ensures.pair in (
      (refl, λ value. rw (← c.self.view_is) refl),
      record {
        writes_back = tt;
        pair = rw (← c.self.view_is) here;
        map = λ value. rw (← c.self.view_is) (writes g.met.K.Eq.laws g.H.KeyHash.hash_of g.row.TYPE o.side o.index
            c.self.invariant.one_map within o.at _ here value).map;
      },
    )
