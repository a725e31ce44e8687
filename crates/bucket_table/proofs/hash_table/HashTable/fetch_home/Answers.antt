use Rattle.bucket_table.proofs.Scripts.CallSteps.{empty_without}
use Rattle.bucket_table.proofs.Map.Finding.{home_answered, prepared}
use Rattle.bucket_table.proofs.Map.Counted.{map_kept}
use Rattle.bucket_table.proofs.hash_table.HashTable.fetch_home.Goals as goal

pub invariant_of-self : goal.invariant_of-self
invariant_of-self g c =
    let e = c.fetch_home-is_ready.ensures in
    map_kept g.K.PartialEq.eq g.met.K.Eq.laws (g.H.KeyHash.hash_of c.self.inside.hasher) c.self.inside.arrays
    c.fetch_home-is_ready.new.self c.self.invariant e.kept.keeps e.placed

pub returns-clause-prepared : goal.returns-clause-prepared
returns-clause-prepared g c =
    let e = c.fetch_home-is_ready.ensures in
    rw (← c.self.view_is) (prepared g.row.TYPE c.args.hash _ _ c.fetch_home-is_ready.new.self e.kept e.units e.alone
    (home_answered c.args.hash _ _ c.fetch_home-is_ready.result e.ready e.missing e.wanted e.kept.current_len))

pub returns-clause-empty : goal.returns-clause-empty
returns-clause-empty g c =
    let e = c.fetch_home-is_ready.ensures in
    empty_without c.self.inside.arrays c.fetch_home-is_ready.new.self c.fetch_home-is_ready.result e.missing e.kept.current_len
    c.fact_sound.ensures
