use Rattle.bucket_table.proofs.Map.Finding.{found_ready}
use Rattle.bucket_table.proofs.Map.Counted.{map_kept}
use Rattle.bucket_table.specs.declared.hash_table.ResizeRule.TheVariants.{Sampled}
use Rattle.bucket_table.proofs.Map.MapKept.{state_found}
use Rattle.bucket_table.proofs.Resize.Growing.{home_grown, locked_grown, locked_ready}
use Rattle.bucket_table.proofs.hash_table.HashTable.find_ready.Goals as goal

pub invariant_of-self : goal.invariant_of-self
invariant_of-self g c =
    let e = c.grow_at-side.ensures in
    map_kept g.K.PartialEq.eq g.met.K.Eq.laws (g.H.KeyHash.hash_of c.self.inside.hasher) c.self.inside.arrays c.grow_at-side.new.self
    c.self.invariant e.kept (e.placed (g.H.KeyHash.hash_of c.self.inside.hasher) c.self.invariant.one_map.placed)

pub returns-clause-map : goal.returns-clause-map
returns-clause-map g c =
    rw (← c.self.view_is) (state_found g.row.TYPE c.self.inside.hasher c.self.inside.arrays c.grow_at-side.new.self
    c.grow_at-side.ensures.kept)

pub returns-clause-locked : goal.returns-clause-locked
returns-clause-locked g c =
    let ready = rw (← c.self.view_is) at c.requires.ready in
    locked_grown c.grow_at-side.result c.home-index.result c.self.inside.arrays c.grow_at-side.new.self
    (g.H.KeyHash.hash_of c.self.inside.hasher) c.grow_at-side.ensures.grown c.self.invariant.one_map.placed
    (locked_ready c.args.hash c.home-index.result c.self.inside.arrays ready c.home-index.ensures)

pub returns-clause-home : goal.returns-clause-home
returns-clause-home g c =
    home_grown c.grow_at-side.result c.args.hash c.home-index.result c.self.inside.arrays c.grow_at-side.new.self
    c.grow_at-side.ensures.grown c.home-index.ensures

pub returns-clause-found : goal.returns-clause-found
returns-clause-found g c = λ first prepared.
    let ready = rw (← c.self.view_is) at c.requires.ready in
    let e = c.grow_at-side.ensures in
    let locked = locked_grown c.grow_at-side.result c.home-index.result c.self.inside.arrays c.grow_at-side.new.self
    (g.H.KeyHash.hash_of c.self.inside.hasher) e.grown c.self.invariant.one_map.placed
    (locked_ready c.args.hash c.home-index.result c.self.inside.arrays ready c.home-index.ensures) in
    let home = home_grown c.grow_at-side.result c.args.hash c.home-index.result c.self.inside.arrays c.grow_at-side.new.self e.grown
    c.home-index.ensures in
    found_ready g.row.TYPE c.args.hash c.self.inside.hasher c.self.inside.arrays c.grow_at-side.new.self first c.grow_at-side.result
    c.home-index.result (rw (← c.self.view_is) at prepared) ready c.home-index.ensures e.kept e.asked e.grown locked home Sampled
