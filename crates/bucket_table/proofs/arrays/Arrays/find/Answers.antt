use Rattle.bucket_table.specs.Map.Finding.{ReadiesThenGrows}
use Rattle.bucket_table.proofs.Map.Finding.{none_found, one_home}
use Rattle.bucket_table.proofs.Resize.Growing.{home_grown, locked_grown, locked_ready}
use Rattle.bucket_table.proofs.Views.Keeping.{keeps_both}
use Rattle.bucket_table.proofs.arrays.Arrays.find.Goals as goal

pub returns-clause-placed : goal.returns-clause-placed
returns-clause-placed g c = c.grow_at-side.ensures.placed (g.H.KeyHash.hash_of c.args.hasher.now) c.fetch_or_make.ensures.placed

pub returns-clause-kept : goal.returns-clause-kept
returns-clause-kept g c = keeps_both c.args.self.now c.fetch_or_make.new.self c.grow_at-side.new.self c.fetch_or_make.ensures.kept
    c.grow_at-side.ensures.kept

pub returns-clause-locked : goal.returns-clause-locked
returns-clause-locked g c =
    locked_grown c.grow_at-side.result c.home-index.result c.fetch_or_make.new.self c.grow_at-side.new.self
    (g.H.KeyHash.hash_of c.args.hasher.now)
    c.grow_at-side.ensures.grown c.fetch_or_make.ensures.placed (locked_ready c.args.hash c.home-index.result c.fetch_or_make.new.self
    c.in-Ok.ensures.ready c.home-index.ensures)

pub returns-clause-home : goal.returns-clause-home
returns-clause-home g c =
    home_grown c.grow_at-side.result c.args.hash c.home-index.result c.fetch_or_make.new.self c.grow_at-side.new.self
    c.grow_at-side.ensures.grown c.home-index.ensures

pub returns-clause-finds : goal.returns-clause-finds
unfolding ReadiesThenGrows
returns-clause-finds g c =
    let e = c.fetch_or_make.ensures in
    let one = one_home c.args.hash c.home-index.result c.args.self.now c.fetch_or_make.new.self c.home-index.ensures e.units in
    let killed = c.in-Ok.ensures.ready.killed c.home-index.result c.home-index.ensures in (
      c.fetch_or_make.new.self,
      record { first = c.in-Ok.ensures.made; beside = e.beside; units = one; killed = killed },
      c.grow_at-side.ensures.asked,
      c.grow_at-side.ensures.grown,
    )

pub returns-in_default-clause-refused : goal.returns-in_default-clause-refused
returns-in_default-clause-refused g c =
    let e = c.fetch_or_make.ensures in
    none_found c.args.hash c.args.self.now c.fetch_or_make.new.self e.beside e.units (λ alone. rw c.in_default.is at (e.refused alone))
    (rw c.in_default.is at e.wanted)
