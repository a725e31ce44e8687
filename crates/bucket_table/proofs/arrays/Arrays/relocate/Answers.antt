use Rattle.bucket_table.proofs.Rehash.MovesInArrays.{arrays_after, done_at, placed_moved, refused_at}
use Rattle.bucket_table.proofs.arrays.Arrays.relocate.Goals as goal

pub invariant_of-self : goal.invariant_of-self
invariant_of-self g c =
    let e = c.relocate.ensures in
    arrays_after _ _ c.args.index _ _ _ _ _ c.relocate.result e.moved e.kept e.linked_kept
    (rw (← c.current_in-current.ensures.array, ← c.array_mut.ensures.array) at c.self.invariant)

pub returns-clause-placed : goal.returns-clause-placed
returns-clause-placed g c =
    let e = c.relocate.ensures in
    placed_moved _ _ c.args.index _ _ _ _ _ _ c.relocate.result (rw (← c.self.view_is, ← c.array_mut.ensures.array) at c.requires.within)
    e.moved e.linked_kept e.law
    (rw (← c.self.view_is, ← c.current_in-current.ensures.array, ← c.array_mut.ensures.array) at c.requires.placed)

pub returns-clause-done : goal.returns-clause-done
returns-clause-done g c = rw (← c.self.view_is, ← c.current_in-current.ensures.array, ← c.array_mut.ensures.array)
    (done_at _ _ c.args.index _ _ _ _ _ c.relocate.result (rw (← c.self.view_is, ← c.array_mut.ensures.array) at c.requires.within)
    c.relocate.ensures.moved c.relocate.ensures.recency)

pub returns-clause-refused : goal.returns-clause-refused
returns-clause-refused g c =
    rw (← c.self.view_is, ← c.current_in-current.ensures.array, ← c.array_mut.ensures.array)
    (refused_at _ _ c.args.index _ _ _ _ _ c.relocate.result c.relocate.ensures.kept c.relocate.ensures.linked_kept)

pub returns-clause-recency : goal.returns-clause-recency
returns-clause-recency g c =
    rw (← c.self.view_is, ← c.current_in-current.ensures.array, ← c.array_mut.ensures.array) c.relocate.ensures.recency
