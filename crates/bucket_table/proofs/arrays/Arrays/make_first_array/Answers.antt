use Rattle.std.proofs.Common.{ap, arith}
use Rattle.bucket_table.proofs.Views.Laws.{fresh_fits}
use Rattle.bucket_table.proofs.arrays.Arrays.make_first_array.Goals as goal

pub invariant_of-self : goal.invariant_of-self
invariant_of-self g c =
    let maximum = ap (λ a. a.maximum) c.self.view_is in
    rw (c.start_digests.ensures, c.current_in.ensures.array) (fresh_fits _ _ _ _ _ c.in_ok-fresh.fresh _ _ _ c.self.invariant
    (omega (arith, maximum, c.requires.capacity)) c.in_ok-fresh.ensures c.fact_room.ensures.length
    c.self.invariant.tickets_len)
