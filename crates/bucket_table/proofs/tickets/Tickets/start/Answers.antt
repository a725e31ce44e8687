use Rattle.bucket_table.proofs.Words.{arith, length, refl, rules, ℕ, ◌*◌, ◌<◌}
use Rattle.std.proofs.Common.{mul_comm}
use Rattle.bucket_table.specs.Layout.TicketFields.{state_of}
use Rattle.bucket_table.proofs.Rehash.Handing.{handed_out}
use Rattle.bucket_table.proofs.tickets.Tickets.start.Goals as goal

pub returns : goal.returns
returns c =
    let few = c.self.invariant.state.few_open in
    let p : ℕ = c.self.inside.position in
    let left : 64 * p < c.self.inside.len = omega arith in
    let room : length c.self.inside.open_units.items < 2047 = search rules in
    handed_out (state_of c.self.inside) _ _ _ c.self.view_is left room (mul_comm p 2048) refl c.push_reserved.ensures.items refl
