use Rattle.std.proofs.Common.{ap, arith}
use Rattle.bucket_table.proofs.Resize.Asked.{asks_shrinking}
use Rattle.bucket_table.proofs.Resize.PlanBounds.{slots_are}
use Rattle.bucket_table.proofs.arrays.Arrays.asks_shrinking.Goals as goal

pub returns : goal.returns
returns g c =
    let empty = c.near_slots-slots.ensures.empty in
    let is = c.need_shrink.ensures in
    asks_shrinking c.args.self.now c.args.index _ _ c.len.ensures.value c.if-len-eq0.false c.has_old.ensures c.if-has_old.false
    c.array_of-array.ensures
    (slots_are _ _ c.num_slots.ensures) (let least = ap (λ a. a.minimum) c.self.view_is in omega (arith, least, c.if-num_slots-self.false))
    (λ asked. empty.0 (is.0 asked), λ near. is.1 (empty.1 near))
