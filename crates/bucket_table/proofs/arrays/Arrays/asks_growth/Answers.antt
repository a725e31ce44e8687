use Rattle.bucket_table.proofs.Resize.Asked.{asks_growth}
use Rattle.bucket_table.proofs.arrays.Arrays.asks_growth.Goals as goal

pub returns : goal.returns
returns g c =
    let full = c.near_slots-slots.ensures.full in
    let is = c.need_enlarge.ensures in
    asks_growth c.args.self.now c.args.index _ _ c.len.ensures.value c.if-len-eq0.false c.has_old.ensures c.if-has_old.false
    c.array_of.ensures (λ asked. full.0 (is.0 asked), λ near. is.1 (full.1 near))
