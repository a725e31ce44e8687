use Rattle.bucket_table.proofs.Words.{arith, inl, inr, refl}
use Rattle.bucket_table.proofs.Resize.Following.{given_up_keeps}
use Rattle.bucket_table.proofs.Resize.GivingUp.{gives_up}
use Rattle.bucket_table.proofs.Resize.Sparse.{keeps_pushed, placed_pushed, pushed_or_same}
use Rattle.bucket_table.proofs.arrays.Arrays.shrink_to.Goals as goal

pub push_array-requires : goal.push_array-requires
push_array-requires g c =
    let asks = c.asks_shrinking.ensures.0 c.if-not-asks_shrinking.false in
    let most = c.fact_sound.ensures in (
      omega arith,
      (
        asks.some,
        (
          asks.alone,
          omega (
            arith,
            c.max.ensures,
            c.in-Resize.ensures.capacity,
            c.if-pairs-len.false,
            c.len-len.ensures.value,
            most.within,
          ),
        ),
      ),
    )

pub returns-in-Keep-clause-asked : goal.returns-in-Keep-clause-asked
returns-in-Keep-clause-asked g c =
    inl (
      (omega (arith, c.if-pairs-len.false, c.len-len.ensures.value), c.asks_shrinking.ensures.0 c.if-not-asks_shrinking.false),
      (_, c.in-Keep.ensures.plan, refl),
    )

pub returns-in-GiveUp-clause-asked : goal.returns-in-GiveUp-clause-asked
returns-in-GiveUp-clause-asked g c =
    let gone = gives_up c.args.self.now c.give_array_up.new.self c.in-GiveUp.ensures.plan c.give_array_up.ensures in
    inl (
      (omega (arith, c.if-pairs-len.false, c.len-len.ensures.value), c.asks_shrinking.ensures.0 c.if-not-asks_shrinking.false),
      (_, c.in-GiveUp.ensures.plan, gone),
    )

pub returns-in-GiveUp-clause-kept : goal.returns-in-GiveUp-clause-kept
returns-in-GiveUp-clause-kept g c =
    given_up_keeps c.args.self.now c.give_array_up.new.self
    (gives_up c.args.self.now c.give_array_up.new.self c.in-GiveUp.ensures.plan c.give_array_up.ensures)

pub returns-then-capacity-len-clause-asked : goal.returns-then-capacity-len-clause-asked
returns-then-capacity-len-clause-asked g c =
    let pushed = pushed_or_same _ c.args.self.now c.push_array.new.self c.push_array.result c.push_array.ensures.pushed
    c.push_array.ensures.unchanged in
    inl (
      (omega (arith, c.if-pairs-len.false, c.len-len.ensures.value), c.asks_shrinking.ensures.0 c.if-not-asks_shrinking.false),
      (_, c.in-Resize.ensures.plan, inl (omega (arith, c.if-capacity-len.true, c.len-len.ensures.value), rw c.max.ensures at pushed)),
    )

pub returns-then-capacity-len-clause-kept : goal.returns-then-capacity-len-clause-kept
returns-then-capacity-len-clause-kept g c =
    keeps_pushed _ c.args.self.now c.push_array.new.self (pushed_or_same _ c.args.self.now c.push_array.new.self c.push_array.result
    c.push_array.ensures.pushed c.push_array.ensures.unchanged)

pub returns-then-capacity-len-clause-placed : goal.returns-then-capacity-len-clause-placed
returns-then-capacity-len-clause-placed g c = λ hash.
    placed_pushed hash _ c.args.self.now c.push_array.new.self (pushed_or_same _ c.args.self.now c.push_array.new.self c.push_array.result
    c.push_array.ensures.pushed c.push_array.ensures.unchanged)

pub returns-else-capacity-len-clause-asked : goal.returns-else-capacity-len-clause-asked
returns-else-capacity-len-clause-asked g c =
    inl (
      (omega (arith, c.if-pairs-len.false, c.len-len.ensures.value), c.asks_shrinking.ensures.0 c.if-not-asks_shrinking.false),
      (_, c.in-Resize.ensures.plan, inr (omega (arith, c.if-capacity-len.false, c.len-len.ensures.value), refl)),
    )
