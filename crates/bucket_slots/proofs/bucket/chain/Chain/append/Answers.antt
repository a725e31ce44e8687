use Rattle.bucket_slots.proofs.Words.{ap, arith, length, ◌++◌, ◌+◌, ◌^◌, ◌∙◌, ◌≡◌, ◌≤◌}
use Rattle.bucket_slots.proofs.ChainRows.{IsCounted-append}
use Rattle.bucket_slots.proofs.bucket.chain.Chain.append.Goals as goal

pub invariant_of-self : goal.invariant_of-self
invariant_of-self g c =
    let rows = c.self.inside.blocks in
    let more = c.more.inside.blocks in
    let most = c.free_blocks-more.ensures.most in
    let few : length rows + length more ≤ 2 ^ 28 =
    omega (arith, c.get-len.ensures, c.self.invariant.counted, c.self.invariant.chain.few, c.min.ensures, most, ap length c.more.view_is) in
    let joined : c.append.new.self ≡ rows ++ more = c.append.ensures ∙ ap (λ l. rows ++ l) c.replace.ensures.value in
    let count : c.set.new.self ≡ c.self.inside.len + length more =
    omega (arith, c.set.ensures, c.get-len.ensures, c.get-made.ensures, c.more.invariant.counted) in
    rw (joined, count) (IsCounted-append rows more c.self.inside.len c.self.invariant c.more.invariant.chain few)

pub overflow_sub-len : goal.overflow_sub-len
overflow_sub-len g c = omega (arith, c.get-len.ensures, c.self.invariant.counted, c.self.invariant.chain.few)

pub overflow_add-len : goal.overflow_add-len
overflow_add-len g c =
    let len = c.get-len.ensures ∙ c.self.invariant.counted in
    let made = c.get-made.ensures ∙ c.more.invariant.counted in
    record { fits = omega (arith, len, made, c.self.invariant.chain.few, c.more.invariant.chain.few) }

pub fact_room-requires : goal.fact_room-requires
fact_room-requires g c = omega (arith, ap length c.more.view_is, c.if-made-gt0.true, c.get-made.ensures, c.more.invariant.counted)

pub append-requires-clause-counted : goal.append-requires-clause-counted
append-requires-clause-counted g c = c.get-len.ensures ∙ c.self.invariant.counted

pub append-requires-clause-few : goal.append-requires-clause-few
append-requires-clause-few g c =
    let len = c.get-len.ensures ∙ c.self.invariant.counted in
    let made = c.get-made.ensures ∙ c.more.invariant.counted in
    let most = c.free_blocks-more.ensures.most in
    omega (arith, len, made, most, ap length c.more.view_is, c.min.ensures, c.if-made-gt0.true, c.self.invariant.chain.few)
