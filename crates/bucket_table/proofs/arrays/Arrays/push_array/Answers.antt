use Rattle.std.proofs.Common.{ap, arith, length, sym, ◌∙◌}
use Rattle.bucket_table.specs.Views.ArraysView.{list_of}
use Rattle.bucket_table.proofs.Views.Laws.{fresh_fits, none_open}
use Rattle.bucket_table.proofs.Views.Lent.{pushed_seen, some_held}
use Rattle.bucket_table.proofs.arrays.Arrays.push_array.Goals as goal

pub unwrap-array-requires : goal.unwrap-array-requires
unwrap-array-requires g c =
    rw c.take.ensures.value (some_held c.self.inside.current (rw (← c.self.view_is) at c.requires.stands))

pub invariant_of-self : goal.invariant_of-self
invariant_of-self g c =
    let maximum = ap (λ a. a.maximum) c.self.view_is in
    let stood = ap (λ o. length (list_of o)) (sym c.take.ensures.value ∙ c.unwrap-array.ensures) in
    let current = ap (λ a. length a.current) c.self.view_is in
    let tickets = ap (λ t. t.len) c.in-Ok.ensures in
    rw (c.adopt_digests.ensures.own, c.adopt_digests.ensures.other, c.array_mut.ensures.array, c.in-Ok-new.ensures.made)
    (fresh_fits c.args.capacity _ _ _ _ c.in_ok-fresh.fresh _ _ _ c.self.invariant (omega (arith, maximum, c.requires.capacity))
    c.in_ok-fresh.ensures c.fact_room.ensures.length
    (omega (arith, tickets, stood, current, c.len.ensures.value)))

pub returns-in-Ok-new-clause-pushed : goal.returns-in-Ok-new-clause-pushed
returns-in-Ok-new-clause-pushed g c =
    rw (c.adopt_digests.ensures.own, c.adopt_digests.ensures.other, c.array_mut.ensures.array, c.in-Ok-new.ensures.made) (record {
      alone = c.requires.alone;
      none_open = none_open c.args.self.now.tickets c.fact_tickets.ensures (c.fact_sound.ensures.tickets_len ∙
          c.requires.alone);
      fresh = c.in_ok-fresh.fresh;
      fresh_is = c.in_ok-fresh.ensures;
      new_is = pushed_seen _ _ _ c.self.inside.current _ c.args.self.now c.in_ok-fresh.fresh c.unwrap-array.result c.in-Ok.tickets
          c.len.result (sym c.unwrap-array.ensures ∙ c.take.ensures.value) c.in-Ok.ensures c.len.ensures.value c.self.view_is;
    })
