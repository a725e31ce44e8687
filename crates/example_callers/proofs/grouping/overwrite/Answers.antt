use Rattle.std.proofs.Common.{Some, arith, ap, cond, nat_eq, true, sym, ◌≡◌, ◌∙◌}
use Rattle.std.proofs.lemmas.Bool.Decides.{nat_tests}
use Rattle.collections.specs.Maps.{get}
use Rattle.example_callers.proofs.grouping.overwrite.Goals as goal

pub returns-in-Occupied-clause-written : goal.returns-in-Occupied-clause-written
returns-in-Occupied-clause-written c = λ there.
    let place = c.in-Occupied.place in
    let same : nat_eq place.key c.args.key ≡ true = rw c.in-Occupied.ensures.key (grind (arith, nat_tests)) in
    let holds = c.get_mut.ensures.written c.args.value in
    rw (c.map-1.given.1 (sym c.in-Occupied.ensures.same_map))
    (holds.1.updates c.args.key ∙ ap (λ b. cond b (Some c.args.value) (get nat_eq place.map.now c.args.key)) same)
