use Rattle.bucket_table.proofs.Words.{List, Option, ap, landing_of, ℕ, ◌∙◌}
use Rattle.bucket_table.specs.declared.arrays.relocate.Landing.{Landing}
use Rattle.bucket_table.proofs.Moves.Landings.{landed_all, none_said}
use Rattle.bucket_table.proofs.Moves.MovingInOrder.{in_order_last}
use Rattle.bucket_table.proofs.Moves.MovingPairs.{moving_again, moving_done, moving_first, moving_step}
use Rattle.bucket_table.proofs.arrays.relocate.move_pairs.Goals as goal

pub own-init : goal.own-init
own-init g c =
    let unsaid = λ (slot : ℕ). ap (λ (those : List (Option Landing)). landing_of those slot) c.requires.unsaid ∙ none_said _ slot in
    rw c.null-at.ensures (moving_first (g.H.KeyHash.hash_of c.args.hasher.now) c.requires.ready unsaid)

pub own-smaller : goal.own-smaller
own-smaller g c =
    let next = c.find_next_here.ensures.ahead c.own-test.true in
    rw c.null-at-in-own.ensures (moving_again (g.H.KeyHash.hash_of c.args.hasher.now) c.own.invariant next c.move_pair.ensures.moved).1

pub own-preserved : goal.own-preserved
own-preserved g c =
    let next = c.find_next_here.ensures.ahead c.own-test.true in
    rw c.null-at-in-own.ensures (moving_again (g.H.KeyHash.hash_of c.args.hasher.now) c.own.invariant next c.move_pair.ensures.moved).0

pub pairs-init : goal.pairs-init
pairs-init g c = rw (c.find_next_here.ensures.stays c.own-test.false) c.own.invariant

pub pairs-smaller : goal.pairs-smaller
pairs-smaller g c =
    let next = c.find_next.ensures.ahead c.pairs-test.true in
    rw c.move_pair-in-pairs.ensures.pointer
    (moving_step (g.H.KeyHash.hash_of c.args.hasher.now) c.pairs.invariant next c.move_pair-in-pairs.ensures.moved).1

pub pairs-preserved : goal.pairs-preserved
pairs-preserved g c =
    let next = c.find_next.ensures.ahead c.pairs-test.true in
    rw c.move_pair-in-pairs.ensures.pointer
    (moving_step (g.H.KeyHash.hash_of c.args.hasher.now) c.pairs.invariant next c.move_pair-in-pairs.ensures.moved).0

pub returns-clause-emptied : goal.returns-clause-emptied
returns-clause-emptied g c =
    moving_done (g.H.KeyHash.hash_of c.args.hasher.now) c.pairs.invariant (c.find_next.ensures.end c.pairs-test.false).ahead

pub returns-clause-landed : goal.returns-clause-landed
returns-clause-landed g c =
    let hash = g.H.KeyHash.hash_of c.args.hasher.now in
    let emptied = moving_done hash c.pairs.invariant (c.find_next.ensures.end c.pairs-test.false).ahead in
    landed_all hash _ _ _ _ _ c.pairs.invariant.landing emptied

pub returns-clause-in_order : goal.returns-clause-in_order
returns-clause-in_order g c first before =
    let hash = g.H.KeyHash.hash_of c.args.hasher.now in
    let emptied = moving_done hash c.pairs.invariant (c.find_next.ensures.end c.pairs-test.false).ahead in
    in_order_last first c.pairs.source c.pairs.current (c.pairs.invariant.order first before) emptied
