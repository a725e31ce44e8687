use Rattle.test_layers.proofs.TakingKeys.{kept_twice}
use Rattle.test_layers.proofs.walks.fn.strip.takes.Goals as goal

pub returns : goal.returns
returns c = λ alive.
    let first = c.take_key-first.ensures alive in
    kept_twice c.args.bucket.now c.take_key-first.new.bucket c.take_key-second.new.bucket first (c.take_key-second.ensures first.alive)
