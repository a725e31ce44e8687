use Rattle.test_layers.proofs.TakingKeys.{kept_without}
use Rattle.test_layers.proofs.walks.take_key.Goals as goal

pub returns : goal.returns
returns c = λ alive. kept_without c.args.bucket.now _ _ _ c.remove.ensures.pair c.remove.ensures.slots alive
