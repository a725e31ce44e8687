use Rattle.std.proofs.Common.{[]}
use Rattle.bhtable.proofs.Growing.{front_taken, grown_kept}
use Rattle.bhtable.proofs.output.write_whole.Goals as goal
use Rattle.bhtable.proofs.output.write_whole.Goals.{in-Ok, in-Err}

pub loop-preserved : goal.loop-preserved
loop-preserved g c = elim c.match-write.branch [
  | in-Ok w ↦ rw w.rest-is (front_taken _ _ _ c.loop.rest.now c.args.text.now w.in-Ok.count c.loop.invariant w.in-Ok.ensures.bytes)
  | in-Err w ↦ rw w.rest-is (grown_kept _ _ _ [] c.loop.rest.now c.args.text.now c.loop.invariant w.in-Err.ensures.bytes)
]
