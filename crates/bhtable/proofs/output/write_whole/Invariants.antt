use Rattle.std.proofs.Common.{[]}
use Rattle.bhtable.specs.Growing.{HasGrown}
use Rattle.bhtable.proofs.output.write_whole.Given as goal

abbrev pub invariant-loop : goal.invariant-loop
invariant-loop g l =
    HasGrown (g.W.Write.contents l.initial.output) [] (g.W.Write.contents l.output) l.rest l.text
