use Rattle.bhtable.proofs.LoneNumber.{lone_part}
use Rattle.bhtable.proofs.lines.words.lone_number.Goals as goal

pub returns : goal.returns
returns c = lone_part _ c.number_of.result c.number_of.ensures.accepted c.number_of.ensures.value
