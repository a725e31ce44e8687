use Rattle.std.proofs.Common.{◌≡◌, []}
use Rattle.bhtable.proofs.Parts.{number_next}
use Rattle.bhtable.proofs.lines.words.Words.number.Goals as goal

pub returns-in_err-next_word : goal.returns-in_err-next_word
returns-in_err-next_word c =
    let none : c.args.self.now ≡ [] = c.in_err-next_word.ensures in
    rw c.from_residual.ensures (λ value rest same. absurd (cc))

pub returns : goal.returns
returns c = number_next _ _ _ c.number_of.result c.in_ok-next_word.ensures c.number_of.ensures.accepted c.number_of.ensures.value
