use Rattle.std.proofs.Common.{◌≡◌, ℕ, Bool, true, false, List, map, Some, refl, rules}
use Rattle.bhtable.specs.Meanings.{meaning}
use Rattle.bhtable.specs.Numbers.{is_number}
use Rattle.bhtable.specs.Requests.{end_word}
use Rattle.bhtable.specs.Words.{part_of, text}
use Rattle.bhtable.specs.declared.request.TheConstants.{ENDS}
use Rattle.bhtable.proofs.Naming.{meant}
use Rattle.bhtable.proofs.request.success_of.Goals as goal

abbrev rows : List (List ℕ × Bool)
rows = map (λ row. (row.0.now, row.1)) ENDS

known : (value : Bool) → meaning rows (end_word value) ≡ Some value
known true = refl
known false = refl

plain : (value : Bool) → part_of (end_word value) ≡ text (end_word value)
unfolding part_of is_number
plain true = refl
plain false = refl

pub returns : goal.returns
returns c = rw c.meaning_of.ensures (meant end_word rows c.args.word.now (search rules) known plain)
