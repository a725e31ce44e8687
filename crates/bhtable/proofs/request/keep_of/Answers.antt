use Rattle.std.proofs.Common.{◌≡◌, ℕ, Bool, true, false, List, map, Some, refl, rules}
use Rattle.bhtable.specs.Meanings.{meaning}
use Rattle.bhtable.specs.Numbers.{is_number}
use Rattle.bhtable.specs.Requests.{mark_word}
use Rattle.bhtable.specs.Words.{part_of, text}
use Rattle.bhtable.specs.declared.request.TheConstants.{MARKS}
use Rattle.bhtable.proofs.Naming.{meant}
use Rattle.bhtable.proofs.request.keep_of.Goals as goal

abbrev rows : List (List ℕ × Bool)
rows = map (λ row. (row.0.now, row.1)) MARKS

known : (value : Bool) → meaning rows (mark_word value) ≡ Some value
known true = refl
known false = refl

plain : (value : Bool) → part_of (mark_word value) ≡ text (mark_word value)
unfolding part_of is_number
plain true = refl
plain false = refl

pub returns : goal.returns
returns c = rw c.meaning_of.ensures (meant mark_word rows c.args.word.now (search rules) known plain)
