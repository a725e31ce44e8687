use Rattle.std.proofs.Common.{◌≡◌, ℕ, List, map, Some, refl, rules}
use Rattle.bhtable.specs.Meanings.{meaning}
use Rattle.bhtable.specs.Numbers.{is_number}
use Rattle.bhtable.specs.Requests.{kind_word}
use Rattle.bhtable.specs.Words.{part_of, text}
use Rattle.bhtable.specs.declared.request.TheConstants.{KINDS}
use Rattle.bhtable.specs.declared.request.Kind.{Kind}
use Rattle.bhtable.specs.declared.request.Kind.TheVariants.{Map, Index, Cache}
use Rattle.bhtable.proofs.Naming.{meant}
use Rattle.bhtable.proofs.request.kind_of.Goals as goal

abbrev rows : List (List ℕ × Kind)
rows = map (λ row. (row.0.now, row.1)) KINDS

known : (value : Kind) → meaning rows (kind_word value) ≡ Some value
known Map = refl
known Index = refl
known Cache = refl

plain : (value : Kind) → part_of (kind_word value) ≡ text (kind_word value)
unfolding part_of is_number
plain Map = refl
plain Index = refl
plain Cache = refl

pub returns : goal.returns
returns c = rw c.meaning_of.ensures (meant kind_word rows c.args.word.now (search rules) known plain)
