use Rattle.std.proofs.Common.{◌≡◌, ℕ, List, map, Some, refl, rules}
use Rattle.bhtable.specs.Meanings.{meaning}
use Rattle.bhtable.specs.Numbers.{is_number}
use Rattle.bhtable.specs.Requests.{hash_word}
use Rattle.bhtable.specs.Words.{part_of, text}
use Rattle.bhtable.specs.declared.request.TheConstants.{HASHES}
use Rattle.bucket_table.specs.declared.script.hashes.ScriptHash.{ScriptHash}
use Rattle.bucket_table.specs.declared.script.hashes.ScriptHash.TheVariants.{Zero, Id, Spread}
use Rattle.bhtable.proofs.Naming.{meant}
use Rattle.bhtable.proofs.request.hash_of.Goals as goal

abbrev rows : List (List ℕ × ScriptHash)
rows = map (λ row. (row.0.now, row.1)) HASHES

known : (value : ScriptHash) → meaning rows (hash_word value) ≡ Some value
known Zero = refl
known Id = refl
known Spread = refl

plain : (value : ScriptHash) → part_of (hash_word value) ≡ text (hash_word value)
unfolding part_of is_number
plain Zero = refl
plain Id = refl
plain Spread = refl

pub returns : goal.returns
returns c = rw c.meaning_of.ensures (meant hash_word rows c.args.word.now (search rules) known plain)
