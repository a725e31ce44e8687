-- Lines of a verb, one blank and numbers only.
use Rattle.std.proofs.Common.{◌≡◌, ℕ, List, [], ◌∷◌, ◌++◌, true, drop, eqb, length, take, take-append-drop, refl, sym, ap, ◌∙◌}
use lib.Pointwise.{bytes_decides, pointwise}
use Rattle.bhtable.specs.Numbers.{is_number}
use Rattle.bhtable.specs.Requests.{Asks, call_line}
use Rattle.bhtable.specs.Words.{Part, part_of, parts_of, text}
use Rattle.bhtable.specs.declared.request.Request.TheVariants.{Call as RequestCall}
use Rattle.bucket_table.specs.declared.script.call.Call.{Call}
use Rattle.bucket_table.specs.declared.script.call.Call.TheVariants.{Put}

-- a verb, and the blank after it
abbrev before_operands : Call ℕ ℕ → List ℕ
before_operands call = (call_line call).0 ++ 32 ∷ []

-- a verb ends at its blank; the last line is checked call by call
verb_ends : (call : Call ℕ ℕ) (rest : List ℕ)
    → parts_of (before_operands call ++ rest) ≡ text (call_line call).0 ∷ parts_of rest
unfolding part_of is_number
verb_ends (Put key value) rest = refl
verb_ends call rest = refl

-- what follows a verb and its blank are the operands of its call
pub asked_plainly : (call : Call ℕ ℕ) (line rest : List ℕ)
    → pointwise eqb (take (length (before_operands call)) line) (before_operands call) ≡ true
    → rest ≡ drop (length (before_operands call)) line → parts_of rest ≡ (call_line call).1 → Asks (parts_of line) (RequestCall call)
asked_plainly call line rest front behind operands =
    let len = length (before_operands call) in
    let whole : line ≡ before_operands call ++ rest =
    sym (take-append-drop len line)
    ∙ ap (λ (l : List ℕ). l ++ drop len line) ((bytes_decides (take len line) (before_operands call)).0 front)
    ∙ ap (λ (l : List ℕ). before_operands call ++ l) (sym behind) in
    (ap parts_of whole ∙ verb_ends call rest ∙ ap (λ (parts : List Part). text (call_line call).0 ∷ parts) operands, tt)
