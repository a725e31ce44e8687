-- How a line is read: its verb determines its form, and the parts after the verb follow.
use Rattle.std.specs.Prelude.{ℕ, ◌≡◌, List, ◌++◌, codes}
use Rattle.bhtable.specs.Requests.{Asks, IsInRange, call_line, question_word, request_line}
use Rattle.bhtable.specs.Words.{Part}
use Rattle.bhtable.specs.declared.request.Form.{Form}
use Rattle.bhtable.specs.declared.request.Form.TheVariants.{Table, Epoch, Question as Questions, Call as Calls}
use Rattle.bhtable.specs.declared.request.Request.{Request}

-- the verb of a form
abbrev pub form_word : Form → List ℕ
form_word Table = codes "new"
form_word Epoch = codes "epoch"
form_word (Questions question) = question_word question
form_word (Calls model) = (call_line model).0

-- the parts begin with what follows the verb of a request, and then `rest` follows
abbrev pub Begins : List Part → Request → List Part → Type 0
Begins parts request rest = (parts ≡ (request_line request).1 ++ rest) × IsInRange request

-- these parts are no request
abbrev pub AsksNothing : List Part → Type 0
AsksNothing parts = (request : Request) → Asks parts request → ⊥
