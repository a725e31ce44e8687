-- A line's verb determines its form, and so how many parts follow it.
use Rattle.std.proofs.Common.{◌≡◌, ℕ, List, [], ◌∷◌, length, map, Option, Some, None, MatchOption, refl, sym, ap, ◌∙◌, subst, arith}
use Rattle.std.proofs.Common.{append-nil, length-append, rules}
use Rattle.bhtable.specs.Layout.Forms.{AsksNothing, Begins, form_word}
use Rattle.bhtable.specs.Meanings.{meaning}
use Rattle.bhtable.specs.Numbers.{is_number}
use Rattle.bhtable.specs.Requests.{Asks, call_line, request_line}
use Rattle.bhtable.specs.Words.{Part, part_of, text}
use Rattle.bhtable.specs.declared.request.Form.{Form}
use Rattle.bhtable.specs.declared.request.Form.TheVariants.{Table, Epoch, Question as Questions, Call as Calls}
use Rattle.bhtable.specs.declared.request.Question.TheVariants.{Slots, Word}
use Rattle.bhtable.specs.declared.request.Request.{Request}
use Rattle.bhtable.specs.declared.request.Request.TheVariants.{New as RequestNew, Call as RequestCall, Question as RequestQuestion}
use Rattle.bhtable.specs.declared.request.Request.TheVariants.{Epoch as RequestEpoch}
use Rattle.bhtable.specs.declared.request.TheConstants.{FORMS}
use Rattle.bucket_table.specs.declared.script.call.Call.TheVariants.{Put}
use Rattle.bhtable.proofs.Naming.{AreNamed, named_by_meaning}
use Rattle.bhtable.proofs.Parts.{word_written}

-- the rows that a verb is looked up in
abbrev pub forms : List (List ℕ × Form)
forms = map (λ row. (row.0.now, row.1)) FORMS

forms_named : AreNamed form_word forms
forms_named = search rules

-- the request has the form, with as many parts as the form requires
abbrev IsOfForm : Form → Request → Type 0
IsOfForm Table (RequestNew table) = Unit {0}
IsOfForm Epoch (RequestEpoch generation) = Unit {0}
IsOfForm (Questions asked) (RequestQuestion question) = Unit {0}
IsOfForm (Calls model) (RequestCall call) = length (call_line call).1 ≡ length (call_line model).1
IsOfForm form request = ⊥

-- the form that is found by this verb is that of the request
abbrev IsFormAt : List ℕ → Request → Type 0
IsFormAt verb request = MatchOption (meaning forms verb) ⊥ (λ form. IsOfForm form request)

-- a request's verb finds its form; the last line is checked call by call
form_of : (request : Request) → IsFormAt (request_line request).0 request
form_of (RequestNew table) = tt
form_of (RequestEpoch generation) = tt
form_of (RequestQuestion Slots) = tt
form_of (RequestQuestion Word) = tt
form_of (RequestCall (Put key value)) = refl
form_of (RequestCall call) = refl

-- no verb is a number
verb_is_word : (request : Request) → part_of (request_line request).0 ≡ text (request_line request).0
unfolding part_of is_number
verb_is_word (RequestNew table) = refl
verb_is_word (RequestEpoch generation) = refl
verb_is_word (RequestQuestion Slots) = refl
verb_is_word (RequestQuestion Word) = refl
verb_is_word (RequestCall (Put key value)) = refl
verb_is_word (RequestCall call) = refl

-- how many parts follow the verb of a form
part_len : Form → ℕ
part_len Table = 4
part_len Epoch = 2
part_len (Questions asked) = 0
part_len (Calls model) = length (call_line model).1

length-form : (form : Form) (request : Request) → IsOfForm form request → length (request_line request).1 ≡ part_len form
unfolding part_len
length-form Table (RequestNew table) of_form = refl
length-form Epoch (RequestEpoch generation) of_form = refl
length-form (Questions asked) (RequestQuestion question) of_form = refl
length-form (Calls model) (RequestCall call) of_form = of_form
length-form form request of_form = absurd of_form

same_length_at : (found : Option Form) (request request2 : Request) → MatchOption found ⊥ (λ form. IsOfForm form request)
    → MatchOption found ⊥ (λ form. IsOfForm form request2) → length (request_line request).1 ≡ length (request_line request2).1
same_length_at None request request2 one two = absurd one
same_length_at (Some form) request request2 one two = length-form form request one ∙ sym (length-form form request2 two)

-- requests with the same verb have as many parts
pub same_length : (request request2 : Request) → (request_line request).0 ≡ (request_line request2).0
    → length (request_line request).1 ≡ length (request_line request2).1
same_length request request2 same = same_length_at (meaning forms (request_line request).0) request request2 (form_of request)
    (subst (λ (verb : List ℕ). IsFormAt verb request2) (sym same) (form_of request2))

verb_of_form : (bytes : List ℕ) (form : Form) → meaning forms bytes ≡ Some form → bytes ≡ form_word form
verb_of_form bytes form found = rw found at (named_by_meaning form_word forms bytes forms_named)

-- the first word of a line is the verb of its request
starts_with_verb : (bytes : List ℕ) (parts : List Part) (request : Request) → Asks (part_of bytes ∷ parts) request
    → bytes ≡ (request_line request).0
starts_with_verb bytes parts request (same, in_range) = word_written bytes (request_line request).0 (cc)

pub asked_all : (bytes : List ℕ) (parts : List Part) (form : Form) (request : Request) → meaning forms bytes ≡ Some form
    → (request_line request).0 ≡ form_word form → Begins parts request [] → Asks (part_of bytes ∷ parts) request
asked_all bytes parts form request found verb begins =
    let verb_is : bytes ≡ (request_line request).0 = verb_of_form bytes form found ∙ sym verb in
    let first : part_of bytes ≡ text (request_line request).0 = ap part_of verb_is ∙ verb_is_word request in
    let others : parts ≡ (request_line request).1 = begins.0 ∙ append-nil (request_line request).1 in
    (cc, begins.1)

pub unknown_verb : (bytes : List ℕ) (parts : List Part) → meaning forms bytes ≡ None → AsksNothing (part_of bytes ∷ parts)
unknown_verb bytes parts none request asked =
    let at : IsFormAt bytes request =
    subst (λ (verb : List ℕ). IsFormAt verb request) (sym (starts_with_verb bytes parts request asked)) (form_of request) in
    rw none at at

pub refused_parts : (bytes : List ℕ) (parts : List Part) (form : Form) → meaning forms bytes ≡ Some form
    → ((request : Request) (rest : List Part) → (request_line request).0 ≡ form_word form → Begins parts request rest → ⊥)
    → AsksNothing (part_of bytes ∷ parts)
refused_parts bytes parts form found refused request (same, in_range) =
    let verb = starts_with_verb bytes parts request (same, in_range) in
    let others : parts ≡ (request_line request).1 = cc in
    refused request [] (sym verb ∙ verb_of_form bytes form found) (others ∙ sym (append-nil (request_line request).1), in_range)

pub parts_left : (bytes : List ℕ) (parts left rest : List Part) (part : Part) (form : Form) (request : Request)
    → meaning forms bytes ≡ Some form → (request_line request).0 ≡ form_word form → Begins parts request left → left ≡ part ∷ rest
    → AsksNothing (part_of bytes ∷ parts)
parts_left bytes parts left rest part form request found verb begins more request2 (same, in_range) =
    let verb2 = starts_with_verb bytes parts request2 (same, in_range) in
    let as_many = same_length request request2 (verb ∙ sym (verb_of_form bytes form found) ∙ verb2) in
    let others : parts ≡ (request_line request2).1 = cc in
    omega (arith, as_many, ap length others, ap length begins.0, ap length more, length-append (request_line request).1 left)
