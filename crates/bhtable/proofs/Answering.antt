-- The answers of lines, one after another, and those that a run of calls gives.
use Rattle.std.proofs.Common.{◌≡◌, ℕ, ◌≤◌, inl, inr, List, [], ◌∷◌, ◌++◌, Option, Some, length, refl, ap, ◌∙◌, subst, append_assoc}
use Rattle.bucket_table.specs.declared.script.call.Call.{Call}
use Rattle.bucket_table.specs.declared.script.reply.Reply.{Reply}
use Rattle.bhtable.specs.Answers.{AreAnswers, IsAnswer, ScriptStep, ScriptTable}
use Rattle.bhtable.specs.Requests.{Asks}
use Rattle.bhtable.specs.Layout.Sessions.{AskForCalls, ScriptRun}
use Rattle.bhtable.specs.Layout.Replies.{lines_of_replies}
use Rattle.bhtable.specs.OutputLines.{line_of}
use Rattle.bhtable.specs.Texts.{text_of}
use Rattle.bhtable.specs.Words.{parts_of}
use Rattle.bhtable.specs.declared.request.Request.TheVariants.{Call as Calls}

pub answers_append : (first second : List (List ℕ)) (old between new : Option ScriptTable) (text more : List ℕ)
    → AreAnswers old first text between → AreAnswers between second more new
    → AreAnswers old (first ++ second) (text ++ more) new
answers_append [] second old between new text more answers later =
    rw answers.0 (subst (λ (table : Option ScriptTable). AreAnswers table second more new) answers.1 later)
answers_append (line ∷ first) second old between new text more (short, answers) later = (
  short,
  (
    answers.0,
    answers.1 ++ more,
    answers.2,
    answers.3,
    answers_append first second answers.2 between new answers.1 more answers.4 later,
    ap (λ (t : List ℕ). t ++ more) answers.5 ∙ append_assoc answers.0 answers.1 more,
  ),
)

-- one line more without words, or with a call
pub asked_nothing_more : (lines : List (List ℕ)) (calls : List (Call ℕ ℕ)) (line : List ℕ) → AskForCalls lines calls
    → length line ≤ 4096 → parts_of line ≡ [] → AskForCalls (lines ++ line ∷ []) calls
asked_nothing_more [] calls line asked short blank = (short, inl (blank, asked))
asked_nothing_more (first ∷ lines) calls line (fits, asked) short blank = (
  fits,
  elim asked [
    | inl none ↦ inl (none.0, asked_nothing_more lines calls line none.1 short blank)
    | inr one ↦ inr (one.0, one.1, one.2, one.3, asked_nothing_more lines one.1 line one.4 short blank)
  ],
)

pub asked_one_more : (lines : List (List ℕ)) (calls : List (Call ℕ ℕ)) (line : List ℕ) (call : Call ℕ ℕ)
    → AskForCalls lines calls → length line ≤ 4096 → Asks (parts_of line) (Calls call)
    → AskForCalls (lines ++ line ∷ []) (calls ++ call ∷ [])
asked_one_more [] calls line call asked short asks =
    (short, inr (call, [], asks, ap (λ (cs : List (Call ℕ ℕ)). cs ++ call ∷ []) asked, refl))
asked_one_more (first ∷ lines) calls line call (fits, asked) short asks = (
  fits,
  elim asked [
    | inl none ↦ inl (none.0, asked_one_more lines calls line call none.1 short asks)
    | inr one ↦ inr (
      one.0,
      one.1 ++ call ∷ [],
      one.2,
      ap (λ (cs : List (Call ℕ ℕ)). cs ++ call ∷ []) one.3,
      asked_one_more lines one.1 line call one.4 short asks,
    )
  ],
)

answered_call : (line : List ℕ) (call : Call ℕ ℕ) (reply : Reply ℕ ℕ) (before after : ScriptTable)
    → Asks (parts_of line) (Calls call) → ScriptStep before call reply after
    → IsAnswer (Some before) line (line_of (text_of reply)) (Some after)
answered_call line call reply before after asks step = inr (Calls call, reply, asks, step, refl)

-- without calls the lines have no words, and no answer
pub answered_nothing : (lines : List (List ℕ)) (table : Option ScriptTable) → AskForCalls lines []
    → AreAnswers table lines [] table
answered_nothing [] table asked = (refl, refl)
answered_nothing (line ∷ lines) table (short, asked) = elim asked [
  | inl none ↦ (short, ([], [], table, inl (none.0, refl, refl), answered_nothing lines table none.1, refl))
  | inr one ↦ let same : [] ≡ one.0 ∷ one.1 = one.3 in absurd (cc)
]

-- the first of the lines are answered by this text
pub record AreSomeAnswered (old : Option ScriptTable) (lines : List (List ℕ)) (text : List ℕ) : Type 0 where
  pub first : List (List ℕ)
  pub others : List (List ℕ)
  pub table : Option ScriptTable
  pub in_order : lines ≡ first ++ others
  pub answers : AreAnswers old first text table

-- the first replies of a run answer the first lines
pub answered_some : (lines : List (List ℕ)) (calls : List (Call ℕ ℕ)) (replies left : List (Reply ℕ ℕ))
    (before after : ScriptTable) → AskForCalls lines calls → ScriptRun before calls (replies ++ left) after
    → AreSomeAnswered (Some before) lines (lines_of_replies replies)
answered_some lines calls [] left before after asked ran =
    record { first = []; others = lines; table = Some before; in_order = refl; answers = (refl, refl) }
answered_some [] calls (reply ∷ replies) left before after asked ran =
    let none : ScriptRun before [] (reply ∷ replies ++ left) after =
    subst (λ (cs : List (Call ℕ ℕ)). ScriptRun before cs (reply ∷ replies ++ left) after) asked ran in
    absurd none
answered_some (line ∷ lines) calls (reply ∷ replies) left before after (short, asked) ran = elim asked [
  | inl none ↦
      let later = answered_some lines calls (reply ∷ replies) left before after none.1 ran in
      record {
        first = line ∷ later.first;
        others = later.others;
        table = later.table;
        in_order = ap (λ (ls : List (List ℕ)). line ∷ ls) later.in_order;
        answers = (short, ([], _, Some before, inl (none.0, refl, refl), later.answers, refl));
      }
  | inr one ↦
      let step : ScriptRun before (one.0 ∷ one.1) (reply ∷ replies ++ left) after =
      subst (λ (cs : List (Call ℕ ℕ)). ScriptRun before cs (reply ∷ replies ++ left) after) one.3 ran in
      let later = answered_some lines one.1 replies left step.0 after one.4 step.2 in
      record {
        first = line ∷ later.first;
        others = later.others;
        table = later.table;
        in_order = ap (λ (ls : List (List ℕ)). line ∷ ls) later.in_order;
        answers = (
          short,
          (
            line_of (text_of reply),
            _,
            Some step.0,
            answered_call line one.0 reply before step.0 one.2 step.1,
            later.answers,
            refl,
          ),
        );
      }
]

-- all replies of a run answer all lines
pub answered_all : (lines : List (List ℕ)) (calls : List (Call ℕ ℕ)) (replies : List (Reply ℕ ℕ)) (before after : ScriptTable)
    → AskForCalls lines calls → ScriptRun before calls replies after
    → AreAnswers (Some before) lines (lines_of_replies replies) (Some after)
answered_all [] [] [] before after asked ran = (refl, ap Some ran)
answered_all [] [] (reply ∷ replies) before after asked ran = absurd ran
answered_all [] (call ∷ calls) replies before after asked ran = absurd (cc)
answered_all (line ∷ lines) calls [] before after (short, asked) ran = elim asked [
  | inl none ↦ (short, ([], [], Some before, inl (none.0, refl, refl), answered_all lines calls [] before after none.1 ran, refl))
  | inr one ↦
      let none : ScriptRun before (one.0 ∷ one.1) [] after =
      subst (λ (cs : List (Call ℕ ℕ)). ScriptRun before cs [] after) one.3 ran in
      absurd none
]
answered_all (line ∷ lines) calls (reply ∷ replies) before after (short, asked) ran = elim asked [
  | inl none ↦ (
    short,
    (
      [],
      _,
      Some before,
      inl (none.0, refl, refl),
      answered_all lines calls (reply ∷ replies) before after none.1 ran,
      refl,
    ),
  )
  | inr one ↦
      let step : ScriptRun before (one.0 ∷ one.1) (reply ∷ replies) after =
      subst (λ (cs : List (Call ℕ ℕ)). ScriptRun before cs (reply ∷ replies) after) one.3 ran in (
        short,
        (
          line_of (text_of reply),
          _,
          Some step.0,
          answered_call line one.0 reply before step.0 one.2 step.1,
          answered_all lines one.1 replies step.0 after one.4 step.2,
          refl,
        ),
      )
]
