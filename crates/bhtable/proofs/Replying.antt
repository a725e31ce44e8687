-- What is replied, as its text moves from the waiting replies into the output.
use Rattle.std.proofs.Common.{◌≡◌, ℕ, ◌≤◌, true, List, [], ◌∷◌, ◌++◌, Option, None, OnErr, Result, Ok, Err, is_err, length, take, refl}
use Rattle.std.proofs.Common.{sym, ap, ◌∙◌, subst, append_assoc, append-nil}
use Rattle.std.specs.Io.{StartsWith}
use Rattle.std.specs.Io.KnownBytes.{Appends}
use Rattle.bhtable.specs.Answers.{AreAnswers, IsAnswer, ScriptTable}
use Rattle.bhtable.specs.Outputs.{HasAnswered}
use Rattle.bhtable.specs.Growing.{HasGrown}
use Rattle.bhtable.specs.Layout.Sessions.{HasReplied, HasRepliedSome}
use Rattle.bhtable.proofs.Answering.{answers_append}
use Rattle.bhtable.proofs.Growing.{grown_more, grown_out, grown_same}

-- a text that could not grow is cut back
pub cut_back : {E : Type 0} (output output2 : Option (List ℕ)) (waiting between grown cut : List ℕ) (len : ℕ) (result : Result (Unit {0}) E)
    → HasGrown output waiting output2 between [] → true ≡ is_err result → OnErr result (StartsWith grown between)
    → len ≡ length between → cut ≡ take len grown
    → HasGrown output waiting output2 cut []
cut_back output output2 waiting between grown cut len (Ok done) made failed starts len_is cut_is = absurd (cc)
cut_back output output2 waiting between grown cut len (Err error) made failed starts len_is cut_is =
    let same : cut ≡ between = cut_is ∙ ap (λ (n : ℕ). take n grown) len_is ∙ starts in
    subst (λ (text : List ℕ). HasGrown output waiting output2 text []) (sym same) made

-- more lines, whose answers are appended
pub replied_more : (start output output2 : Option (List ℕ)) (waiting waiting2 text : List ℕ) (lines more : List (List ℕ))
    (table table2 : Option ScriptTable)
    → HasReplied start output waiting lines table → AreAnswers table more text table2 → HasGrown output waiting output2 waiting2 text
    → HasReplied start output2 waiting2 (lines ++ more) table2
replied_more start output output2 waiting waiting2 text lines more table table2 replied answers grown = record {
  text = replied.text ++ text;
  answers = answers_append lines more None table table2 replied.text text replied.answers answers;
  written = grown_more start output output2 [] waiting waiting2 replied.text text replied.written grown;
}

-- the same lines, if nothing is appended
pub replied_same : (start output output2 : Option (List ℕ)) (waiting waiting2 : List ℕ) (lines : List (List ℕ)) (table : Option ScriptTable)
    → HasReplied start output waiting lines table → HasGrown output waiting output2 waiting2 []
    → HasReplied start output2 waiting2 lines table
replied_same start output output2 waiting waiting2 lines table replied kept = record {
  text = replied.text;
  answers = replied.answers;
  written = grown_same start output output2 [] waiting waiting2 replied.text replied.written kept;
}

-- one line more
pub replied_one : (start output output2 : Option (List ℕ)) (waiting waiting2 : List ℕ) (lines : List (List ℕ)) (line : List ℕ)
    (text : List ℕ) (table after : Option ScriptTable) → HasReplied start output waiting lines table → length line ≤ 4096
    → IsAnswer table line text after → HasGrown output waiting output2 waiting2 text
    → HasReplied start output2 waiting2 (lines ++ line ∷ []) after
replied_one start output output2 waiting waiting2 lines line text table after replied short answer grown =
    let answers : AreAnswers table (line ∷ []) text after =
    (short, (text, [], after, answer, (refl, refl), sym (append-nil _))) in
    replied_more start output output2 waiting waiting2 _ lines (line ∷ []) table _ replied answers grown

-- the first of the lines are the first of more
pub some_of_more : (start output : Option (List ℕ)) (waiting : List ℕ) (lines first others : List (List ℕ)) → lines ≡ first ++ others
    → HasRepliedSome start output waiting first → HasRepliedSome start output waiting lines
some_of_more start output waiting lines first others parts some = record {
  first = some.first;
  others = some.others ++ others;
  table = some.table;
  in_order = parts ∙ ap (λ (ls : List (List ℕ)). ls ++ others) some.in_order ∙ append_assoc some.first some.others others;
  replied = some.replied;
}

-- nothing waits any more
pub answered_out : (start output : Option (List ℕ)) (lines : List (List ℕ)) (table : Option ScriptTable)
    → HasReplied start output [] lines table → HasAnswered lines start output []
answered_out start output lines table replied = record {
  text = replied.text;
  table = table;
  answers = replied.answers;
  written = subst (λ (text : List ℕ). Appends start output text) (sym (append-nil replied.text))
      (grown_out start output replied.text replied.written);
}
