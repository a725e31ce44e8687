-- What is answered after a bad line is reported, and how it is written out.
use Rattle.std.proofs.Common.{◌≡◌, ℕ, List, [], ◌∷◌, ◌++◌, Option, Result, Ok, Err, refl, sym, append-nil}
use Rattle.std.specs.Result.{result_and}
use Rattle.bhtable.specs.Growing.{HasGrown}
use Rattle.bhtable.specs.Layout.Replies.{IsPushed, IsTold}
use Rattle.bhtable.specs.Layout.Sessions.{HasRepliedSome}
use Rattle.bhtable.specs.Texts.{bad_line}
use Rattle.bhtable.specs.declared.stop.Stop.{Stop}
use Rattle.bhtable.specs.declared.stop.Stop.TheVariants.{BadLine, NoMemory, InputFailed, OutputFailed}
use Rattle.bhtable.proofs.Ending.{HasRepliedBad, IsReplied}
use Rattle.bhtable.proofs.Growing.{grown_same}
use Rattle.bhtable.proofs.Replying.{replied_same}

-- the number of the bad line was appended after the answers of those before it
pub record HasToldBad (start output : Option (List ℕ)) (waiting : List ℕ) (lines : List (List ℕ)) (number : ℕ) : Type 0 where
  pub before : Option (List ℕ)
  pub between : List ℕ
  pub bad : HasRepliedBad start before between lines number
  pub told : HasGrown before between output waiting (bad_line number)

-- what is answered after a bad line is reported
abbrev pub IsReady : Result (Unit {0}) Stop → Option (List ℕ) → Option (List ℕ) → List ℕ → List (List ℕ) → Type 0
IsReady (Err (BadLine number)) start output waiting lines = HasToldBad start output waiting lines number
IsReady ended start output waiting lines = IsReplied ended start output waiting lines

-- the text with the answers grows, and no line is added
some_grown : (start output output2 : Option (List ℕ)) (waiting waiting2 : List ℕ) (lines : List (List ℕ))
    → HasRepliedSome start output waiting lines → HasGrown output waiting output2 waiting2 []
    → HasRepliedSome start output2 waiting2 lines
some_grown start output output2 waiting waiting2 lines some grown = record {
  first = some.first;
  others = some.others;
  table = some.table;
  in_order = some.in_order;
  replied = replied_same start output output2 waiting waiting2 some.first some.table some.replied grown;
}

-- a bad line isn't reported if there is no memory for that, or the writer failed
untold : (start output output2 : Option (List ℕ)) (waiting left : List ℕ) (lines : List (List ℕ)) (number : ℕ)
    → HasRepliedBad start output waiting lines number → HasGrown output waiting output2 left []
    → HasRepliedSome start output2 left lines
untold start output output2 waiting left lines number bad grown = record {
  first = bad.first;
  others = bad.line ∷ bad.others;
  table = bad.table;
  in_order = bad.in_order;
  replied = replied_same start output output2 waiting left bad.first bad.table bad.replied grown;
}

bad_ready : (result : Result (Unit {0}) Stop) (number : ℕ) (start output output2 : Option (List ℕ)) (waiting waiting2 : List ℕ)
    (lines : List (List ℕ)) → HasRepliedBad start output waiting lines number
    → IsPushed result output waiting output2 waiting2 (bad_line number)
    → IsReady (result_and {U = Unit {0}} result (Err (BadLine number))) start output2 waiting2 lines
bad_ready (Ok done) number start output output2 waiting waiting2 lines bad told =
    record { before = output; between = waiting; bad = bad; told = told }
bad_ready (Err (BadLine other)) number start output output2 waiting waiting2 lines bad never = absurd never
bad_ready (Err NoMemory) number start output output2 waiting waiting2 lines bad kept =
    untold start output output2 waiting waiting2 lines number bad kept
bad_ready (Err InputFailed) number start output output2 waiting waiting2 lines bad never = absurd never
bad_ready (Err OutputFailed) number start output output2 waiting waiting2 lines bad (empty, (lost, kept)) =
    (empty, (lost, untold start output output2 waiting lost lines number bad kept))

pub ready : (stop : Stop) (result : Result (Unit {0}) Stop) (start output output2 : Option (List ℕ)) (waiting waiting2 : List ℕ)
    (lines : List (List ℕ)) → IsReplied (Err stop) start output waiting lines → IsTold stop result output waiting output2 waiting2
    → IsReady (result_and {U = Unit {0}} result (Err stop)) start output2 waiting2 lines
ready (BadLine number) result start output output2 waiting waiting2 lines replied told =
    bad_ready result number start output output2 waiting waiting2 lines replied told
ready NoMemory result start output output2 waiting waiting2 lines replied (done, same, kept) = rw (done, same, kept) replied
ready InputFailed result start output output2 waiting waiting2 lines replied (done, same, kept) = rw (done, same, kept) replied
ready OutputFailed result start output output2 waiting waiting2 lines replied (done, same, kept) = rw (done, same, kept) replied

nothing_split : (front back : List ℕ) → [] ≡ front ++ back → (front ≡ []) × (back ≡ [])
nothing_split [] back split = (refl, sym split)
nothing_split (byte ∷ front) back split = absurd (cc)

-- if nothing waits, nothing is written
nothing_written : (output output2 : Option (List ℕ)) (waiting left lost : List ℕ) → waiting ≡ []
    → HasGrown output waiting output2 left [] → (left ≡ []) × HasGrown output lost output2 lost []
nothing_written output output2 waiting left lost empty grown =
    let none = nothing_split grown.taken left (rw empty at grown.in_order) in
    (none.1, record { taken = []; written = rw none.0 at grown.written; in_order = append-nil lost })

-- the waiting text is written, as far as the writer accepts it
pub ready_grown : (ended : Result (Unit {0}) Stop) (start output output2 : Option (List ℕ)) (waiting left : List ℕ)
    (lines : List (List ℕ)) → IsReady ended start output waiting lines → HasGrown output waiting output2 left []
    → IsReady ended start output2 left lines
ready_grown (Ok done) start output output2 waiting left lines (table, replied) grown =
    (table, replied_same start output output2 waiting left lines table replied grown)
ready_grown (Err (BadLine number)) start output output2 waiting left lines told grown = record {
  before = told.before;
  between = told.between;
  bad = told.bad;
  told = grown_same told.before output output2 told.between waiting left (bad_line number) told.told grown;
}
ready_grown (Err NoMemory) start output output2 waiting left lines some grown =
    some_grown start output output2 waiting left lines some grown
ready_grown (Err InputFailed) start output output2 waiting left lines some grown =
    some_grown start output output2 waiting left lines some grown
ready_grown (Err OutputFailed) start output output2 waiting left lines (empty, (lost, some)) grown =
    let nothing = nothing_written output output2 waiting left lost empty grown in
    (nothing.0, (lost, some_grown start output output2 lost lost lines some nothing.1))
