-- How a script ends: what is answered, and what is left in the output.
use Rattle.std.proofs.Common.{◌≡◌, ℕ, ◌+◌, ◌↔◌, inl, inr, List, [], ◌∷◌, ◌++◌, Option, IsSome, Result, Ok, Err, MatchResult, length, refl}
use Rattle.std.proofs.Common.{sym, append-nil}
use Rattle.std.specs.Result.{result_and}
use Rattle.bhtable.specs.Answers.{IsUnreadable, ScriptTable}
use Rattle.bhtable.specs.Layout.Sessions.{HasEnded, HasReplied, HasRepliedSome, HasStopped, HasTaken, HasTakenSome, table_at_hand}
use Rattle.bhtable.specs.Layout.Stops.{IsLack}
use Rattle.bhtable.specs.declared.session.Session.{Session}
use Rattle.bhtable.specs.declared.stop.Stop.{Stop}
use Rattle.bhtable.specs.declared.stop.Stop.TheVariants.{BadLine, NoMemory, InputFailed, OutputFailed}
use Rattle.bhtable.proofs.Replying.{some_of_more}
use Rattle.bhtable.proofs.Taking.{replied_all}
use Rattle.bhtable.proofs.Unreadable.{still_unreadable}

-- the lines before one that can't be read are answered
pub record HasRepliedBad (start output : Option (List ℕ)) (waiting : List ℕ) (lines : List (List ℕ)) (number : ℕ) : Type 0 where
  pub first : List (List ℕ)
  pub line : List ℕ
  pub others : List (List ℕ)
  pub table : Option ScriptTable
  pub in_order : lines ≡ first ++ line ∷ others
  pub numbered : number ≡ length first + 1
  pub replied : HasReplied start output waiting first table
  pub unreadable : IsUnreadable table line

-- what is answered of all lines of an input, if no call waits
abbrev pub IsReplied : Result (Unit {0}) Stop → Option (List ℕ) → Option (List ℕ) → List ℕ → List (List ℕ) → Type 0
IsReplied (Ok done) start output waiting lines =
    (table : Option ScriptTable) × HasReplied start output waiting lines table
IsReplied (Err (BadLine number)) start output waiting lines = HasRepliedBad start output waiting lines number
IsReplied (Err NoMemory) start output waiting lines = HasRepliedSome start output waiting lines
IsReplied (Err InputFailed) start output waiting lines = HasRepliedSome start output waiting lines
IsReplied (Err OutputFailed) start output waiting lines = (waiting ≡ []) × ((lost : List ℕ) × HasRepliedSome start output lost lines)

-- what `answer` ensures
pub record IsAnswered (result : Result (Unit {0}) Stop) (output output2 : Option (List ℕ)) (session session2 : Session) : Type 0 where
  pub answered : (start : Option (List ℕ)) (lines : List (List ℕ)) → HasTaken start output session lines
      → (session2.calls.items ≡ []) × MatchResult result
      (λ _. HasReplied start output2 session2.replies lines (table_at_hand session2.table))
      (λ stop. HasStopped stop start output2 session2 lines)
  pub none : session.calls.items ≡ [] → (result ≡ Ok tt) × (session2 ≡ session) × (output2 ≡ output)
  pub table : IsSome session2.table ↔ IsSome session.table
  pub stop : MatchResult result (λ _. Unit {0}) IsLack

err_is_not_ok : (result : Result (Unit {0}) Stop) (stop : Stop) → result ≡ Err stop → result ≡ Ok tt → ⊥
err_is_not_ok result stop failed done = absurd (cc)

some_kept : (start output : Option (List ℕ)) (session : Session) (lines : List (List ℕ)) → session.calls.items ≡ []
    → HasTakenSome start output session lines → HasRepliedSome start output session.replies lines
some_kept start output session lines none some = elim some.kept [
  | inl taken ↦ record {
    first = some.first;
    others = some.others;
    table = table_at_hand session.table;
    in_order = some.in_order;
    replied = replied_all start output session some.first taken none;
  }
  | inr replied ↦ record {
    first = some.first;
    others = some.others;
    table = replied.1.0;
    in_order = some.in_order;
    replied = replied.1.1;
  }
]

-- a stop on the way
stopped : (stop : Stop) (start output : Option (List ℕ)) (session : Session) (lines first others : List (List ℕ))
    → lines ≡ first ++ others → IsLack stop → session.calls.items ≡ [] → HasStopped stop start output session first
    → IsReplied (Err stop) start output session.replies lines
stopped (BadLine number) start output session lines first others parts lack none left = absurd lack
stopped NoMemory start output session lines first others parts lack none left =
    some_of_more start output session.replies lines first others parts (some_kept start output session first none left)
stopped InputFailed start output session lines first others parts lack none left = absurd lack
stopped OutputFailed start output session lines first others parts lack none left =
    (left.no_reply, (left.lost, some_of_more start output left.lost lines first others parts left.replied))

-- where the first of the lines are taken, or answered
some_answered : (result : Result (Unit {0}) Stop) (stop : Stop) (start output output2 : Option (List ℕ)) (session session2 : Session)
    (lines : List (List ℕ)) → IsAnswered result output output2 session session2 → HasTakenSome start output session lines
    → (HasRepliedSome start output2 session2.replies lines
    → IsReplied (Err stop) start output2 session2.replies lines)
    → IsReplied (result_and {U = Unit {0}} result (Err stop)) start output2 session2.replies lines
some_answered (Ok done) stop start output output2 session session2 lines step some made = made (elim some.kept [
  | inl taken ↦ record {
    first = some.first;
    others = some.others;
    table = table_at_hand session2.table;
    in_order = some.in_order;
    replied = (step.answered start some.first taken).1;
  }
  | inr replied ↦
      let same = step.none replied.0 in
      record {
        first = some.first;
        others = some.others;
        table = replied.1.0;
        in_order = some.in_order;
        replied = rw (same.1, same.2) replied.1.1;
      }
])
some_answered (Err lack) stop start output output2 session session2 lines step some made = elim some.kept [
  | inl taken ↦
      let left = step.answered start some.first taken in
      stopped lack start output2 session2 lines some.first some.others some.in_order step.stop left.0 left.1
  | inr replied ↦ absurd (err_is_not_ok (Err lack) lack refl (step.none replied.0).0)
]

-- the calls that waited are answered
pub ended_answered : (result ended : Result (Unit {0}) Stop) (start output output2 : Option (List ℕ)) (session session2 : Session)
    (lines : List (List ℕ))
    → IsAnswered result output output2 session session2 → HasEnded ended start output session lines
    → IsReplied (result_and result ended) start output2 session2.replies lines
ended_answered (Ok done) (Ok all) start output output2 session session2 lines step taken =
    (table_at_hand session2.table, (step.answered start lines taken).1)
ended_answered (Err stop) (Ok all) start output output2 session session2 lines step taken =
    let left = step.answered start lines taken in
    stopped stop start output2 session2 lines lines [] (sym (append-nil lines)) step.stop left.0 left.1
ended_answered (Ok done) (Err (BadLine number)) start output output2 session session2 lines step bad = record {
  first = bad.first;
  line = bad.line;
  others = bad.others;
  table = table_at_hand session2.table;
  in_order = bad.in_order;
  numbered = bad.numbered;
  replied = (step.answered start bad.first bad.taken).1;
  unreadable = still_unreadable session.table session2.table bad.line step.table bad.unreadable;
}
ended_answered (Err stop) (Err (BadLine number)) start output output2 session session2 lines step bad =
    let left = step.answered start bad.first bad.taken in
    stopped stop start output2 session2 lines bad.first (bad.line ∷ bad.others) bad.in_order step.stop left.0 left.1
ended_answered result (Err NoMemory) start output output2 session session2 lines step some =
    some_answered result NoMemory start output output2 session session2 lines step some (λ replied. replied)
ended_answered result (Err InputFailed) start output output2 session session2 lines step some =
    some_answered result InputFailed start output output2 session session2 lines step some (λ replied. replied)
ended_answered result (Err OutputFailed) start output output2 session session2 lines step failed =
    let same = step.none failed.no_call in
    rw (same.0, same.1, same.2) (failed.no_reply, (failed.lost, failed.replied))
