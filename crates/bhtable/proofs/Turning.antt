-- What a session holds after a line that changes no pair, and after its replies are written out.
use Rattle.std.proofs.Common.{◌≡◌, ℕ, ◌≤◌, List, [], ◌∷◌, ◌++◌, Option, None, Some, IsSome, Result, Ok, Err, MatchResult, length, refl}
use Rattle.std.proofs.Common.{◌∙◌, append-nil}
use Rattle.bucket_table.specs.declared.script.generation.FixedGeneration.{FixedGeneration}
use Rattle.bucket_table.specs.declared.script.reply.Reply.{Reply}
use Rattle.bucket_table.specs.declared.script.reply.Reply.TheVariants.{Done}
use Rattle.bhtable.specs.Answers.{Answers, IsAnswer, ScriptTable, Tells}
use Rattle.bhtable.specs.Outputs.{HasAnswered}
use Rattle.bhtable.specs.Layout.Replies.{IsLeftBy, IsPushed}
use Rattle.bhtable.specs.Layout.Sessions.{HasReplied, HasStopped, HasTaken, IsBadAt, table_at_hand, table_of}
use Rattle.bhtable.specs.Layout.Stops.{IsLack}
use Rattle.bhtable.specs.declared.request.Question.{Question}
use Rattle.bhtable.specs.declared.request.Request.TheVariants.{Epoch, Question as Questions}
use Rattle.bhtable.specs.declared.session.Session.{Session}
use Rattle.bhtable.specs.declared.session.Table.{Table}
use Rattle.bhtable.specs.declared.stop.Stop.{Stop}
use Rattle.bhtable.specs.declared.stop.Stop.TheVariants.{BadLine, NoMemory, InputFailed, OutputFailed}
use Rattle.bhtable.proofs.Replying.{answered_out, replied_one, replied_same}
use Rattle.bhtable.proofs.Taking.{stopped_at, taken_all}

-- an allocation failure or a writer that fails isn't a line that can't be read
pub at_line : (result : Result (Unit {0}) Stop) (P : Unit {0} → Type 0) (Q : Stop → Type 0) (table : Option ScriptTable) (line : List ℕ)
    → MatchResult result P Q → MatchResult result (λ _. Unit {0}) IsLack
    → MatchResult result P (λ stop. Q stop × IsBadAt stop table line)
at_line (Ok done) P Q table line left lack = left
at_line (Err (BadLine number)) P Q table line left lack = absurd lack
at_line (Err NoMemory) P Q table line left lack = (left, tt)
at_line (Err InputFailed) P Q table line left lack = absurd lack
at_line (Err OutputFailed) P Q table line left lack = (left, tt)

-- a stop before the next answer
stopped_before : (stop : Stop) (start output output2 : Option (List ℕ)) (session session2 : Session) (lines : List (List ℕ))
    (table : Option ScriptTable) → HasReplied start output session.replies lines table
    → IsLeftBy stop output session.replies output2 session2.replies [] → session2.calls.items ≡ []
    → HasStopped stop start output2 session2 lines
stopped_before stop start output output2 session session2 lines table replied left none =
    stopped_at stop start output output2 session session2 lines lines [] [] [] table table (simp append-nil) replied (refl, refl) left none

-- a line that is answered at once, if no call waits
pub taken_one : (start output output2 : Option (List ℕ)) (session session2 : Session) (lines : List (List ℕ)) (line : List ℕ)
    (text : List ℕ) (after : Option ScriptTable) (result : Result (Unit {0}) Stop)
    → HasReplied start output session.replies lines (table_at_hand session.table)
    → session.calls.items ≡ [] → length line ≤ 4096 → IsAnswer (table_at_hand session.table) line text after
    → IsPushed result output session.replies output2 session2.replies text
    → table_at_hand session2.table ≡ after → session2.calls.items ≡ session.calls.items
    → MatchResult result (λ _. HasTaken start output2 session2 (lines ++ line ∷ [])) (λ stop. HasStopped stop start output2 session2 lines)
taken_one start output output2 session session2 lines line text after (Ok done) replied none short answer grown table calls =
    taken_all start output2 session2 (lines ++ line ∷ [])
    (rw table (replied_one start output output2 session.replies session2.replies lines line text (table_at_hand session.table) after replied
    short answer grown))
    (calls ∙ none)
taken_one start output output2 session session2 lines line text after (Err stop) replied none short answer left table calls =
    stopped_before stop start output output2 session session2 lines (table_at_hand session.table) replied left (calls ∙ none)

-- if there is a table, an epoch leaves it as it is
pub epoch_answered : (table : Option Table) (generation : FixedGeneration) → IsSome table
    → Answers (table_at_hand table) (Epoch generation) Done (table_at_hand table)
epoch_answered None generation there = absurd (cc)
epoch_answered (Some table) generation there = refl

-- if there is a table, it answers a question about itself, and stays
pub told_of : (table : Option Table) (at : Table) (question : Question) (reply : Reply ℕ ℕ) → table ≡ Some at
    → Tells (table_of at) question reply → Answers (table_at_hand table) (Questions question) reply (table_at_hand table)
told_of table at question reply there tells = rw there (tells, refl)

-- the waiting text was written, as far as the writer accepted it
pub wrote : (start output output2 : Option (List ℕ)) (session session2 : Session) (lines : List (List ℕ)) (result : Result (Unit {0}) Stop)
    → HasReplied start output session.replies lines (table_at_hand session.table) → session.calls.items ≡ []
    → session2.calls.items ≡ session.calls.items → session2.table ≡ session.table → session2.replies ≡ []
    → IsPushed result output session.replies output2 session2.replies []
    → MatchResult result (λ _. HasAnswered lines start output2 [] × HasTaken start output2 session2 lines)
    (λ stop. HasStopped stop start output2 session2 lines)
wrote start output output2 session session2 lines (Ok done) replied none calls table empty written =
    let now : HasReplied start output2 session2.replies lines (table_at_hand session2.table) =
    rw table (replied_same start output output2 session.replies session2.replies lines (table_at_hand session.table) replied written) in (
      answered_out start output2 lines (table_at_hand session2.table) (rw empty at now),
      taken_all start output2 session2 lines now (calls ∙ none),
    )
wrote start output output2 session session2 lines (Err stop) replied none calls table empty left =
    stopped_before stop start output output2 session session2 lines (table_at_hand session.table) replied left (calls ∙ none)
