-- What a session holds of the lines that it has taken.
use Rattle.std.specs.Prelude.{ℕ, ◌≡◌, ◌⊎◌, ◌+◌, ◌≤◌, List, [], ◌∷◌, ◌++◌, Option, None, Some, Result, Ok, Err, length}
use Rattle.bucket_slots.specs.declared.bucket.TheConstants.{CACHE, INDEX, MAP}
use Rattle.bucket_table.specs.Views.ArraysView.{TableView}
use Rattle.bucket_table.specs.Map.MapState.{state_of}
use Rattle.bucket_table.specs.Scripts.Runs.{Run}
use Rattle.bucket_table.specs.Scripts.TicketCalls.{rehash_of}
use Rattle.bucket_table.specs.declared.script.call.Call.{Call}
use Rattle.bucket_table.specs.declared.script.hashes.ScriptHash.{ScriptHash}
use Rattle.bucket_table.specs.declared.script.reply.Reply.{Reply}
use Rattle.bhtable.specs.Answers.{AreAnswers, IsUnreadable, ScriptStep, ScriptTable}
use Rattle.bhtable.specs.Growing.{HasGrown}
use Rattle.bhtable.specs.Requests.{Asks}
use Rattle.bhtable.specs.Words.{parts_of}
use Rattle.bhtable.specs.declared.request.Request.TheVariants.{Call as Calls}
use Rattle.bhtable.specs.declared.session.Session.{Session}
use Rattle.bhtable.specs.declared.session.Table.{Table}
use Rattle.bhtable.specs.declared.session.Table.TheVariants.{Map, Index, Cache}
use Rattle.bhtable.specs.declared.stop.Stop.{Stop}
use Rattle.bhtable.specs.declared.stop.Stop.TheVariants.{BadLine, NoMemory, InputFailed, OutputFailed}

-- a run of calls on a script's table
abbrev pub ScriptRun : ScriptTable → List (Call ℕ ℕ) → List (Reply ℕ ℕ) → ScriptTable → Type 0
ScriptRun = Run ScriptStep

-- what the answers of a script depend on
abbrev pub seen : ℕ → TableView ℕ ℕ ScriptHash → ScriptTable
seen kind table =
    record { map = state_of kind table; tickets = rehash_of table.arrays; len = length table.arrays.current }

abbrev pub table_of : Table → ScriptTable
table_of (Map table) = seen MAP table
table_of (Index table) = seen INDEX table
table_of (Cache table) = seen CACHE table

-- the current table, if there is one
abbrev pub table_at_hand : Option Table → Option ScriptTable
table_at_hand None = None
table_at_hand (Some table) = Some (table_of table)

-- the lines that have words request these calls, and none is too long
abbrev pub AskForCalls : List (List ℕ) → List (Call ℕ ℕ) → Type 0
AskForCalls [] calls = calls ≡ []
AskForCalls (line ∷ lines) calls =
    (length line ≤ 4096) × (((parts_of line ≡ []) × AskForCalls lines calls)
    ⊎ ((call : Call ℕ ℕ) × (others : List (Call ℕ ℕ)) × Asks (parts_of line) (Calls call) × (calls ≡ call ∷ others)
    × AskForCalls lines others))

-- from the output `start` on, these lines are answered, in the output and in the text that waits for it
pub record HasReplied (start output : Option (List ℕ)) (waiting : List ℕ) (lines : List (List ℕ))
    (table : Option ScriptTable) : Type 0 where
  pub text : List ℕ
  pub answers : AreAnswers None lines text table
  pub written : HasGrown start [] output waiting text

-- the first of the lines are answered so
pub record HasRepliedSome (start output : Option (List ℕ)) (waiting : List ℕ) (lines : List (List ℕ)) : Type 0 where
  pub first : List (List ℕ)
  pub others : List (List ℕ)
  pub table : Option ScriptTable
  pub in_order : lines ≡ first ++ others
  pub replied : HasReplied start output waiting first table

-- the first of these lines are answered, and the calls of the others wait
pub record HasTaken (start output : Option (List ℕ)) (session : Session) (lines : List (List ℕ)) : Type 0 where
  pub answered : List (List ℕ)
  pub waiting : List (List ℕ)
  pub in_order : lines ≡ answered ++ waiting
  pub replied : HasReplied start output session.replies answered (table_at_hand session.table)
  pub calls : AskForCalls waiting session.calls.items
  pub needed : session.table ≡ None → session.calls.items ≡ []

-- the first of these lines are taken, or are answered and no call waits
pub record HasTakenSome (start output : Option (List ℕ)) (session : Session) (lines : List (List ℕ)) : Type 0 where
  pub first : List (List ℕ)
  pub others : List (List ℕ)
  pub in_order : lines ≡ first ++ others
  pub kept : HasTaken start output session first
      ⊎ ((session.calls.items ≡ [])
      × ((table : Option ScriptTable) × HasReplied start output session.replies first table))

-- the lines before one that can't be read are taken, and this is its number
pub record HasFoundBad (start output : Option (List ℕ)) (session : Session) (lines : List (List ℕ)) (number : ℕ)
    : Type 0 where
  pub first : List (List ℕ)
  pub line : List ℕ
  pub others : List (List ℕ)
  pub in_order : lines ≡ first ++ line ∷ others
  pub numbered : number ≡ length first + 1
  pub taken : HasTaken start output session first
  pub unreadable : IsUnreadable (table_at_hand session.table) line

-- the writer failed: neither a call nor a reply waits, and the missing part of the first lines' answers is lost
pub record HasFailed (start output : Option (List ℕ)) (session : Session) (lines : List (List ℕ)) : Type 0 where
  pub no_call : session.calls.items ≡ []
  pub no_reply : session.replies ≡ []
  pub lost : List ℕ
  pub replied : HasRepliedSome start output lost lines

-- what is left of the lines that were taken after a stop
abbrev pub HasStopped : Stop → Option (List ℕ) → Option (List ℕ) → Session → List (List ℕ) → Type 0
HasStopped (BadLine number) start output session lines = HasTaken start output session lines
HasStopped NoMemory start output session lines = HasTakenSome start output session lines
HasStopped InputFailed start output session lines = ⊥
HasStopped OutputFailed start output session lines = HasFailed start output session lines

-- a stop at a bad line happens at a line that can't be read
abbrev pub IsBadAt : Stop → Option ScriptTable → List ℕ → Type 0
IsBadAt (BadLine number) table line = IsUnreadable table line
IsBadAt NoMemory table line = Unit {0}
IsBadAt InputFailed table line = Unit {0}
IsBadAt OutputFailed table line = Unit {0}

-- what is taken of all lines of an input if reading ends so
abbrev pub HasEnded : Result (Unit {0}) Stop → Option (List ℕ) → Option (List ℕ) → Session → List (List ℕ) → Type 0
HasEnded (Ok done) start output session lines = HasTaken start output session lines
HasEnded (Err (BadLine number)) start output session lines = HasFoundBad start output session lines number
HasEnded (Err NoMemory) start output session lines = HasTakenSome start output session lines
HasEnded (Err InputFailed) start output session lines = HasTakenSome start output session lines
HasEnded (Err OutputFailed) start output session lines = HasFailed start output session lines
