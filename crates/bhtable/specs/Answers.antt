-- How the lines of a script are answered.
use Rattle.std.specs.Prelude.{ℕ, Bool, ◌*◌, ◌≡◌, ◌⊎◌, ◌<◌, ◌≤◌, List, [], ◌∷◌, ◌++◌, Option, None, Some, length, nat_eq}
use Rattle.bucket_slots.specs.declared.bucket.TheConstants.{CACHE, INDEX, MAP}
use Rattle.bucket_table.specs.Views.ArraysView.{ArraysView, IsOneMap, killed_flags}
use Rattle.bucket_table.specs.Scripts.Calls.{Step}
use Rattle.bucket_table.specs.Rehash.Covered.{RehashState}
use Rattle.bucket_table.specs.Scripts.Hashes.{script_hash}
use Rattle.bucket_table.specs.Map.MapState.{MapState, state_of}
use Rattle.bucket_table.specs.Rehash.State.{TicketState, word_of}
use Rattle.bucket_table.specs.Scripts.TicketCalls.{TicketStep, no_rehash, rehash_of}
use Rattle.bucket_table.specs.declared.script.call.Call.{Call}
use Rattle.bucket_table.specs.declared.script.hashes.ScriptHash.{ScriptHash}
use Rattle.bucket_table.specs.declared.script.reply.Reply.{Reply}
use Rattle.bucket_table.specs.declared.script.reply.Reply.TheVariants.{Done, NoWork, Number}
use Rattle.bhtable.specs.Requests.{Asks}
use Rattle.bhtable.specs.OutputLines.{line_of}
use Rattle.bhtable.specs.Texts.{text_of}
use Rattle.bhtable.specs.Words.{parts_of}
use Rattle.bhtable.specs.declared.request.Kind.{Kind}
use Rattle.bhtable.specs.declared.request.Kind.TheVariants.{Map, Index, Cache}
use Rattle.bhtable.specs.declared.request.NewTable.{NewTable}
use Rattle.bhtable.specs.declared.request.Question.{Question}
use Rattle.bhtable.specs.declared.request.Question.TheVariants.{Slots, Word}
use Rattle.bhtable.specs.declared.request.Request.{Request}
use Rattle.bhtable.specs.declared.request.Request.TheVariants.{New, Call as Calls, Question as Questions, Epoch}

-- what a script's answers depend on: the map, the tickets of the old array, and the number of buckets of the current one
pub record ScriptTable : Type 0 where
  pub map : MapState ℕ ℕ ScriptHash
  pub tickets : RehashState
  pub len : ℕ

-- the letter of a kind
abbrev pub kind_letter : Kind → ℕ
kind_letter Map = MAP
kind_letter Index = INDEX
kind_letter Cache = CACHE

-- a fresh map has no pairs
abbrev pub fresh_map : NewTable → MapState ℕ ℕ ScriptHash
fresh_map new =
    record { kind = kind_letter new.kind; hasher = new.hash; minimum = new.limits.minimum; maximum = new.limits.maximum; pairs = [] }

-- a fresh table has no pairs and no array
abbrev pub fresh_table : NewTable → ScriptTable
fresh_table new = record { map = fresh_map new; tickets = no_rehash; len = 0 }

-- a call is answered by the map and by the tickets
abbrev pub ScriptStep : ScriptTable → Call ℕ ℕ → Reply ℕ ℕ → ScriptTable → Type 0
ScriptStep old call reply new =
    Step nat_eq script_hash old.map call reply new.map × TicketStep old.tickets call reply new.tickets

-- the rehash word; none if there is no old array
abbrev pub word_reply : List Bool → TicketState → Reply ℕ ℕ
word_reply [] tickets = NoWork
word_reply (flag ∷ flags) tickets = Number (word_of tickets)

-- the answers to questions about arrays: 32 slots for each bucket of the current one, and the rehash word of the old one
abbrev pub told : ArraysView ℕ ℕ → Question → Reply ℕ ℕ
told arrays Slots = Number (32 * length arrays.current)
told arrays Word = word_reply (killed_flags arrays.linked) arrays.tickets

-- the arrays are one map, which is that of the table, as are their tickets and the length of the current one
pub record AreArraysOf (table : ScriptTable) (arrays : ArraysView ℕ ℕ) : Type 0 where
  pub one_map : IsOneMap nat_eq (script_hash table.map.hasher) arrays
  pub map : table.map ≡ state_of table.map.kind (record { hasher = table.map.hasher; arrays = arrays })
  pub tickets : table.tickets ≡ rehash_of arrays
  pub len : table.len ≡ length arrays.current

-- the questions about the table are answered by its arrays
abbrev pub Tells : ScriptTable → Question → Reply ℕ ℕ → Type 0
Tells table question reply = (arrays : ArraysView ℕ ℕ) × AreArraysOf table arrays × (reply ≡ told arrays question)

-- the request may have this reply in the table `old`, and `new` is the table after it; a question and an epoch don't change it
abbrev pub Answers : Option ScriptTable → Request → Reply ℕ ℕ → Option ScriptTable → Type 0
Answers old (New fresh) Done new = new ≡ Some (fresh_table fresh)
Answers (Some before) (Calls call) reply (Some after) = ScriptStep before call reply after
Answers (Some table) (Questions question) reply new = Tells table question reply × (new ≡ Some table)
Answers (Some table) (Epoch generation) Done new = new ≡ Some table
Answers old request reply new = ⊥

-- the line may be answered by this text in the table `old`, and `new` is the table after it; a line without words is skipped
abbrev pub IsAnswer : Option ScriptTable → List ℕ → List ℕ → Option ScriptTable → Type 0
IsAnswer old line text new =
    ((parts_of line ≡ []) × (text ≡ []) × (new ≡ old)) ⊎ ((request : Request) × (reply : Reply ℕ ℕ)
    × Asks (parts_of line) request × Answers old request reply new × (text ≡ line_of (text_of reply)))

-- the lines, none too long, may be answered by this text, one after another
abbrev pub AreAnswers : Option ScriptTable → List (List ℕ) → List ℕ → Option ScriptTable → Type 0
AreAnswers old [] text new = (text ≡ []) × (new ≡ old)
AreAnswers old (line ∷ lines) text new =
    (length line ≤ 4096) × ((first : List ℕ) × (rest : List ℕ) × (between : Option ScriptTable)
    × IsAnswer old line first between × AreAnswers between lines rest new × (text ≡ first ++ rest))

-- the line is too long, or its words are no request, or one for a call, a question or an epoch before the first table
abbrev pub IsUnreadable : Option ScriptTable → List ℕ → Type 0
IsUnreadable table line = (4096 < length line) ⊎ ((parts_of line ≡ [] → ⊥)
    × ((request : Request) → Asks (parts_of line) request → (table ≡ None) × ((new : NewTable) → request ≡ New new → ⊥)))
