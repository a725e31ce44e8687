-- What a line requests.
use Rattle.std.specs.Prelude.{ℕ, ◌≡◌, ◌<◌, ◌≤◌, Bool, List, [], ◌∷◌, codes, if◌then◌else◌}
use Rattle.std.specs.Int.{IsPowerOfTwo}
use Rattle.bhtable.specs.Words.{Part, number, text}
use Rattle.bhtable.specs.declared.request.Kind.{Kind}
use Rattle.bhtable.specs.declared.request.Kind.TheVariants.{Map, Index, Cache}
use Rattle.bhtable.specs.declared.request.Question.{Question}
use Rattle.bhtable.specs.declared.request.Question.TheVariants.{Slots, Word}
use Rattle.bhtable.specs.declared.request.Request.{Request}
use Rattle.bhtable.specs.declared.request.Request.TheVariants.{New, Call as Calls, Question as Questions, Epoch}
use Rattle.bucket_table.specs.declared.script.call.Call.{Call}
use Rattle.bucket_table.specs.declared.script.call.Call.TheVariants.{Put, Write, Read, Peek, Remove, Touch, Evict, Count, Has, Reserve}
use Rattle.bucket_table.specs.declared.script.call.Call.TheVariants.{Release, Start, Work, End, Walk, Clear}
use Rattle.bucket_table.specs.declared.script.hashes.ScriptHash.{ScriptHash}
use Rattle.bucket_table.specs.declared.script.hashes.ScriptHash.TheVariants.{Zero, Id, Spread}

abbrev pub kind_word : Kind → List ℕ
kind_word Map = codes "map"
kind_word Index = codes "index"
kind_word Cache = codes "cache"

abbrev pub hash_word : ScriptHash → List ℕ
hash_word Zero = codes "zero"
hash_word Id = codes "id"
hash_word Spread = codes "spread"

-- whether tombstones are kept
abbrev pub mark_word : Bool → List ℕ
mark_word keep = if keep then codes "keep" else codes "drop"

-- whether a ticket ends with success
abbrev pub end_word : Bool → List ℕ
end_word success = if success then codes "done" else codes "fail"

abbrev pub question_word : Question → List ℕ
question_word Slots = codes "slots"
question_word Word = codes "word"

-- a call's verb, and what follows it: numbers, and for a ticket whether it ends with success
abbrev pub call_line : Call ℕ ℕ → List ℕ × List Part
call_line (Put key value) = (codes "put", number key ∷ number value ∷ [])
call_line (Write key value) = (codes "write", number key ∷ number value ∷ [])
call_line (Read key) = (codes "read", number key ∷ [])
call_line (Peek key) = (codes "peek", number key ∷ [])
call_line (Remove key) = (codes "remove", number key ∷ [])
call_line (Touch key) = (codes "touch", number key ∷ [])
call_line (Evict key) = (codes "evict", number key ∷ [])
call_line Count = (codes "count", [])
call_line Has = (codes "has", [])
call_line (Reserve additional) = (codes "reserve", number additional ∷ [])
call_line (Release released) = (codes "release", number released ∷ [])
call_line Start = (codes "start", [])
call_line (Work index) = (codes "work", number index ∷ [])
call_line (End ticket success) = (codes "end", number ticket ∷ text (end_word success) ∷ [])
call_line Walk = (codes "walk", [])
call_line Clear = (codes "clear", [])

-- a request's verb, and what follows it: for a table its kind, its hash and two limits, for an epoch its number and whether tombstones are
-- kept
abbrev pub request_line : Request → List ℕ × List Part
request_line (New new) =
    (codes "new", text (kind_word new.kind) ∷ text (hash_word new.hash) ∷ number new.limits.minimum ∷ number new.limits.maximum ∷ [])
request_line (Calls call) = call_line call
request_line (Questions question) = (question_word question, [])
request_line (Epoch generation) = (codes "epoch", number generation.epoch ∷ text (mark_word generation.keep) ∷ [])

-- the minimum and the maximum number of slots that a table may have
abbrev pub AreLimits : ℕ → ℕ → Type 0
AreLimits minimum maximum = IsPowerOfTwo maximum × (64 ≤ maximum) × (minimum ≤ maximum)

-- its numbers are allowed for a table
abbrev pub IsInRange : Request → Type 0
IsInRange (New new) = AreLimits new.limits.minimum new.limits.maximum
IsInRange (Calls call) = Unit {0}
IsInRange (Questions question) = Unit {0}
IsInRange (Epoch generation) = generation.epoch < 256

-- the parts of a line are those of this request
abbrev pub Asks : List Part → Request → Type 0
Asks parts request = (parts ≡ text (request_line request).0 ∷ (request_line request).1) × IsInRange request
