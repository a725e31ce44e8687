-- The text of replies.
use Rattle.std.specs.Prelude.{ℕ, List, ◌++◌, codes, if◌then◌else◌}
use Rattle.std.specs.Fmt.{decimal}
use Rattle.bucket_table.specs.declared.script.reply.Reply.{Reply}
use Rattle.bucket_table.specs.declared.script.reply.Reply.TheVariants.{Done, Present, Absent, Value, Old, Pair, Nothing, Number, Truth}
use Rattle.bucket_table.specs.declared.script.reply.Reply.TheVariants.{Ticket, NoTicket, NoWork, Ended, Fault, Refused, WrongKind, Walked}
use Rattle.bucket_table.specs.declared.script.reply.Reply.TheVariants.{Cleared}
use Rattle.bucket_table.specs.declared.tickets.TicketError.TheVariants.{NotOpen, NotDone}
use Rattle.bhtable.specs.OutputLines.{line_of}

-- a reply in words
abbrev pub text_of : Reply ℕ ℕ → List ℕ
text_of Done = codes "ok"
text_of Present = codes "present"
text_of Absent = codes "absent"
text_of (Value value) = codes "value " ++ decimal value
text_of (Old value) = codes "old " ++ decimal value
text_of (Pair key value) = codes "pair " ++ decimal key ++ codes " " ++ decimal value
text_of Nothing = codes "nothing"
text_of (Number number) = decimal number
text_of (Truth truth) = if truth then codes "true" else codes "false"
text_of (Ticket ticket) = codes "ticket " ++ decimal ticket
text_of NoTicket = codes "none"
text_of NoWork = codes "none"
text_of (Ended gone) = if gone then codes "gone" else codes "stays"
text_of (Fault NotOpen) = codes "refused 1"
text_of (Fault NotDone) = codes "refused 2"
text_of Refused = codes "refused 3"
text_of WrongKind = codes "wrong kind"
text_of (Walked buckets pairs) = codes "walked " ++ decimal buckets ++ codes " " ++ decimal pairs
text_of (Cleared count) = codes "cleared " ++ decimal count

-- the line `bad line N`
abbrev pub bad_line : ℕ → List ℕ
bad_line number = line_of (codes "bad line " ++ decimal number)
