-- What a session holds after a line, and after the calls that wait are answered.
use Rattle.std.proofs.Common.{◌≡◌, ℕ, ◌≤◌, ◌==◌, inl, inr, true, List, [], ◌∷◌, ◌++◌, Option, Some, IsSome, Result, Ok, Err, MatchResult}
use Rattle.std.proofs.Common.{length, arith, eqb-true, refl, sym, ap, ◌∙◌, append_assoc, append-nil}
use Rattle.bucket_table.specs.declared.script.call.Call.{Call}
use Rattle.bucket_table.specs.declared.script.reply.Reply.{Reply}
use Rattle.bhtable.specs.Answers.{AreAnswers, ScriptTable}
use Rattle.bhtable.specs.Growing.{HasGrown}
use Rattle.bhtable.specs.Layout.Replies.{ArePushed, IsLeftBy, lines_of_replies}
use Rattle.bhtable.specs.Requests.{Asks}
use Rattle.bhtable.specs.Layout.Sessions.{AskForCalls, HasReplied, HasStopped, HasTaken, HasTakenSome, ScriptRun, table_at_hand}
use Rattle.bhtable.specs.Words.{parts_of}
use Rattle.bhtable.specs.declared.request.Request.TheVariants.{Call as Calls}
use Rattle.bhtable.specs.declared.session.Session.{Session}
use Rattle.bhtable.specs.declared.stop.Stop.{Stop}
use Rattle.bhtable.specs.declared.stop.Stop.TheVariants.{BadLine, NoMemory, InputFailed, OutputFailed}
use Rattle.bhtable.proofs.Answering.{answered_all, answered_nothing, answered_some, asked_nothing_more, asked_one_more}
use Rattle.bhtable.proofs.Growing.{nothing_grown}
use Rattle.bhtable.proofs.Replying.{replied_more}

pub taken_blank : (start output : Option (List ℕ)) (session : Session) (lines : List (List ℕ)) (line : List ℕ)
    → HasTaken start output session lines → length line ≤ 4096 → parts_of line ≡ []
    → HasTaken start output session (lines ++ line ∷ [])
taken_blank start output session lines line taken short blank = record {
  answered = taken.answered;
  waiting = taken.waiting ++ line ∷ [];
  in_order = ap (λ (ls : List (List ℕ)). ls ++ line ∷ []) taken.in_order ∙ append_assoc taken.answered taken.waiting (line ∷ []);
  replied = taken.replied;
  calls = asked_nothing_more taken.waiting session.calls.items line taken.calls short blank;
  needed = taken.needed;
}

-- a call more, which needs a table
pub taken_call : (start output : Option (List ℕ)) (session session2 : Session) (lines : List (List ℕ)) (line : List ℕ) (call : Call ℕ ℕ)
    → HasTaken start output session lines → length line ≤ 4096 → Asks (parts_of line) (Calls call)
    → session2.calls.items ≡ session.calls.items ++ call ∷ [] → session2.table ≡ session.table
    → session2.replies ≡ session.replies → IsSome session.table
    → HasTaken start output session2 (lines ++ line ∷ [])
taken_call start output session session2 lines line call taken short asks pushed table replies there = record {
  answered = taken.answered;
  waiting = taken.waiting ++ line ∷ [];
  in_order = ap (λ (ls : List (List ℕ)). ls ++ line ∷ []) taken.in_order ∙ append_assoc taken.answered taken.waiting (line ∷ []);
  replied = rw (table, replies) taken.replied;
  calls = rw pushed (asked_one_more taken.waiting session.calls.items line call taken.calls short asks);
  needed = λ none. absurd (cc);
}

-- if no call waits, all lines that were taken are answered
pub replied_all : (start output : Option (List ℕ)) (session : Session) (lines : List (List ℕ)) → HasTaken start output session lines
    → session.calls.items ≡ []
    → HasReplied start output session.replies lines (table_at_hand session.table)
replied_all start output session lines taken none =
    let blank : AskForCalls taken.waiting [] = rw none at taken.calls in
    let table = table_at_hand session.table in
    rw taken.in_order (replied_more start output output _ _ [] taken.answered taken.waiting table table taken.replied
    (answered_nothing taken.waiting table blank) (nothing_grown output session.replies))

-- a vector without elements
pub no_items : {X : Type 0} (items : List X) (len : ℕ) → len ≡ length items → true ≡ (len == 0) → items ≡ []
no_items [] len same empty = refl
no_items (item ∷ items) len same empty = absurd (omega (arith, same, eqb-true len 0 (sym empty)))

pub taken_all : (start output : Option (List ℕ)) (session : Session) (lines : List (List ℕ))
    → HasReplied start output session.replies lines (table_at_hand session.table) → session.calls.items ≡ []
    → HasTaken start output session lines
taken_all start output session lines replied none = record {
  answered = lines;
  waiting = [];
  in_order = sym (append-nil lines);
  replied = replied;
  calls = none;
  needed = λ _. none;
}

-- a stop after the answers of the first of the lines
pub stopped_at : (stop : Stop) (start output output2 : Option (List ℕ)) (session session2 : Session)
    (lines first more others : List (List ℕ)) (text : List ℕ) (table table2 : Option ScriptTable) → lines ≡ (first ++ more) ++ others
    → HasReplied start output session.replies first table → AreAnswers table more text table2
    → IsLeftBy stop output session.replies output2 session2.replies text → session2.calls.items ≡ []
    → HasStopped stop start output2 session2 lines
stopped_at (BadLine number) start output output2 session session2 lines first more others text table table2 parts replied answers never
    none =
    absurd never
stopped_at NoMemory start output output2 session session2 lines first more others text table table2 parts replied answers grown
    none = record {
      first = first ++ more;
      others = others;
      in_order = parts;
      kept = inr (none, (table2, replied_more start output output2 _ _ text first more table table2 replied answers grown));
    }
stopped_at InputFailed start output output2 session session2 lines first more others text table table2 parts replied answers never none =
    absurd never
stopped_at OutputFailed start output output2 session session2 lines first more others text table table2 parts replied answers
    (empty, (lost, grown)) none = record {
      no_call = none;
      no_reply = empty;
      lost = lost;
      replied = record {
        first = first ++ more;
        others = others;
        table = table2;
        in_order = parts;
        replied = replied_more start output output2 _ lost text first more table table2 replied answers grown;
      };
    }

all_pushed : (start output output2 : Option (List ℕ)) (session session2 : Session) (lines : List (List ℕ)) (before after : ScriptTable)
    (replies : List (Reply ℕ ℕ)) → HasTaken start output session lines → table_at_hand session.table ≡ Some before
    → ScriptRun before session.calls.items replies after
    → HasGrown output session.replies output2 session2.replies (lines_of_replies replies)
    → HasReplied start output2 session2.replies lines (Some after)
all_pushed start output output2 session session2 lines before after replies taken there ran grown =
    let replied = rw there at taken.replied in
    rw taken.in_order (replied_more start output output2 _ _ _ taken.answered taken.waiting (Some before) (Some after) replied
    (answered_all taken.waiting session.calls.items replies before after taken.calls ran) grown)

-- the waiting calls are done, and their replies were appended as far as possible
pub pushed : (start output output2 : Option (List ℕ)) (session session2 : Session) (lines : List (List ℕ)) (before after : ScriptTable)
    (replies : List (Reply ℕ ℕ)) (result : Result (Unit {0}) Stop) → HasTaken start output session lines
    → table_at_hand session.table ≡ Some before → table_at_hand session2.table ≡ Some after
    → ScriptRun before session.calls.items replies after
    → ArePushed result output session.replies output2 session2.replies replies
    → session2.calls.items ≡ []
    → MatchResult result
    (λ _. HasReplied start output2 session2.replies lines (table_at_hand session2.table))
    (λ stop. HasStopped stop start output2 session2 lines)
pushed start output output2 session session2 lines before after replies (Ok done) taken there there2 ran (first, others, parts, all) none =
    let whole : replies ≡ first = parts ∙ ap (λ (rs : List (Reply ℕ ℕ)). first ++ rs) all.0 ∙ append-nil first in
    rw there2 (all_pushed start output output2 session session2 lines before after first taken there (rw whole at ran) all.1)
pushed start output output2 session session2 lines before after replies (Err stop) taken there there2 ran (first, others, parts, left)
    none =
    let some = answered_some taken.waiting session.calls.items first others before after taken.calls (rw parts at ran) in
    stopped_at stop start output output2 session session2 lines taken.answered some.first some.others (lines_of_replies first) (Some before)
    some.table
    (taken.in_order ∙ ap (λ (ls : List (List ℕ)). taken.answered ++ ls) some.in_order
    ∙ sym (append_assoc taken.answered some.first some.others)) (rw there at taken.replied) some.answers left none

-- after a call for which allocation failed
pub taken_so_far : (start output : Option (List ℕ)) (session session2 : Session) (lines : List (List ℕ))
    → HasTaken start output session lines
    → session2.calls.items ≡ session.calls.items → session2.table ≡ session.table → session2.replies ≡ session.replies
    → HasTakenSome start output session2 lines
taken_so_far start output session session2 lines taken calls table replies = record {
  first = lines;
  others = [];
  in_order = sym (append-nil lines);
  kept = inl (record {
    answered = taken.answered;
    waiting = taken.waiting;
    in_order = taken.in_order;
    replied = rw (table, replies) taken.replied;
    calls = rw calls taken.calls;
    needed = λ none. calls ∙ taken.needed (sym table ∙ none);
  });
}
