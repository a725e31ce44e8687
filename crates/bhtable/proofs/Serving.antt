-- How far a script has been served, line by line, and how it ends.
use Rattle.std.proofs.Common.{◌≡◌, ℕ, ◌+◌, ◌<◌, ◌⊎◌, inl, inr, List, [], ◌∷◌, ◌++◌, Bool, true, false, Option, Result, Ok, Err, length}
use Rattle.std.proofs.Common.{take, drop, sym, ap, ◌∙◌, append-nil, append_assoc, length-append}
use Rattle.std.specs.Io.KnownBytes.{Consumes, IsAtEnd}
use Rattle.bhtable.specs.InputLines.{lines_of}
use Rattle.bhtable.specs.Found.{IsFoundIn}
use Rattle.bhtable.specs.Layout.Sessions.{HasEnded, HasFailed, HasFoundBad, HasStopped, HasTaken, HasTakenSome, IsBadAt}
use Rattle.bhtable.specs.Layout.Sessions.{table_at_hand}
use Rattle.bhtable.specs.Layout.Stops.{IsInput, IsLack}
use Rattle.bhtable.specs.declared.lines.Found.TheVariants.{Line as FoundLine, TooLong, End}
use Rattle.bhtable.specs.declared.lines.Line.{Line}
use Rattle.bhtable.specs.declared.session.Session.{Session}
use Rattle.bhtable.specs.declared.stop.Stop.{Stop}
use Rattle.bhtable.specs.declared.stop.Stop.TheVariants.{BadLine, NoMemory, InputFailed, OutputFailed}
use Rattle.bhtable.proofs.Finding.{found_end, found_line, found_too_long}
use Rattle.bhtable.proofs.Reading.{HasRead, all_lines, line_passed, more_read}
use Rattle.bhtable.proofs.Replying.{some_of_more}

-- `number` lines are read from the input, and taken
pub record HasCome (input left : Option (List ℕ)) (is_ended : Bool) (unread : List ℕ) (start output : Option (List ℕ)) (session : Session)
    (number : ℕ) : Type 0 where
  pub before : List (List ℕ)
  pub numbered : length before ≡ number
  pub read : HasRead input left is_ended unread before
  pub taken : HasTaken start output session before

-- an input of which the lines have this end
abbrev pub EndsSo : Option (List ℕ) → Option (List ℕ) → Option (List ℕ) → Session → Result (Unit {0}) Stop → Type 0
EndsSo input start output session result =
    (bytes : List ℕ) × IsInput input bytes × HasEnded result start output session (lines_of bytes)

more_lines : (start output : Option (List ℕ)) (session : Session) (lines first others : List (List ℕ)) → lines ≡ first ++ others
    → HasTakenSome start output session first → HasTakenSome start output session lines
more_lines start output session lines first others parts some = record {
  first = some.first;
  others = some.others ++ others;
  in_order = parts ∙ ap (λ (ls : List (List ℕ)). ls ++ others) some.in_order ∙ append_assoc some.first some.others others;
  kept = some.kept;
}

all_taken : (start output : Option (List ℕ)) (session : Session) (lines : List (List ℕ)) → HasTaken start output session lines
    → HasTakenSome start output session lines
all_taken start output session lines taken =
    record { first = lines; others = []; in_order = sym (append-nil lines); kept = inl taken }

module _ (input left : Option (List ℕ)) (is_ended : Bool) (unread : List ℕ) (start output : Option (List ℕ)) (session : Session)
    (number : ℕ)
    (come : HasCome input left is_ended unread start output session number) where
  pub line_taken : (output2 : Option (List ℕ)) (session2 : Session) (line : Line) → IsFoundIn is_ended unread (FoundLine line)
      → HasTaken start output2 session2 (come.before ++ take line.len unread ∷ [])
      → HasCome input left is_ended (drop line.whole_len unread) start output2 session2 (number + 1)
  line_taken output2 session2 line found taken = record {
    before = come.before ++ take line.len unread ∷ [];
    numbered = length-append come.before (take line.len unread ∷ []) ∙ ap (λ (n : ℕ). n + 1) come.numbered;
    read = line_passed input left is_ended unread come.before line come.read found;
    taken = taken;
  }

  pub read_on : (left2 output2 : Option (List ℕ)) (is_ended2 : Bool) (unread2 : List ℕ) (session2 : Session) → is_ended ≡ false
      → HasTaken start output2 session2 come.before
      → (more : List ℕ) × (unread2 ≡ unread ++ more) × Consumes left left2 more
      × (((is_ended2 ≡ true) × IsAtEnd left2) ⊎ ((is_ended2 ≡ is_ended) × (0 < length more)))
      → HasCome input left2 is_ended2 unread2 start output2 session2 number
  read_on left2 output2 is_ended2 unread2 session2 goes_on taken (more, grown, consumed, progress) = record {
    before = come.before;
    numbered = come.numbered;
    read = more_read input left left2 is_ended is_ended2 unread unread2 more come.before come.read goes_on grown consumed progress;
    taken = taken;
  }

  pub ends_at_end : IsFoundIn is_ended unread End → EndsSo input start output session (Ok tt)
  ends_at_end found =
      let all = all_lines input left is_ended unread come.before come.read in
      let end = found_end is_ended unread found in
      let nothing : unread ++ all.more ≡ [] = ap (λ (l : List ℕ). l ++ all.more) end.1 ∙ all.last end.0 in
      (all.bytes, all.input, rw (all.in_order, nothing, append-nil) come.taken)

  pub ends_at_long_line : IsFoundIn is_ended unread TooLong → EndsSo input start output session (Err (BadLine (number + 1)))
  ends_at_long_line found =
      let all = all_lines input left is_ended unread come.before come.read in
      let first = found_too_long is_ended unread all.more found in (
        all.bytes,
        all.input,
        record {
          first = come.before;
          line = first.line;
          others = first.others;
          in_order = all.in_order ∙ ap (λ (ls : List (List ℕ)). come.before ++ ls) first.in_order;
          numbered = ap (λ (n : ℕ). n + 1) (sym come.numbered);
          taken = come.taken;
          unreadable = inl first.long;
        },
      )

  -- a stop that reports no line
  pub ends_between : (output2 : Option (List ℕ)) (session2 : Session) (stop : Stop) → IsLack stop
      → HasStopped stop start output2 session2 come.before → EndsSo input start output2 session2 (Err stop)
  ends_between output2 session2 (BadLine other) lack left2 = absurd lack
  ends_between output2 session2 NoMemory lack left2 =
      let all = all_lines input left is_ended unread come.before come.read in
      (all.bytes, all.input, more_lines start output2 session2 (lines_of all.bytes) come.before _ all.in_order left2)
  ends_between output2 session2 InputFailed lack left2 = absurd lack
  ends_between output2 session2 OutputFailed lack left2 =
      let all = all_lines input left is_ended unread come.before come.read in
      let failed : HasFailed start output2 session2 (lines_of all.bytes) = record {
        no_call = left2.no_call;
        no_reply = left2.no_reply;
        lost = left2.lost;
        replied = some_of_more start output2 left2.lost (lines_of all.bytes) come.before _ all.in_order left2.replied;
      } in
      (all.bytes, all.input, failed)

  pub ends_unread : (output2 : Option (List ℕ)) (session2 : Session) → HasTaken start output2 session2 come.before
      → EndsSo input start output2 session2 (Err InputFailed)
  ends_unread output2 session2 taken =
      let all = all_lines input left is_ended unread come.before come.read in (
        all.bytes,
        all.input,
        more_lines start output2 session2 (lines_of all.bytes) come.before _ all.in_order
            (all_taken start output2 session2 come.before taken),
      )

  -- a stop at a line
  pub ends_at_line : (output2 : Option (List ℕ)) (session2 : Session) (line : Line) (stop : Stop)
      → IsFoundIn is_ended unread (FoundLine line)
      → (stop ≡ BadLine (number + 1)) ⊎ IsLack stop
      → HasStopped stop start output2 session2 come.before × IsBadAt stop (table_at_hand session2.table) (take line.len unread)
      → EndsSo input start output2 session2 (Err stop)
  ends_at_line output2 session2 line stop found (inr lack) left2 = ends_between output2 session2 stop lack left2.0
  ends_at_line output2 session2 line stop found (inl bad) left2 =
      let all = all_lines input left is_ended unread come.before come.read in
      let told : HasFoundBad start output2 session2 (lines_of all.bytes) (number + 1) = record {
        first = come.before;
        line = take line.len unread;
        others = lines_of (drop line.whole_len unread ++ all.more);
        in_order = all.in_order
            ∙ ap (λ (ls : List (List ℕ)). come.before ++ ls) (found_line is_ended unread all.more line found all.last);
        numbered = ap (λ (n : ℕ). n + 1) (sym come.numbered);
        taken = rw bad at left2.0;
        unreadable = rw bad at left2.1;
      } in
      (all.bytes, all.input, rw bad told)
