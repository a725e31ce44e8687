-- What is left in the output once everything is written out, or a write has failed, and with which status.
use Rattle.std.proofs.Common.{◌≡◌, ℕ, inl, inr, List, [], ◌++◌, Option, Some, None, Result, Ok, Err, IfErr, MatchResult, codes, refl, sym}
use Rattle.std.proofs.Common.{subst, append-nil}
use Rattle.std.proofs.KnownBytes.{Appends-nil, Appends-trans}
use Rattle.std.specs.Io.KnownBytes.{Appends, append_known}
use Rattle.std.specs.Result.{result_and}
use Rattle.bhtable.specs.Answers.{AreAnswers, ScriptTable}
use Rattle.bhtable.specs.InputLines.{lines_of}
use Rattle.bhtable.specs.Growing.{HasGrown}
use Rattle.bhtable.specs.Layout.Replies.{IsLeftBy, IsPushed}
use Rattle.bhtable.specs.Layout.Sessions.{HasRepliedSome}
use Rattle.bhtable.specs.Layout.Stops.{IsInput, IsOutputUpTo, IsReported}
use Rattle.bhtable.specs.Outputs.{HasAnswered, HasAnsweredSome, HasBadLine, HasBegun, IsOutputOf, IsServed, IsWhole}
use Rattle.bhtable.specs.OutputLines.{line_of}
use Rattle.bhtable.specs.Texts.{bad_line}
use Rattle.bhtable.specs.declared.stop.Stop.{Stop}
use Rattle.bhtable.specs.declared.stop.Stop.TheVariants.{BadLine, NoMemory, InputFailed, OutputFailed}
use Rattle.bhtable.proofs.Growing.{grown_more, grown_out, grown_waiting, would_grow}
use Rattle.bhtable.proofs.Replying.{answered_out}
use Rattle.bhtable.proofs.Closing.{HasToldBad, IsReady, ready_grown}

-- the answers of the first lines, and the last line, as far as the output has them
begun : (lines first others : List (List ℕ)) (start output : Option (List ℕ)) (lost text last : List ℕ) (table : Option ScriptTable)
    (status : ℕ) → ((whole : Option (List ℕ)) → HasAnsweredSome lines start whole last → IsWhole lines start whole status)
    → lines ≡ first ++ others → AreAnswers None first text table → HasGrown start [] output lost (text ++ last)
    → HasBegun lines start output
begun lines first others start output lost text last table status made parts answers grown = record {
  written = grown.taken;
  rest = lost;
  status = status;
  grown = grown.written;
  whole = made (append_known output lost) (record {
    first = first;
    others = others;
    in_order = parts;
    answered =
        record { text = text; table = table; answers = answers; written = would_grow start output lost (text ++ last) grown };
  });
}

-- if no end is reported, the input might have failed
some_begun : (start output : Option (List ℕ)) (lost : List ℕ) (lines : List (List ℕ)) → HasRepliedSome start output lost lines
    → HasBegun lines start output
some_begun start output lost lines some =
    let last = line_of (codes "input failed") in
    let text = some.replied.text in
    begun lines some.first some.others start output (lost ++ last) text last some.table 4 (λ _ whole. inr (inr (inr (refl, whole))))
    some.in_order some.replied.answers
    (grown_more start output output [] lost (lost ++ last) text last some.replied.written (grown_waiting output lost last))

-- the last line is cut off
last_begun : (lines : List (List ℕ)) (start output output2 : Option (List ℕ)) (lost last : List ℕ) (status : ℕ)
    → ((whole : Option (List ℕ)) → HasAnsweredSome lines start whole last → IsWhole lines start whole status)
    → HasAnsweredSome lines start output [] → HasGrown output [] output2 lost last → HasBegun lines start output2
last_begun lines start output output2 lost last status made some cut =
    let text = some.answered.text in
    let before : HasGrown start [] output [] text = record {
      taken = text;
      written = subst (λ (t : List ℕ). Appends start output t) (append-nil text) some.answered.written;
      in_order = sym (append-nil text);
    } in
    begun lines some.first some.others start output2 lost text last some.answered.table status made some.in_order some.answered.answers
    (grown_more start output output2 [] [] lost text last before cut)

told_grown : (start output : Option (List ℕ)) (waiting : List ℕ) (lines : List (List ℕ)) (number : ℕ)
    (told : HasToldBad start output waiting lines number)
    → HasGrown start [] output waiting (told.bad.replied.text ++ bad_line number)
told_grown start output waiting lines number told =
    grown_more start told.before output [] told.between waiting told.bad.replied.text (bad_line number) told.bad.replied.written told.told

bad_whole : (start output whole : Option (List ℕ)) (waiting : List ℕ) (lines : List (List ℕ)) (number : ℕ)
    (told : HasToldBad start output waiting lines number)
    → Appends start whole (told.bad.replied.text ++ bad_line number) → HasBadLine lines start whole
bad_whole start output whole waiting lines number told written = record {
  first = told.bad.first;
  line = told.bad.line;
  others = told.bad.others;
  in_order = told.bad.in_order;
  answered = record {
    text = told.bad.replied.text;
    table = told.bad.table;
    answers = told.bad.replied.answers;
    written = rw (← told.bad.numbered) written;
  };
  unreadable = told.bad.unreadable;
}

-- the waiting text is lost
ready_begun : (ended : Result (Unit {0}) Stop) (start output : Option (List ℕ)) (lost : List ℕ) (lines : List (List ℕ))
    → IsReady ended start output lost lines → HasBegun lines start output
ready_begun (Ok done) start output lost lines (table, replied) = some_begun start output lost lines (record {
  first = lines;
  others = [];
  table = table;
  in_order = sym (append-nil lines);
  replied = replied;
})
ready_begun (Err (BadLine number)) start output lost lines told =
    let grown = told_grown start output lost lines number told in
    let text = told.bad.replied.text ++ bad_line number in
    record {
      written = grown.taken;
      rest = lost;
      status = 2;
      grown = grown.written;
      whole = inr (inl (
        refl,
        bad_whole start output (append_known output lost) lost lines number told (would_grow start output lost text grown),
      ));
    }
ready_begun (Err NoMemory) start output lost lines some = some_begun start output lost lines some
ready_begun (Err InputFailed) start output lost lines some = some_begun start output lost lines some
ready_begun (Err OutputFailed) start output lost lines (empty, (lost2, some)) = some_begun start output lost2 lines some

some_out : (start output : Option (List ℕ)) (lines : List (List ℕ)) → HasRepliedSome start output [] lines
    → HasAnsweredSome lines start output []
some_out start output lines some = record {
  first = some.first;
  others = some.others;
  in_order = some.in_order;
  answered = answered_out start output some.first some.table some.replied;
}

-- nothing waits any more
ready_out : (ended : Result (Unit {0}) Stop) (start output : Option (List ℕ)) (lines : List (List ℕ))
    → IsReady ended start output [] lines
    → MatchResult ended (λ _. HasAnswered lines start output []) (λ stop. IsOutputUpTo stop lines start output)
ready_out (Ok done) start output lines (table, replied) = answered_out start output lines table replied
ready_out (Err (BadLine number)) start output lines told =
    bad_whole start output output [] lines number told (grown_out start output _ (told_grown start output [] lines number told))
ready_out (Err NoMemory) start output lines some = some_out start output lines some
ready_out (Err InputFailed) start output lines some = some_out start output lines some
ready_out (Err OutputFailed) start output lines failed = ready_begun (Err OutputFailed) start output [] lines failed

-- the waiting text is written, as far as the writer accepts it
pub ready_written : (result ended : Result (Unit {0}) Stop) (start output output2 : Option (List ℕ))
    (waiting left : List ℕ) (lines : List (List ℕ)) → IsReady ended start output waiting lines
    → left ≡ [] → IsPushed result output waiting output2 left []
    → IfErr result (λ stop. stop ≡ OutputFailed)
    → MatchResult (result_and result ended) (λ _. HasAnswered lines start output2 []) (λ stop. IsOutputUpTo stop lines start output2)
ready_written (Ok done) ended start output output2 waiting left lines ready empty grown failed =
    ready_out ended start output2 lines (rw empty at (ready_grown ended start output output2 waiting left lines ready grown))
ready_written (Err stop) ended start output output2 waiting left lines ready empty cut failed =
    let rest = subst (λ (s : Stop). IsLeftBy s output waiting output2 left []) failed cut in
    let now = ready_grown ended start output output2 waiting rest.1.0 lines ready rest.1.1 in
    subst (λ (s : Stop). IsOutputUpTo s lines start output2) (sym failed) (ready_begun ended start output2 rest.1.0 lines now)

-- the last line after the others
some_then : (lines : List (List ℕ)) (start output output2 : Option (List ℕ)) (last : List ℕ) → HasAnsweredSome lines start output []
    → Appends output output2 last → HasAnsweredSome lines start output2 last
some_then lines start output output2 last some written = record {
  first = some.first;
  others = some.others;
  in_order = some.in_order;
  answered = record {
    text = some.answered.text;
    table = some.answered.table;
    answers = some.answered.answers;
    written = subst (λ (text : List ℕ). Appends start output2 (text ++ last)) (append-nil some.answered.text)
        (Appends-trans start output output2 (some.answered.text ++ []) last some.answered.written written);
  };
}

reported : (stop : Stop) (lines : List (List ℕ)) (start output output2 : Option (List ℕ)) (status : ℕ)
    → IsOutputUpTo stop lines start output → IsReported stop status output output2 → IsOutputOf lines start output2 status
reported (BadLine number) lines start output output2 status bad (is, same) = inl (inr (inl (is, rw same bad)))
reported NoMemory lines start output output2 status some (inl (is, written)) =
    inl (inr (inr (inl (is, some_then lines start output output2 _ some written))))
reported NoMemory lines start output output2 status some (inr (is, (lost, cut))) =
    inr (is, last_begun lines start output output2 lost _ 3 (λ _ whole. inr (inr (inl (refl, whole)))) some cut)
reported InputFailed lines start output output2 status some (inl (is, written)) =
    inl (inr (inr (inr (is, some_then lines start output output2 _ some written))))
reported InputFailed lines start output output2 status some (inr (is, (lost, cut))) =
    inr (is, last_begun lines start output output2 lost _ 4 (λ _ whole. inr (inr (inr (refl, whole)))) some cut)
reported OutputFailed lines start output output2 status failed (is, same) = inr (is, rw same failed)

pub served : (stop : Stop) (input start output output2 : Option (List ℕ)) (bytes : List ℕ) (status : ℕ) → IsInput input bytes
    → IsOutputUpTo stop (lines_of bytes) start output → IsReported stop status output output2 → IsServed input start output2 status
served stop input start output output2 bytes status is upto told =
    (bytes, is, reported stop (lines_of bytes) start output output2 status upto told)

-- before anything is read
some_bytes : (input : Option (List ℕ)) → (bytes : List ℕ) × IsInput input bytes
some_bytes None = ([], tt)
some_bytes (Some bytes) = (bytes, refl)

pub nothing_answered : (input start : Option (List ℕ))
    → (bytes : List ℕ) × IsInput input bytes × HasAnsweredSome (lines_of bytes) start start []
nothing_answered input start =
    let some = some_bytes input in (
      some.0,
      some.1,
      record {
        first = [];
        others = lines_of some.0;
        in_order = refl;
        answered = record { text = []; table = None; answers = (refl, refl); written = Appends-nil start };
      },
    )
