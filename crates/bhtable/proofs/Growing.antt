-- Texts on their way to a writer, and the parts of them that are in the output.
use Rattle.std.proofs.Common.{◌≡◌, ℕ, List, [], ◌++◌, Option, Some, None, Result, Ok, Err, IfErr, refl, sym, subst, ap, ◌∙◌, append_assoc}
use Rattle.std.proofs.Common.{append-nil, ◌-◌, length, take, drop, take-append-drop}
use Rattle.std.proofs.lemmas.List.{take_rest}
use Rattle.std.proofs.KnownBytes.{Appends-kept, Appends-nil, Appends-trans}
use Rattle.std.specs.Io.KnownBytes.{Appends, Keeps, append_known}
use Rattle.bhtable.specs.Growing.{HasGrown, IsWritten}
use Rattle.bhtable.specs.declared.stop.Stop.{Stop}
use Rattle.bhtable.specs.declared.stop.Stop.TheVariants.{OutputFailed}

-- nothing was appended, and nothing was written
pub nothing_grown : (output : Option (List ℕ)) (waiting : List ℕ) → HasGrown output waiting output waiting []
nothing_grown output waiting = record { taken = []; written = Appends-nil output; in_order = append-nil waiting }

-- a text was appended, and all of it waits
pub grown_waiting : (output : Option (List ℕ)) (waiting text : List ℕ) → HasGrown output waiting output (waiting ++ text) text
grown_waiting output waiting text = record { taken = []; written = Appends-nil output; in_order = refl }

-- one text behind another
pub grown_more : (output output2 output3 : Option (List ℕ)) (waiting waiting2 waiting3 text more : List ℕ)
    → HasGrown output waiting output2 waiting2 text → HasGrown output2 waiting2 output3 waiting3 more
    → HasGrown output waiting output3 waiting3 (text ++ more)
grown_more output output2 output3 waiting waiting2 waiting3 text more first second = record {
  taken = first.taken ++ second.taken;
  written = Appends-trans output output2 output3 first.taken second.taken first.written second.written;
  in_order = sym (append_assoc waiting text more) ∙ ap (λ (l : List ℕ). l ++ more) first.in_order
      ∙ append_assoc first.taken waiting2 more ∙ ap (λ (l : List ℕ). first.taken ++ l) second.in_order
      ∙ sym (append_assoc first.taken second.taken waiting3);
}

-- a text, and then nothing
pub grown_same : (output output2 output3 : Option (List ℕ)) (waiting waiting2 waiting3 text : List ℕ)
    → HasGrown output waiting output2 waiting2 text → HasGrown output2 waiting2 output3 waiting3 []
    → HasGrown output waiting output3 waiting3 text
grown_same output output2 output3 waiting waiting2 waiting3 text first second =
    subst (λ (t : List ℕ). HasGrown output waiting output3 waiting3 t) (append-nil text)
    (grown_more output output2 output3 waiting waiting2 waiting3 text [] first second)

-- nothing waits any more
pub grown_out : (output output2 : Option (List ℕ)) (text : List ℕ) → HasGrown output [] output2 [] text → Appends output output2 text
grown_out output output2 text grown =
    subst (λ (t : List ℕ). Appends output output2 t) (sym (grown.in_order ∙ append-nil grown.taken)) grown.written

-- with what is left, the output would have grown by all of the text
pub would_grow : (output output2 : Option (List ℕ)) (left text : List ℕ) → HasGrown output [] output2 left text
    → Appends output (append_known output2 left) text
would_grow None output2 left text grown = tt
would_grow (Some old) None left text grown = absurd grown.written
would_grow (Some old) (Some new) left text grown =
    ap (λ (l : List ℕ). l ++ left) grown.written ∙ append_assoc old grown.taken left
    ∙ ap (λ (l : List ℕ). old ++ l) (sym grown.in_order)

-- a write took the front of what is left
pub front_taken : (start output output2 : Option (List ℕ)) (left text : List ℕ) (count : ℕ) → HasGrown start [] output left text
    → Appends output output2 (take count left) → HasGrown start [] output2 (take (length left - count) (drop count left)) text
front_taken start output output2 left text count grown written = record {
  taken = grown.taken ++ take count left;
  written = Appends-trans start output output2 grown.taken (take count left) grown.written written;
  in_order = rw take_rest (grown.in_order ∙ ap (λ (l : List ℕ). grown.taken ++ l) (sym (take-append-drop count left))
      ∙ sym (append_assoc grown.taken (take count left) (drop count left)));
}

-- nothing more was accepted
pub grown_kept : (old new new2 : Option (List ℕ)) (waiting left text : List ℕ) → HasGrown old waiting new left text → Keeps new new2
    → HasGrown old waiting new2 left text
grown_kept old new new2 waiting left text grown kept = record {
  taken = grown.taken;
  written = Appends-kept old new new2 grown.taken grown.written kept;
  in_order = grown.in_order;
}

-- a flush that fails loses nothing
pub flushed_line : (result : Result (Unit {0}) Stop) (old new new2 : Option (List ℕ)) (line : List ℕ) → Appends old new line
    → Keeps new new2 → IfErr result (λ stop. stop ≡ OutputFailed) → IsWritten result old new2 line
flushed_line (Ok done) old new new2 line written kept failed = Appends-kept old new new2 line written kept
flushed_line (Err stop) old new new2 line written kept failed =
    let grown : HasGrown old [] new2 [] line =
    record { taken = line; written = Appends-kept old new new2 line written kept; in_order = sym (append-nil line) } in
    (failed, ([], grown))
