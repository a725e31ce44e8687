-- How far the lines of an input are read, and what is left of them.
use Rattle.std.proofs.Common.{◌≡◌, ℕ, ◌<◌, ◌⊎◌, inl, inr, List, [], ◌∷◌, ◌++◌, Bool, true, false, Option, Some, None, length, take, drop}
use Rattle.std.proofs.Common.{refl, sym, ap, ◌∙◌, append_assoc}
use Rattle.std.proofs.KnownBytes.{Consumes-nil, Consumes-trans}
use Rattle.std.specs.Io.KnownBytes.{Consumes, IsAtEnd}
use Rattle.bhtable.specs.InputLines.{lines_of}
use Rattle.bhtable.specs.Found.{IsFoundIn}
use Rattle.bhtable.specs.Layout.Stops.{IsInput}
use Rattle.bhtable.specs.declared.lines.Found.TheVariants.{Line as FoundLine}
use Rattle.bhtable.specs.declared.lines.Line.{Line}
use Rattle.bhtable.proofs.Finding.{found_line}

-- these bytes were read from the reader that had `start`, and their lines are those passed before, and those of `unread` and what follows
pub record HasRead (start left : Option (List ℕ)) (is_ended : Bool) (unread : List ℕ) (before : List (List ℕ)) : Type 0 where
  pub bytes : List ℕ
  pub consumed : Consumes start left bytes
  pub ended : is_ended ≡ true → IsAtEnd left
  pub split : (more : List ℕ) → (is_ended ≡ true → more ≡ []) → lines_of (bytes ++ more) ≡ before ++ lines_of (unread ++ more)

pub nothing_read : (start : Option (List ℕ)) (is_ended : Bool) (unread : List ℕ) → unread ≡ [] → is_ended ≡ false
    → HasRead start start is_ended unread []
nothing_read start is_ended unread none goes_on = record {
  bytes = [];
  consumed = Consumes-nil start;
  ended = λ end. absurd (cc);
  split = λ more last. sym (ap (λ (l : List ℕ). lines_of (l ++ more)) none);
}

-- what a read adds, or that it reached the end
pub more_read : (start left left2 : Option (List ℕ)) (is_ended is_ended2 : Bool) (unread unread2 more : List ℕ) (before : List (List ℕ))
    → HasRead start left is_ended unread before → is_ended ≡ false → unread2 ≡ unread ++ more → Consumes left left2 more
    → ((is_ended2 ≡ true) × IsAtEnd left2) ⊎ ((is_ended2 ≡ is_ended) × (0 < length more))
    → HasRead start left2 is_ended2 unread2 before
more_read start left left2 is_ended is_ended2 unread unread2 more before read goes_on grown taken progress = record {
  bytes = read.bytes ++ more;
  consumed = Consumes-trans start left left2 read.bytes more read.consumed taken;
  ended = λ end. elim progress [ inl at_end ↦ at_end.1 | inr same ↦ absurd (cc) ];
  split = λ others last.
      ap (λ (l : List ℕ). lines_of l) (append_assoc read.bytes more others)
      ∙ read.split (more ++ others) (λ end. absurd (cc))
      ∙ ap (λ (l : List ℕ). before ++ lines_of l)
      (sym (append_assoc unread more others) ∙ ap (λ (l : List ℕ). l ++ others) (sym grown));
}

pub line_passed : (start left : Option (List ℕ)) (is_ended : Bool) (unread : List ℕ) (before : List (List ℕ)) (line : Line)
    → HasRead start left is_ended unread before → IsFoundIn is_ended unread (FoundLine line)
    → HasRead start left is_ended (drop line.whole_len unread) (before ++ take line.len unread ∷ [])
line_passed start left is_ended unread before line read found = record {
  bytes = read.bytes;
  consumed = read.consumed;
  ended = read.ended;
  split = λ more last.
      read.split more last
      ∙ ap (λ (ls : List (List ℕ)). before ++ ls) (found_line is_ended unread more line found last)
      ∙ sym (append_assoc before (take line.len unread ∷ []) _);
}

-- all of an input, of which `more` isn't read
pub record IsAll (start : Option (List ℕ)) (is_ended : Bool) (unread : List ℕ) (before : List (List ℕ)) : Type 0 where
  pub bytes : List ℕ
  pub more : List ℕ
  pub input : IsInput start bytes
  pub in_order : lines_of bytes ≡ before ++ lines_of (unread ++ more)
  pub last : is_ended ≡ true → more ≡ []

all_is : (start left : Option (List ℕ)) (bytes : List ℕ) → Consumes start left bytes
    → (more : List ℕ) × IsInput start (bytes ++ more) × (IsAtEnd left → more ≡ [])
all_is None left bytes consumed = ([], tt, λ end. refl)
all_is (Some all) None bytes consumed = absurd consumed
all_is (Some all) (Some more) bytes consumed = (more, consumed, λ end. end)

pub all_lines : (start left : Option (List ℕ)) (is_ended : Bool) (unread : List ℕ) (before : List (List ℕ))
    → HasRead start left is_ended unread before → IsAll start is_ended unread before
all_lines start left is_ended unread before read =
    let rest = all_is start left read.bytes read.consumed in
    record {
      bytes = read.bytes ++ rest.0;
      more = rest.0;
      input = rest.1;
      in_order = read.split rest.0 (λ end. rest.2 (read.ended end));
      last = λ end. rest.2 (read.ended end);
    }
