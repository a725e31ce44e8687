-- Replies appended one by one.
use Rattle.std.proofs.Common.{◌≡◌, ℕ, ◌+◌, ◌<◌, List, [], ◌∷◌, ◌++◌, Option, get_or, length, take, sym, ap, ◌∙◌, append_assoc, append-nil}
use Rattle.std.proofs.lemmas.List.{take_more}
use Rattle.bucket_table.specs.declared.script.reply.Reply.{Reply}
use Rattle.bhtable.specs.Growing.{HasGrown}
use Rattle.bhtable.specs.Layout.Replies.{IsLeftBy, lines_of_replies}
use Rattle.bhtable.specs.OutputLines.{line_of}
use Rattle.bhtable.specs.Texts.{text_of}
use Rattle.bhtable.specs.declared.stop.Stop.{Stop}
use Rattle.bhtable.specs.declared.stop.Stop.TheVariants.{BadLine, NoMemory, InputFailed, OutputFailed}
use Rattle.bhtable.proofs.Growing.{grown_more, grown_same}

lines_of_replies-push : (replies : List (Reply ℕ ℕ)) (reply : Reply ℕ ℕ)
    → lines_of_replies (replies ++ reply ∷ []) ≡ lines_of_replies replies ++ line_of (text_of reply)
lines_of_replies-push [] reply = append-nil (line_of (text_of reply))
lines_of_replies-push (first ∷ replies) reply =
    ap (λ (text : List ℕ). line_of (text_of first) ++ text) (lines_of_replies-push replies reply)
    ∙ sym (append_assoc (line_of (text_of first)) (lines_of_replies replies) (line_of (text_of reply)))

pub one_pushed : (start now next : Option (List ℕ)) (waiting waiting2 waiting3 : List ℕ) (replies : List (Reply ℕ ℕ)) (index : ℕ)
    (default : Reply ℕ ℕ)
    → index < length replies → HasGrown start waiting now waiting2 (lines_of_replies (take index replies))
    → HasGrown now waiting2 next waiting3 (line_of (text_of (get_or replies index default)))
    → HasGrown start waiting next waiting3 (lines_of_replies (take (index + 1) replies))
one_pushed start now next waiting waiting2 waiting3 replies index default inside before grown =
    rw (take_more replies index default inside, lines_of_replies-push (take index replies) (get_or replies index default))
    (grown_more start now next waiting waiting2 waiting3 _ _ before grown)

-- a stop before the next reply
pub left_more : (stop : Stop) (start now next : Option (List ℕ)) (waiting waiting2 waiting3 lines : List ℕ)
    → HasGrown start waiting now waiting2 lines → IsLeftBy stop now waiting2 next waiting3 []
    → IsLeftBy stop start waiting next waiting3 lines
left_more (BadLine number) start now next waiting waiting2 waiting3 lines before never = never
left_more NoMemory start now next waiting waiting2 waiting3 lines before kept =
    grown_same start now next waiting waiting2 waiting3 lines before kept
left_more InputFailed start now next waiting waiting2 waiting3 lines before never = never
left_more OutputFailed start now next waiting waiting2 waiting3 lines before (empty, (lost, kept)) =
    (empty, (lost, grown_same start now next waiting waiting2 lost lines before kept))
