-- Going over the words of a line byte by byte.
use Rattle.std.proofs.Common.{◌≡◌, ℕ, ◌+◌, ◌<◌, List, [], ◌∷◌, ◌++◌, Bool, cond, length, drop, get_or, ap, ◌∙◌}
use Rattle.std.proofs.lemmas.List.{at_drop_more}
use Rattle.bhtable.specs.Words.{is_blank, with_word, words_after, words_of}

-- the words, if the first byte that isn't passed is a blank or not
pub at_byte : (bytes word : List ℕ) (at : ℕ) (blank : Bool) → at < length bytes → is_blank (get_or bytes at 0) ≡ blank
    → words_after word (drop at bytes)
    ≡ cond blank (with_word word (words_of (drop (at + 1) bytes))) (words_after (word ++ get_or bytes at 0 ∷ []) (drop (at + 1) bytes))
at_byte bytes word at blank inside is_blank =
    at_drop_more (words_after word) bytes at 0 inside
    ∙ ap (λ (b : Bool). cond b (with_word word (words_of (drop (at + 1) bytes)))
    (words_after (word ++ get_or bytes at 0 ∷ []) (drop (at + 1) bytes))) is_blank
