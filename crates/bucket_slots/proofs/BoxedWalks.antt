-- Rows on both sides of a place in a list of blocks.
use Rattle.bucket_slots.proofs.Words.{Box, List, None, Option, Some, [], ap, append_assoc, arith, drop, drop-drop, drop_all, get_or}
use Rattle.bucket_slots.proofs.Words.{get_or-drop, get_or_read, length, length-drop, refl, rows_of, suc, sym, take, take-add, ℕ, ◌++◌}
use Rattle.bucket_slots.proofs.Words.{◌+◌, ◌-◌, ◌<◌, ◌∙◌, ◌∷◌, ◌≡◌, ◌≤◌}
use Rattle.bucket_slots.specs.declared.bucket.blocks.Block.{Block}
use Rattle.bucket_slots.specs.Layout.LinkLoans.{link_with_next, link_with_row}

pub link_with_next-rows : {T A : Type 0} (link : Option (Box (Block T) A)) (rows : List T) → 0 < length (rows_of link)
    → rows_of (link_with_next link rows) ≡ take 1 (rows_of link) ++ rows
link_with_next-rows None rows some = absurd (omega (arith, some))
link_with_next-rows (Some block) rows some = refl

-- some rows, one row, and some more, each after those before
pub take-walked : {T : Type 0} (rows rest : List T) (count half : ℕ) → half < count
    → take half rows ++ (take 1 (drop half rows) ++ (take (count - half - 1) (drop 1 (drop half rows)) ++ rest)) ≡ take count rows ++ rest
take-walked rows rest count half below =
    let more : half + (1 + (count - half - 1)) ≡ count = omega arith in
    let later = take-add 1 (count - half - 1) (drop half rows) in
    let all = take-add half (1 + (count - half - 1)) rows in
    sym (ap (λ n. take n rows ++ rest) (sym more) ∙ ap (λ l. l ++ rest) (all ∙ ap (λ l. take half rows ++ l) later)
    ∙ append_assoc (take half rows) _ rest ∙ ap (λ l. take half rows ++ l) (append_assoc (take 1 (drop half rows)) _ rest))

pub drop-walked : {T : Type 0} (rows : List T) (count half : ℕ) → half < count
    → drop (count - half - 1) (drop 1 (drop half rows)) ≡ drop count rows
drop-walked rows count half below =
    let more : half + 1 + (count - half - 1) ≡ count = omega arith in
    ap (drop (count - half - 1)) (drop-drop 1 half rows) ∙ drop-drop (count - half - 1) (half + 1) rows ∙ ap (λ n. drop n rows) more

pub link_with_row-rows : {T A : Type 0} (link : Option (Box (Block T) A)) (row : T) → 0 < length (rows_of link)
    → rows_of (link_with_row link row) ≡ row ∷ drop 1 (rows_of link)
link_with_row-rows None row some = absurd (omega (arith, some))
link_with_row-rows (Some block) row some = refl

-- what is first after some rows is the next one
pub row_behind : {T : Type 0} (rows behind : List T) (row : T) (index : ℕ) → drop index rows ≡ row ∷ behind → row ≡ get_or rows index row
row_behind rows behind row index here =
    let there : index + 0 ≡ index = omega arith in
    ap (λ l. get_or l 0 row) (sym here) ∙ get_or-drop index rows 0 row ∙ ap (λ n. get_or rows n row) there

pub drop_behind : {T : Type 0} (rows behind : List T) (row : T) (index : ℕ) → drop index rows ≡ row ∷ behind
    → behind ≡ drop (index + 1) rows
drop_behind rows behind row index here = ap (drop 1) (sym here) ∙ drop-drop 1 index rows

pub drop_past_end : {T : Type 0} (rows : List T) (index count : ℕ) → index ≤ count → drop index rows ≡ [] → drop count rows ≡ []
drop_past_end rows index count later here = drop_all count rows (omega (arith, length-drop index rows, ap length here))

-- a link that holds a block has its row first
pub length-some : {T A : Type 0} (rows : List T) (link : Option (Box (Block T) A)) (block : Box (Block T) A)
    → rows_of link ≡ rows → link ≡ Some block → rows ≡ block.value.row ∷ block.value.next
length-some rows link block same some = sym same ∙ ap rows_of some

-- the row that is read or lent is the one at its index
pub row_read : {T : Type 0} (rows now : List (List T)) (index : ℕ) (row : List T) → rows ≡ now → index < length now
    → row ≡ get_or rows index row → row ≡ get_or now index []
row_read rows now index row same within is = rw (← same) (get_or_read rows index row (rw same within) is [])

-- there are fewer rows after a link's first block
pub fewer_behind : {T A : Type 0} (rows behind : List T) (link : Option (Box (Block T) A)) (block : Box (Block T) A)
    → rows_of link ≡ rows → link ≡ Some block → behind ≡ block.value.next → suc (length behind) ≤ length rows
fewer_behind rows behind link block same some rest = omega (arith, ap length (length-some rows link block same some), ap length rest)
