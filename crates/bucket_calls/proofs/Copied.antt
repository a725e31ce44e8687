-- What is in a buffer after the pairs of a list were copied to it in turn.
use Rattle.std.proofs.Common.{ℕ, zero, suc, ◌≡◌, ◌+◌, ◌-◌, ◌<◌, ◌≤◌, ◌∙◌, List, [], ◌∷◌, ◌++◌, length, map, take, drop}
use Rattle.std.proofs.Common.{refl, sym, ap, subst, arith, length-take, length-set}
use Rattle.std.proofs.lemmas.Bool.{le-ltb, lt-ltb}
use Rattle.std.proofs.lemmas.List.{drop_all, length-map, take_all}
use Rattle.std.proofs.lemmas.List.Edits.{sets, sets-eq}
use Rattle.std.specs.List.{FoldsTo}
use Rattle.std.specs.Prelude.{slice_set}
use Rattle.bucket_calls.specs.Copying.{CopiesPairs, pair_of}
use Rattle.bucket_calls.specs.Steps.{next_copied}
use Rattle.bucket_calls.specs.declared.copying.Pair.{Pair}

abbrev State : Type 0
State = ℕ × ℕ × List Pair

abbrev Copies : State → List (ℕ × ℕ) → State → Type 0
Copies first pairs last = FoldsTo (λ before pair after. after ≡ next_copied before pair) first pairs last

-- no pairs leave nothing
abbrev nothing : List (ℕ × ℕ)
nothing = []

none_left : (n skip : ℕ) → take n (drop skip nothing) ≡ nothing
none_left n skip = ap (λ (ps : List (ℕ × ℕ)). take n ps) (drop_all skip nothing (omega arith)) ∙ take_all n nothing (omega arith)

passes : (skip at : ℕ) (out : List Pair) (pair : ℕ × ℕ) → next_copied (suc skip, at, out) pair ≡ (skip, at, out)
passes skip at out pair = let less : suc skip - 1 ≡ skip = omega arith in rw (lt-ltb 0 (suc skip) (omega arith)) (λ i. (less i, at, out))

full : (at : ℕ) (out : List Pair) (pair : ℕ × ℕ) → length out ≤ at → next_copied (0, at, out) pair ≡ (0, at, out)
full at out pair le = rw (le-ltb at (length out) le) refl

writes : (at : ℕ) (out : List Pair) (pair : ℕ × ℕ) → at < length out
    → next_copied (0, at, out) pair ≡ (0, suc at, slice_set out at (pair_of pair))
writes at out pair lt =
    let more : at + 1 ≡ suc at = omega arith in
    rw (lt-ltb at (length out) lt) (λ i. (0, more i, slice_set out at (pair_of pair)))

pub copied : (skip at n : ℕ) (out : List Pair) (pairs : List (ℕ × ℕ)) (last : State) → at + n ≡ length out
    → Copies (skip, at, out) pairs last
    → (last.1 ≡ at + length (take n (drop skip pairs))) × (last.2 ≡ sets out at (map pair_of (take n (drop skip pairs))))
copied skip at n out [] last room went =
    rw (none_left n skip) (omega (arith, ap (λ (s : State). s.1) went), ap (λ (s : State). s.2) (sym went))
copied (suc skip) at n out (pair ∷ pairs) last room went =
    copied skip at n out pairs last room (subst (λ s. Copies s pairs last) (went.1 ∙ passes skip at out pair) went.2)
copied zero at zero out (pair ∷ pairs) last room went =
    copied zero at zero out pairs last room (subst (λ s. Copies s pairs last) (went.1 ∙ full at out pair (omega arith)) went.2)
copied zero at (suc n) out (pair ∷ pairs) last room went =
    let rest = copied zero (suc at) n (slice_set out at (pair_of pair)) pairs last (omega (arith, length-set out at (pair_of pair)))
    (subst (λ s. Copies s pairs last) (went.1 ∙ writes at out pair (omega arith)) went.2) in
    (omega (arith, rest.0), rest.1)

-- from a place of the list on, as many as there is room for
pub pairs_copied : (start : ℕ) (out : List Pair) (pairs : List (ℕ × ℕ)) (last : State) → Copies (start, 0, out) pairs last
    → {count : ℕ} → count ≡ last.1 → {new : List Pair} → new ≡ last.2 → CopiesPairs start pairs out count new
pairs_copied start out pairs last went count_is new_is =
    let asked : List (ℕ × ℕ) = take (length out) (drop start pairs) in
    let front : List Pair = map pair_of asked in
    let all = copied start 0 (length out) out pairs last (omega arith) went in
    let fits : 0 + length front ≤ length out = omega (arith, length-map asked pair_of, length-take (length out) (drop start pairs)) in
    let from_zero : 0 + length front ≡ length front = omega arith in
    record {
      asked = asked;
      are = refl;
      count_is = omega (arith, count_is, all.0);
      written = new_is ∙ all.1 ∙ sets-eq front out 0 fits ∙ ap (λ k. front ++ drop k out) from_zero;
    }
