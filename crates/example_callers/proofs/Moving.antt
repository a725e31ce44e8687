-- What one move more does to what is held.
use Rattle.std.proofs.Common.{Bool, List, Option, ap, arith, cond, drop, false, get_or, if◌then◌else◌, inl, inr, length, not, sym, true}
use Rattle.std.proofs.Common.{ℕ, ◌&&◌, ◌+◌, ◌<◌, ◌∙◌, ◌∷◌, ◌≡◌}
use Rattle.std.specs.Cmp.{IsEquivalence}
use Rattle.std.specs.Option.{unwrap_or}
use Rattle.std.proofs.lemmas.Bool.{cases_Bool}
use Rattle.std.proofs.lemmas.List.{drop_more}
use Rattle.collections.specs.Maps.{MapView}
use Rattle.collections.proofs.Lookups.{lookup_same}
use Rattle.example_callers.specs.Held.{held, HoldsThen}
use Rattle.example_callers.specs.Moves.{moved}
use Rattle.example_callers.specs.declared.ledger.Move.{Move}

module _ {K : Type 0} (eq : K → K → Bool) (laws : IsEquivalence eq) (moves : List (Move K)) (i : ℕ) (m : Move K)
    (below : i < length moves) (item : m ≡ get_or moves i m) where
  -- the moves from a place on are the move there and the others
  pub moved_by : (kind hit added : Bool) (name : K) → eq m.name name ≡ hit → m.is_added ≡ added
      → moved eq kind (drop i moves) name
      ≡ (if hit && (if kind then added else not added) then m.count else 0) + moved eq kind (drop (i + 1) moves) name
  moved_by kind hit added name h a =
      ap (λ (ms : List (Move K)). moved eq kind ms name)
      (drop_more moves i m below ∙ ap (λ (x : Move K). x ∷ drop (i + 1) moves) (sym item))
      ∙ (λ j. (if (h j) && (if kind then (a j) else not (a j)) then m.count else 0) + moved eq kind (drop (i + 1) moves) name)

  module _ {H : Type 0} (old new : MapView K ℕ H) (number : ℕ) (writes : HoldsThen eq old m.name number new) (name : K) (start all none : ℕ)
      (before : held eq old name + moved eq true (drop i moves) name + none ≡ start + all + moved eq false (drop i moves) name) where
    same_held : eq m.name name ≡ true → held eq old m.name ≡ held eq old name
    same_held hit = ap (λ (o : Option ℕ). unwrap_or o 0) (lookup_same eq laws m.name name old.entries hit)

    is_number : eq m.name name ≡ true → held eq new name ≡ number
    is_number hit = writes name ∙ ap (λ (b : Bool). cond b number (held eq old name)) hit

    is_held : eq m.name name ≡ false → held eq new name ≡ held eq old name
    is_held miss = writes name ∙ ap (λ (b : Bool). cond b number (held eq old name)) miss

    pub added : m.is_added ≡ true → number ≡ held eq old m.name + m.count
        → held eq new name + moved eq true (drop (i + 1) moves) name + none ≡ start + all + moved eq false (drop (i + 1) moves) name
    added kind sum = elim (cases_Bool (eq m.name name)) [
      | inl hit ↦ omega (
        arith,
        before,
        sum,
        same_held hit,
        is_number hit,
        moved_by true true true name hit kind,
        moved_by false true true name hit kind,
      )
      | inr miss ↦ omega (arith, before, is_held miss, moved_by true false true name miss kind, moved_by false false true name miss kind)
    ]

    pub taken : m.is_added ≡ false → number + m.count ≡ held eq old m.name
        → held eq new name + moved eq true (drop (i + 1) moves) name + none ≡ start + all + moved eq false (drop (i + 1) moves) name
    taken kind left = elim (cases_Bool (eq m.name name)) [
      | inl hit ↦ omega (
        arith,
        before,
        left,
        same_held hit,
        is_number hit,
        moved_by true true false name hit kind,
        moved_by false true false name hit kind,
      )
      | inr miss ↦ omega (arith, before, is_held miss, moved_by true false false name miss kind, moved_by false false false name miss kind)
    ]
