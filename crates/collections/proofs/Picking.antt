-- A function is called for the rest, up to the first that it picks: what a step of an iterator leaves, and a closure of keys.
use Rattle.std.proofs.Common.{Bool, List, None, OnSome, Option, Some, [], ap, arith, false, length, refl, subst, sym, true, ℕ}
use Rattle.std.proofs.Common.{◌*◌, ◌<◌, ◌∷◌, ◌≡◌}
use denote.Param.Always.{always_mut, mut_next}
use Rattle.std.proofs.Math.Logic.{∥∥₁_elim}
use Rattle.std.proofs.lemmas.Map.Keys.{IsDistinct-prop}
use Rattle.std.specs.Bool.{MatchBool}
use Rattle.std.specs.Borrow.{Bor, MutBor}
use Rattle.std.specs.Fn.{Mut}
use Rattle.std.specs.Iterator.{MakesProgress, at_most}
use Rattle.std.specs.List.Retain.{ExtractsNext}
use Rattle.bucket_table.specs.Views.ArraysView.{ArraysView, IsOneMap}
use Rattle.bucket_table.specs.Walking.Extracting.{AsksPair, KeepsShape}
use Rattle.collections.specs.Extracting.{AsksKey, KeepsSlots}
use Rattle.collections.specs.Maps.{map_of}

-- arrays of which only the buckets have changed, and that are one map
pub slots_kept : {K V H : Type 0} (eq : K → K → Bool) (hash : K → ℕ) (hasher : H) (old new : ArraysView K V) → KeepsShape old new
    → ∥ IsOneMap eq hash new ∥₁
    → KeepsSlots eq (map_of (record { hasher = hasher; arrays = old })) (map_of (record { hasher = hasher; arrays = new }))
slots_kept eq hash hasher old new shape one = record {
  kept = record {
    unique = ∥∥₁_elim one (IsDistinct-prop eq _) (λ m. m.distinct);
    hasher = refl;
    minimum = shape.minimum;
    maximum = shape.maximum;
  };
  slots = ap (λ n. 32 * n) shape.current_len;
  old_slots = ap (λ n. 32 * n) shape.linked_len;
}

-- if something is picked, less is left

one_less : {X : Type 0} (picked : Option X) (x : X) (left still : List X) → OnSome picked (length still < length left)
    → OnSome picked (length still < length (x ∷ left))
one_less None x left still less = tt
one_less (Some found) x left still less = omega (arith, less)

module _ {S X : Type 0} (asks : S → X → Bool → S → X → Type 0) where
  less_behind : (answer : Bool) (between last : S) (later x : X) (left kept still : List X) (picked : Option X)
      → ((more : List X) → ExtractsNext asks between left picked last more still → OnSome picked (length still < length left))
      → MatchBool answer ((picked ≡ Some later) × (last ≡ between) × (kept ≡ []) × (still ≡ left))
      ((more : List X) × ExtractsNext asks between left picked last more still × (kept ≡ later ∷ more))
      → OnSome picked (length still < length (x ∷ left))
  less_behind true between last later x left kept still picked less (is, same, none, rest) = rw is (omega (arith, ap length rest))
  less_behind false between last later x left kept still picked less (more, asked, is) = one_less picked x left still (less more asked)

  pub less_left : (first : S) (left : List X) (picked : Option X) (last : S) (kept still : List X)
      → ExtractsNext asks first left picked last kept still → OnSome picked (length still < length left)
  less_left first [] picked last kept still (none, same, no_more, rest) = rw none tt
  less_left first (x ∷ left) picked last kept still (answer, between, later, call, then_so) =
      less_behind answer between last later x left kept still picked
      (λ more asked. less_left between left picked last more still asked) then_so

-- so a loop over such steps ends
pub goes_on : {S A : Type 0} {can : S → Type 0} {left : S → ℕ} {s t : S} (picked : Option A) → can t → OnSome picked (left t < left s)
    → MakesProgress can (λ z. at_most (left z)) s picked t
goes_on None may less = record { on = λ _. tt; keeps = tt; rests = λ _. tt }
goes_on (Some found) may less = record { on = λ _. (may, tt, less); keeps = may; rests = λ _. tt }

module _ {S F K V : Type 0} (inside : S → F) (IsKept : S → Type 0) (step : S → Bor K → MutBor V → Bool → MutBor V → S → Type 0)
    (R : F → K × V → Bool → F → K × V → Type 0)
    (says : (s : S) (own : Bor K) (before : MutBor V) (answer : Bool) (after : MutBor V) (t : S) → IsKept s
    → step s own before answer after t
    → IsKept t × R (inside s) (own.now, before.now) answer (inside t) (own.now, after.now))
  where
    -- at the pair that is picked, and past one that isn't
    picked_or_kept : (answer : Bool) (between last : S) (later : K × V) (pairs kept still : List (K × V)) (picked : Option (K × V))
        → ((more : List (K × V)) → ExtractsNext (AsksPair step) between pairs picked last more still
        → IsKept last × ExtractsNext R (inside between) pairs picked (inside last) more still)
        → IsKept between
        → MatchBool answer ((picked ≡ Some later) × (last ≡ between) × (kept ≡ []) × (still ≡ pairs))
        ((more : List (K × V)) × ExtractsNext (AsksPair step) between pairs picked last more still × (kept ≡ later ∷ more))
        → IsKept last × MatchBool answer ((picked ≡ Some later) × (inside last ≡ inside between) × (kept ≡ []) × (still ≡ pairs))
        ((more : List (K × V)) × ExtractsNext R (inside between) pairs picked (inside last) more still × (kept ≡ later ∷ more))
    picked_or_kept true between last later pairs kept still picked behind ok (is, same, none, rest) =
        (subst IsKept (sym same) ok, (is, ap inside same, none, rest))
    picked_or_kept false between last later pairs kept still picked behind ok (more, asked, is) =
        let after = behind more asked in (after.0, (more, after.1, is))

    -- the function that the closure borrows was called with the same pairs, and what each call keeps is kept
    pub inside_asked : (first : S) (left : List (K × V)) (picked : Option (K × V)) (last : S) (kept still : List (K × V)) → IsKept first
        → ExtractsNext (AsksPair step) first left picked last kept still
        → IsKept last × ExtractsNext R (inside first) left picked (inside last) kept still
    inside_asked first [] picked last kept still ok (none, same, no_more, rest) =
        (subst IsKept (sym same) ok, (none, ap inside same, no_more, rest))
    inside_asked first (pair ∷ pairs) picked last kept still ok
        (answer, between, later, (own, before, after, is, call, later_is), then_so) =
        let one = says first own before answer after between ok call in
        let there = subst (λ (p : K × V). R (inside first) p answer (inside between) later) is
        (subst (λ (p : K × V). R (inside first) (own.now, before.now) answer (inside between) p) (sym later_is) one.1) in
        let after_it = picked_or_kept answer between last later pairs kept still picked
        (λ more asked. inside_asked between pairs picked last more still one.0 asked) one.0 then_so in
        (after_it.0, (answer, inside between, later, there, after_it.1))

module _ {F K : Type 0} (asks : Mut F (Bor K × Unit {0}) Bool) where
  may_behind : (answer : Bool) (between last : F) (later : K × Unit {0}) (pairs kept still : List (K × Unit {0}))
      (picked : Option (K × Unit {0}))
      → ((more : List (K × Unit {0})) → ExtractsNext (AsksKey asks) between pairs picked last more still → always_mut asks last)
      → always_mut asks between
      → MatchBool answer ((picked ≡ Some later) × (last ≡ between) × (kept ≡ []) × (still ≡ pairs))
      ((more : List (K × Unit {0})) × ExtractsNext (AsksKey asks) between pairs picked last more still × (kept ≡ later ∷ more))
      → always_mut asks last
  may_behind true between last later pairs kept still picked behind may (is, same, none, rest) = subst (always_mut asks) (sym same) may
  may_behind false between last later pairs kept still picked behind may (more, asked, is) = behind more asked

  -- a function of keys that may always be called may also be called after a step
  pub askable_still : (first : F) (left : List (K × Unit {0})) (picked : Option (K × Unit {0})) (last : F)
      (kept still : List (K × Unit {0}))
      → ExtractsNext (AsksKey asks) first left picked last kept still → always_mut asks first → always_mut asks last
  askable_still first [] picked last kept still (none, same, no_more, rest) may = subst (always_mut asks) (sym same) may
  askable_still first (pair ∷ pairs) picked last kept still (answer, between, later, call, then_so) may =
      let next = mut_next asks first _ _ _ _ call.0.called refl may in
      may_behind answer between last later pairs kept still picked
      (λ more asked. askable_still between pairs picked last more still asked next) next then_so
