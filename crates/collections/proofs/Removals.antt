-- A removal with a test.
use Rattle.std.proofs.Common.{◌≡◌, inl, inr, Bool, true, false, Option, Some, None, sym, ◌∙◌}
use Rattle.std.specs.Bool.{OnFalse}
use Rattle.std.specs.Borrow.{Bor}
use Rattle.std.specs.Cmp.{IsEquivalence}
use Rattle.std.specs.Option.{IfNone}
use Rattle.collections.specs.Changes.{Removes, TakesOut}
use Rattle.collections.specs.Maps.{IsUnique, MapView, get_by}
use Rattle.collections.specs.Removals.{AsksThere, RemovesIf, TakesOutIf}
use Rattle.collections.proofs.Lookups.{IsForm, form_there}
use Rattle.collections.proofs.StoredKeys.{taken_there}

module _ {K V H : Type 0} (eq : K → K → Bool) (laws : IsEquivalence eq) (matches : K → Bool) (alike : IsForm eq matches)
    (asks : Bor K → Bor V → Bool → Type 0) (old new : MapView K V H) (unique : IsUnique eq old) where
  -- if the result is true there is a pair
  there_is : AsksThere eq matches asks old true → get_by matches old ≡ None → ⊥
  there_is (inl none) absent = let never = none.1 in cc
  there_is (inr (own, value, there, asked)) absent =
      let not_there = sym (form_there eq laws matches alike old.entries (own.now, value.now) unique there.0 there.1) ∙ absent in
      cc

  -- and it is the one that is removed
  pub removes_if : (taken : Option (K × V)) → AsksThere eq matches asks old true → Removes eq matches old taken new
      → RemovesIf eq matches asks old taken new
  removes_if None asked none = absurd (there_is asked none.0)
  removes_if (Some pair) (inl none) taken = let never = none.1 in absurd cc
  removes_if (Some pair) (inr (own, value, there, asked)) taken =
      (own, value, taken_there eq laws matches alike old new pair taken (own.now, value.now) unique there, asked, taken)

  pub takes_out_if : (removed : Bool) → AsksThere eq matches asks old true → TakesOut eq matches old removed new
      → TakesOutIf eq matches asks old removed new
  takes_out_if true asked (pair, taken) = (pair, removes_if (Some pair) asked taken)
  takes_out_if false asked none = removes_if None asked none

  -- so one is removed
  pub not_none : (P : Type 0) (taken : Option (K × V)) → AsksThere eq matches asks old true → Removes eq matches old taken new
      → IfNone taken P
  not_none P None asked none = absurd (there_is asked none.0)
  not_none P (Some pair) asked taken = tt

  pub not_false : (P : Type 0) (removed : Bool) → AsksThere eq matches asks old true → TakesOut eq matches old removed new
      → OnFalse removed P
  not_false P true asked taken = tt
  not_false P false asked none = absurd (there_is asked none.0)
