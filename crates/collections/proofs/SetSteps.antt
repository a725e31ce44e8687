-- A key of a set is inserted if it is absent, or replaces an equal one.
use Rattle.std.proofs.Common.{ℕ, ◌≡◌, Bool, true, false, Result, Ok, Err, ◌∷◌, ap, is_some, refl}
use Rattle.std.proofs.Common.{sym, ◌∙◌, arith, inl, inr}
use Rattle.std.proofs.lemmas.Bool.{cases_Bool, true≢false}
use Rattle.std.proofs.lemmas.List.Sorted.{Contains-permutation, IsPermutation-sym, length_permutation}
use Rattle.std.specs.Cmp.{IsEquivalence}
use Rattle.std.specs.List.{IsDistinct}
use Rattle.std.specs.Map.{keys_of}
use Rattle.bucket_table.specs.Views.ArraysView.{TableView, pairs_of}
use Rattle.bucket_table.specs.Map.MapState.{state_of}
use Rattle.bucket_table.specs.Map.Putting.{ReplacesPair}
use Rattle.bucket_table.specs.Map.Replacing as replacing
use Rattle.collections.specs.Changes.{Adds}
use Rattle.collections.specs.Maps.{MapView, contains, map_of}
use Rattle.collections.specs.SetChanges.{SetAdds, SwapsKey}
use Rattle.collections.specs.StoredKeys.{ReplacesKey}
use Rattle.collections.proofs.Lookups.{lookup_added, lookup_same, lookup_taken, lookup_there}
use Rattle.collections.proofs.Steps.{absent, stays}

module _ {K H : Type 0} (eq : K → K → Bool) (laws : IsEquivalence eq) (key : K) where
  -- if the key was absent it was inserted
  pub put_absent : (old new : MapView K (Unit {0}) H) (answer : Bool) → contains eq old key ≡ false
      → SetAdds eq key old (Ok answer) new → Adds eq old key tt new
  put_absent old new true there added = added
  put_absent old new false there (some, same) = absurd (true≢false (sym some ∙ there))

  -- if one is present, the key isn't returned
  pub not_back : (old new : MapView K (Unit {0}) H) (back : K) → contains eq old key ≡ true → SwapsKey eq key old (Err back) new → ⊥
  not_back old new back there (same, none, kept) = true≢false (sym there ∙ ap is_some none)

  module _ (kind : ℕ) (t s : TableView K (Unit {0}) H) (distinct : IsDistinct eq (keys_of (pairs_of t.arrays)))
      (after : IsDistinct eq (keys_of (pairs_of s.arrays))) where
    replaces_key : (p : K × Unit {0}) → eq p.0 key ≡ true → ReplacesPair (state_of kind t) p (key, tt) (state_of kind s)
        → ReplacesKey eq (map_of t) (p.0, tt) key (map_of s)
    replaces_key p same done =
        let were = pairs_of t.arrays in
        let are = pairs_of s.arrays in
        let there = Contains-permutation (p ∷ done.rest) were p (IsPermutation-sym were (p ∷ done.rest) done.before)
        (0, omega arith, refl) in
        let found = lookup_there eq laws key were p distinct there (laws.symm key p.0 ∙ same) in
        let before = length_permutation were (p ∷ done.rest) done.before in
        let later = length_permutation ((key, tt) ∷ done.rest) are done.after.pairs in
        record {
          same = same;
          value = found;
          rest = done.rest;
          before = done.before;
          after = done.after.pairs;
          len = omega (arith, before, later);
          gets = λ q.
              let now = lookup_added eq laws q (key, tt) done.rest are after done.after.pairs in
              let rest = lookup_taken eq laws key q p were done.rest distinct done.before same in
              elim (cases_Bool (eq key q)) [
                | inl hit ↦ rw hit at now ∙ sym (sym (lookup_same eq laws key q were hit) ∙ found)
                | inr miss ↦ rw miss at now ∙ rw miss at rest
              ];
          kept = record {
            unique = after;
            hasher = ap (λ z. z.hasher) done.after.others;
            minimum = ap (λ z. z.minimum) done.after.others;
            maximum = ap (λ z. z.maximum) done.after.others;
          };
        }

    -- a table's answer, without the values
    abbrev pub key_answer : Result (K × Unit {0}) (K × Unit {0}) → Result K K
    key_answer (Ok p) = Ok p.0
    key_answer (Err p) = Err p.0

    pub swaps_key : (r : Result (K × Unit {0}) (K × Unit {0})) → replacing.Replaces eq key tt (state_of kind t) r (state_of kind s)
        → SwapsKey eq key (map_of t) (key_answer r) (map_of s)
    swaps_key (Ok p) done = replaces_key p done.0 done.1
    swaps_key (Err p) done =
        (ap (λ x. x.0) done.0, absent eq laws kind t s distinct after key done.1, stays eq laws kind t s distinct after done.2)
