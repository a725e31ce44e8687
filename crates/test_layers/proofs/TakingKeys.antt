-- A bucket from which keys are removed, as a walk allows its visitor.
use Rattle.std.proofs.Common.{ℕ, ◌≡◌, false, Some, [], ◌∷◌, ◌++◌, sym, subst, ◌∙◌}
use Rattle.std.proofs.lemmas.List.{append_assoc}
use Rattle.std.proofs.lemmas.List.Sorted.{IsPermutation-append_right, IsPermutation-map, IsPermutation-trans}
use Rattle.std.specs.List.Sorted.{IsPermutation}
use Rattle.bucket_slots.specs.BucketView.{BucketView, Place, entries_in, slot_in}
use Rattle.bucket_slots.specs.Removing.{slots_without}
use Rattle.bucket_slots.specs.Slots.{live_pair}
use Rattle.bucket_slots.proofs.PairsAfter.{entries_in-slots_without}
use Rattle.bucket_slots.proofs.RoomAfter.{killed-slots_without}
use Rattle.bucket_table.specs.Walking.Walks.{IsKeptBy, keys_in}

module _ {K V : Type 0} where
  -- one key is removed
  pub kept_without : (s t : BucketView K V) (at : Place) (p : K × V) → live_pair (slot_in s at) ≡ Some p
      → t ≡ slots_without s at → s.killed ≡ false → IsKeptBy s t
  kept_without s t at p here is alive =
      let taken = entries_in-slots_without s at p here in
      let kept : IsKeptBy s (slots_without s at) = record {
        gone = (p.0, taken.0) ∷ [];
        keys = IsPermutation-map (λ (e : (K × V) × ℕ). (e.0.0, e.1)) (entries_in s)
            ((p, taken.0) ∷ entries_in (slots_without s at)) taken.1;
        alive = killed-slots_without s at ∙ alive;
      } in
      subst (λ (b : BucketView K V). IsKeptBy s b) (sym is) kept

  -- keys are removed, and then others
  pub kept_twice : (a b c : BucketView K V) → IsKeptBy a b → IsKeptBy b c → IsKeptBy a c
  kept_twice a b c first second = record {
    gone = first.gone ++ second.gone;
    keys = subst (IsPermutation (keys_in a)) (sym (append_assoc first.gone second.gone (keys_in c)))
        (IsPermutation-trans (keys_in a) (first.gone ++ keys_in b) (first.gone ++ (second.gone ++ keys_in c)) first.keys
        (IsPermutation-append_right first.gone (keys_in b) (second.gone ++ keys_in c) second.keys));
    alive = second.alive;
  }
