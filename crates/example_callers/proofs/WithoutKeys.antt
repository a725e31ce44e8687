-- What one more key does to a map without the keys of a list.
use Rattle.std.proofs.Common.{ℕ, ◌≡◌, ◌+◌, ◌<◌, inl, inr, Bool, true, false, ◌||◌, cond, List, length, take, get_or, Option, None, refl}
use Rattle.std.proofs.Common.{sym, ap, ◌∙◌}
use Rattle.std.specs.Cmp.{IsEquivalence}
use Rattle.std.specs.HashMap.Eq.{lookup_congr}
use Rattle.std.specs.List.{list_any}
use Rattle.std.proofs.lemmas.Bool.{cases_Bool}
use Rattle.std.proofs.lemmas.List.Folds.{list_any_more}
use Rattle.bucket_slots.specs.Marking.{MarksBy}
use Rattle.collections.specs.Changes.{TakesOut, Updates}
use Rattle.collections.specs.Maps.{MapView, get}
use Rattle.example_callers.specs.Without.{IsWithout}

-- the value of a key that is outside a list or equal to one more
or_none : {V : Type 0} (was same : Bool) (value : Option V) → cond same None (cond was None value) ≡ cond (was || same) None value
or_none true true value = refl
or_none true false value = refl
or_none false true value = refl
or_none false false value = refl

module _ {K V H : Type 0} (eq : K → K → Bool) (laws : IsEquivalence eq) where
  -- a key that is removed, or that is absent, has no value
  pub updates_out : (key : K) (old : MapView K V H) (removed : Bool) (new : MapView K V H) → TakesOut eq (eq key) old removed new
      → Updates eq old (eq key) None new
  updates_out key old true new done q = done.1.updates q
  updates_out key old false new done q = elim (cases_Bool (eq key q)) [
    | inl hit ↦ rw hit (done.1.gets q ∙ lookup_congr eq laws.congr old.entries q key (laws.symm q key ∙ hit) ∙ done.0)
    | inr miss ↦ rw miss (done.1.gets q)
  ]

  -- the key at a place is absent too
  pub without_more : (keys : List K) (place : ℕ) (key : K) (first old new : MapView K V H) → place < length keys
      → key ≡ get_or keys place key → IsWithout eq (take place keys) first old → Updates eq old (eq key) None new
      → IsWithout eq (take (place + 1) keys) first new
  without_more keys place key first old new below item out updates q =
      updates q ∙ ap (cond (eq key q) None) (out q)
      ∙ ap (λ (b : Bool). cond b None (cond (list_any (eq q) (take place keys)) None (get eq first q))) (laws.symm key q)
      ∙ or_none (list_any (eq q) (take place keys)) (eq q key) (get eq first q)
      ∙ ap (λ (b : Bool). cond b None (get eq first q))
      (ap (λ (k : K). list_any (eq q) (take place keys) || eq q k) item ∙ sym (list_any_more (eq q) keys place key below))

-- tombstones that are added in two steps
pub marks_joined : {K V : Type 0} (epoch : ℕ) (old between new : List ((K × V) × ℕ)) → MarksBy epoch old between
    → MarksBy epoch between new → MarksBy epoch old new
marks_joined epoch old between new one two = record {
  stood = λ mark is. elim (two.stood mark is) [
    | inl was ↦ one.stood mark was
    | inr this ↦ inr this
  ];
}
