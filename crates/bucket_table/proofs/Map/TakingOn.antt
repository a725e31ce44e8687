-- A pair is removed from its home in one array or the other.
use Rattle.bucket_table.proofs.Words.{ArraysView, Bool, Current, IsEquivalence, IsOneMap, None, Old, Option, Side, Some, TableView, ℕ}
use Rattle.bucket_table.proofs.Words.{home_bucket, refl, slots_without, subst, true, ◌%◌, ◌≡◌}
use Rattle.bucket_slots.specs.Searching.{pair_matched}
use Rattle.bucket_table.specs.Map.ByKey.{PreparesThen, ShrinksAt, Takes}
use Rattle.bucket_table.specs.Map.Preparing.{IsPrepared}
use Rattle.std.specs.Prelude.{is_some}
use Rattle.bucket_table.specs.Map.MapState.{state_of}
use Rattle.bucket_table.specs.Map.Taking.{TakesFrom, TakesOn}
use Rattle.bucket_table.proofs.Map.LookUps.{unmatched_from_homes}
use Rattle.bucket_table.proofs.Map.SlotSteps.{takes}
use Rattle.bucket_table.proofs.Map.TakeSteps.{absent_before, same_taken, then_taken}

module _ {K V H : Type 0} {eq : K → K → Bool} (laws : IsEquivalence eq) (hash : H → K → ℕ) (kind : ℕ) (matches : K → Bool) (n : ℕ)
    (hasher : H) (old : TableView K V H) (a : ArraysView K V) (one : IsOneMap eq (hash hasher) a)
    (prepared : IsPrepared kind n old (record { hasher = hasher; arrays = a })) (left : Option ℕ) where
  -- what taking a matching pair leaves of a table whose arrays were a after a unit was worked
  pub record IsTaken (r : Option (K × V)) (new : ArraysView K V) : Type 0 where
    pub one_map : IsOneMap eq (hash hasher) new
    pub map : Takes matches (state_of kind old) r (state_of kind (record { hasher = hasher; arrays = new }))
    pub arrays : PreparesThen kind n old (λ between.
        ShrinksAt matches slots_without left (is_some r) between (record { hasher = hasher; arrays = new }))

  pub taken_from : (side : Side) (pair : K × V) (new : ArraysView K V) → TakesFrom left matches side a pair new → IsTaken (Some pair) new
  taken_from side pair new t =
      let left = takes laws hash kind side t.index one t.stands.within t.at pair t.taken new t.kept t.placed in
      record {
        one_map = left.one_map;
        map = (
          same_taken matches _ _ t.stands.pair pair t.stands.slot t.stands.there t.taken,
          then_taken (state_of kind old) _ _ pair prepared.map left.map,
        );
        arrays = record {
          between = record { hasher = hasher; arrays = a };
          prepared = prepared;
          done = (side, t.index, t.at, t.stands, t.asked);
        };
      }

  -- the current array is searched last, so if it has none either, no key matches
  last : (r : Option (K × V)) (new : ArraysView K V) → ((own : K) → matches own ≡ true → hash hasher own ≡ n)
      → pair_matched matches (n % 256) (home_bucket n a.linked) ≡ None → TakesOn left matches n Current a r new → IsTaken r new
  last (Some pair) new alike absent t = taken_from Current pair new t
  last None new alike absent (same, none) =
      rw same (record {
        one_map = one;
        map = (
          absent_before matches (state_of kind old) _ prepared.map
              (unmatched_from_homes matches n (hash hasher) alike a one.placed absent none),
          prepared.map,
        );
        arrays = record { between = record { hasher = hasher; arrays = a }; prepared = prepared; done = refl };
      })

  -- after the old one had none, and stayed as it was
  pub taken_last : (r : Option (K × V)) (b new : ArraysView K V) (later : K → Bool) → ((own : K) → matches own ≡ true → hash hasher own ≡ n)
      → later ≡ matches → TakesOn left matches n Old a None b → TakesOn left later n Current b r new → IsTaken r new
  taken_last r b new later alike same (kept, absent) t = last r new alike absent
      (subst (λ (c : ArraysView K V). TakesOn left matches n Current c r new) kept
      (subst (λ (test : K → Bool). TakesOn left test n Current b r new) same t))
