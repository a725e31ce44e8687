-- The law of one map, when it is known to hold but no proof of it is available: each of its parts has at most one proof, or is decidable.
use Rattle.bucket_table.proofs.Words.{AreHome, ArraysView, Bool, BucketView, Contains, Contains-append_right, IsOneMap, List, ℕ, [], ap}
use Rattle.bucket_table.proofs.Words.{arith, cases_eq, cases_lt, inl, inr, killed_flags, length, nil_from_length, refl, ⊎_elim, ◌*◌, ◌<◌}
use Rattle.bucket_table.proofs.Words.{◌∷◌, ◌≡◌, ◌⊎◌}
use Rattle.bucket_table.specs.Rehash.Covered.{IsUnitKilled}
use Rattle.std.proofs.Math.Bool.{Bool-set}
use Rattle.std.proofs.Math.Bridge.{le_prop}
use Rattle.std.proofs.Math.Logic.{∥∥₁_elim}
use Rattle.std.proofs.Math.Nat.{ℕ_set}
use Rattle.std.proofs.lemmas.Map.Keys.{IsDistinct-prop}
use Rattle.std.proofs.lemmas.Map.Made.{Contains-tail}

at_head : (unit : ℕ) (units : List ℕ) → Contains (unit ∷ units) unit
at_head unit units = (0, omega arith, refl)

-- whether a unit is one of some units
has_unit : (units : List ℕ) (unit : ℕ) → Contains units unit ⊎ (Contains units unit → ⊥)
has_unit [] unit = inr (λ there. omega (arith, there.1))
has_unit (first ∷ units) unit = elim (cases_eq first unit) [
  | inl same ↦ inl (rw same (at_head unit units))
  | inr apart ↦ ⊎_elim (λ there. inl (Contains-append_right (first ∷ []) units unit there))
      (λ none. inr (λ there. none (Contains-tail first units unit apart there))) (has_unit units unit)
]

-- the first of some units
first_unit : (units : List ℕ) → (length units ≡ 0 → ⊥) → (unit : ℕ) × Contains units unit
first_unit [] some = absurd (some refl)
first_unit (unit ∷ units) some = (unit, at_head unit units)

module _ {K V : Type 0} (eq : K → K → Bool) (hash : K → ℕ) (arrays : ArraysView K V) (one : ∥ IsOneMap eq hash arrays ∥₁) where
  home_there : (buckets : List (BucketView K V)) → (IsOneMap eq hash arrays → AreHome hash buckets) → AreHome hash buckets
  home_there buckets reads = λ i within k d inside. record {
    home = record {
      within = ∥∥₁_elim one le_prop (λ m. (reads m i within k d inside).home.within);
      own = (
        ∥∥₁_elim one le_prop (λ m. (reads m i within k d inside).home.own.0),
        ∥∥₁_elim one le_prop (λ m. (reads m i within k d inside).home.own.1),
      );
      the_one = λ other in_it. ∥∥₁_elim one (ℕ_set _ _) (λ m. (reads m i within k d inside).home.the_one other in_it);
    };
    own_byte = ∥∥₁_elim one (ℕ_set _ _) (λ m. (reads m i within k d inside).own_byte);
  }

  done_or_open : (unit : ℕ) → unit < arrays.tickets.position
      → IsUnitKilled (killed_flags arrays.linked) unit ⊎ Contains arrays.tickets.open_units unit
  done_or_open unit before = ⊎_elim inr
      (λ none. inl (λ i from below within. ∥∥₁_elim one (Bool-set _ _)
      (λ m. ⊎_elim (λ killed. killed i from below within) (λ there. absurd (none there))
      (m.placed.rehashed.covered.done_or_open unit before))))
      (has_unit arrays.tickets.open_units unit)

  going_on : 0 < length arrays.linked → (64 * arrays.tickets.position < arrays.tickets.len)
      ⊎ ((unit : ℕ) × Contains arrays.tickets.open_units unit)
  going_on stands = ⊎_elim inl
      (λ past. inr (first_unit arrays.tickets.open_units (λ none. ∥∥₁_elim one (λ a b. absurd a)
      (λ m. ⊎_elim (λ before. omega (arith, before, past)) (λ handed. omega (arith, none, handed.1.1))
      (m.placed.rehashed.going_on stands)))))
      (cases_lt (64 * arrays.tickets.position) arrays.tickets.len)

  pub one_map_again : IsOneMap eq hash arrays
  one_map_again = record {
    distinct = ∥∥₁_elim one (IsDistinct-prop eq _) (λ m. m.distinct);
    placed = record {
      homes = record {
        current_home = home_there arrays.current (λ m. m.placed.homes.current_home);
        linked_home = home_there arrays.linked (λ m. m.placed.homes.linked_home);
        alive = λ j within. ∥∥₁_elim one (Bool-set _ _) (λ m. m.placed.homes.alive j within);
        killed_empty = λ i within killed. nil_from_length _
            (∥∥₁_elim one (ℕ_set _ _) (λ m. ap length (m.placed.homes.killed_empty i within killed)));
        empty_targets = λ fits i j from to alive meets. record {
          free = ∥∥₁_elim one (Bool-set _ _) (λ m. (m.placed.homes.empty_targets fits i j from to alive meets).free);
          own_long = ∥∥₁_elim one (ℕ_set _ _) (λ m. (m.placed.homes.empty_targets fits i j from to alive meets).own_long);
        };
      };
      rehashed = record {
        covered = record {
          same_len = ∥∥₁_elim one (ℕ_set _ _) (λ m. m.placed.rehashed.covered.same_len);
          units_in_range = λ k d within. ∥∥₁_elim one le_prop (λ m. m.placed.rehashed.covered.units_in_range k d within);
          done_or_open = done_or_open;
        };
        going_on = going_on;
        emptied = λ k d within killed. nil_from_length _
            (∥∥₁_elim one (ℕ_set _ _) (λ m. ap length (m.placed.rehashed.emptied k d within killed)));
      };
    };
  }
