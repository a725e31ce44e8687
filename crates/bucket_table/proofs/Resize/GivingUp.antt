-- A plan drops an array only if no slot is live, and changes something only if there is a current array and no old one.
use Rattle.bucket_table.proofs.Words.{All, ArraysView, IsPlan, IsPlanTo, List, ℕ, [], ap, arith, cases_eq, cases_lt, inl, inr}
use Rattle.bucket_table.proofs.Words.{last_estimate, length, slots_of, ⊎_elim, ◌*◌, ◌+◌, ◌/◌, ◌<◌, ◌≡◌, ◌≤◌}
use Rattle.bucket_table.specs.declared.arrays.resize.Plan.{Plan}
use Rattle.bucket_table.specs.declared.arrays.resize.Plan.TheVariants.{GiveUp, Keep, Resize}
use Rattle.bucket_table.specs.Resize.Resizing.{IsGivenUp, IsPlanOf}
use Rattle.bucket_table.proofs.Views.Killed.{no_live}
use Rattle.bucket_table.proofs.Resize.PlanIsOne.{all_or_not}

-- the case of a plan
abbrev pub plan_code : Plan → ℕ
plan_code Keep = 0
plan_code GiveUp = 1
plan_code (Resize capacity) = 2 + capacity

not_kept : ◌≡◌ {A = Plan} GiveUp Keep → ⊥
not_kept e = let f = ap plan_code e in absurd (omega arith)

never_given_up : (slots capacity : ℕ) (P : ℕ → Type 0) → IsPlanTo slots capacity P GiveUp → ⊥
never_given_up slots capacity P plan = ⊎_elim (λ (less : capacity < slots).
    let (asked, is, kept, done) = plan.less less in
    ⊎_elim (λ (below : capacity < asked). not_kept (kept below))
    (λ (le : asked ≤ capacity). let f = ap plan_code (done le) in absurd (omega arith)) (cases_lt capacity asked))
    (λ (le : slots ≤ capacity). ⊎_elim (λ (e : capacity ≡ slots). not_kept (plan.unchanged e))
    (λ (ne : capacity ≡ slots → ⊥). let f = ap plan_code (plan.greater (omega arith)) in absurd (omega arith)) (cases_eq capacity slots))
    (cases_lt capacity slots)

-- no plan drops an array unless the last estimate and the minimum are 0
not_given_up : (counts : List ℕ) (minimum maximum : ℕ) (plan : IsPlan counts minimum maximum GiveUp)
    → (last_estimate counts plan.large ≡ 0 → minimum ≡ 0 → ⊥) → ⊥
not_given_up counts minimum maximum plan standing =
    let last : ℕ = last_estimate counts plan.large in
    ⊎_elim (λ (full : ((slots_of counts) / 16) * 13 < last). let (c, is, to) = plan.unsettled standing
    (inl full) in never_given_up _ c _ to) (λ (not_full : last ≤ ((slots_of counts) / 16) * 13). ⊎_elim
    (λ (empty : last < (slots_of counts) / 8). let (c, is, to) = plan.unsettled standing (inr empty)
    in never_given_up _ c _ to) (λ (not_empty : (slots_of counts) / 8 ≤ last).
    not_kept (plan.settled standing (λ full. omega arith) (λ empty. omega arith))) (cases_lt last ((slots_of counts) / 8)))
    (cases_lt (((slots_of counts) / 16) * 13) last)

-- an array is dropped only if no slot is live
pub emptied : (counts : List ℕ) (minimum maximum : ℕ) → IsPlan counts minimum maximum GiveUp → All (λ count. count ≡ 0) counts
emptied counts minimum maximum plan = ⊎_elim (λ (all : All (λ (count : ℕ). count ≡ 0) counts). all)
    (λ (some : All (λ (count : ℕ). count ≡ 0) counts → ⊥). absurd (not_given_up counts minimum maximum plan
    (λ none least. not_kept (plan.not_emptied none least some)))) (all_or_not counts)

-- and only if the minimum is 0
least_emptied : (counts : List ℕ) (minimum maximum : ℕ) → IsPlan counts minimum maximum GiveUp → minimum ≡ 0
least_emptied counts minimum maximum plan = ⊎_elim (λ (none : minimum ≡ 0). none)
    (λ (some : minimum ≡ 0 → ⊥). absurd (not_given_up counts minimum maximum plan (λ none least. some least)))
    (cases_eq minimum 0)

module _ {K V : Type 0} (arrays : ArraysView K V) (plan : Plan) (is : IsPlanOf arrays plan) (asks : 0 < plan_code plan) where
  not_keep : plan ≡ Keep → ⊥
  not_keep e = let f = ap plan_code e in absurd (omega arith)

  pub plan_alone : length arrays.linked ≡ 0
  plan_alone = ⊎_elim (λ (some : 0 < length arrays.linked). absurd (not_keep (is.beside some)))
      (λ (none : length arrays.linked ≤ 0). omega arith)
      (cases_lt 0 (length arrays.linked))

  pub plan_stands : 0 < length arrays.current
  plan_stands = ⊎_elim (λ (some : 0 < length arrays.current). some) (λ (none : length arrays.current ≤ 0). absurd
      (not_keep (is.none (omega arith))))
      (cases_lt 0 (length arrays.current))

module _ {K V : Type 0} where
  pub gives_up : (old new : ArraysView K V) → IsPlanOf old GiveUp → new ≡ record old { current = [] } → IsGivenUp old new
  gives_up old new is new_is = record {
    empty = no_live old.current
        (emptied _ _ _ (is.alone (plan_stands old GiveUp is (omega arith)) (plan_alone old GiveUp is (omega arith))));
    alone = plan_alone old GiveUp is (omega arith);
    new_is = new_is;
  }

  pub gives_up_at_zero : (old : ArraysView K V) → IsPlanOf old GiveUp → old.minimum ≡ 0
  gives_up_at_zero old is =
      least_emptied _ _ _ (is.alone (plan_stands old GiveUp is (omega arith)) (plan_alone old GiveUp is (omega arith)))
