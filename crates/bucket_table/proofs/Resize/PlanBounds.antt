-- What the code of a plan computes, as the plan states it.
use Rattle.bucket_table.proofs.Words.{All, BucketView, IsLargeSample, IsOptimalCapacity, IsPlan, IsPlanTo, List, ℕ, ap, arith}
use Rattle.bucket_table.proofs.Words.{last_estimate, length, live_counts, refl, slots_of, subst, sym, ⊎_elim, ◌*◌, ◌+◌, ◌-◌, ◌/◌, ◌<◌, ◌∙◌}
use Rattle.bucket_table.proofs.Words.{◌≡◌, ◌≤◌}
use Rattle.bucket_table.specs.declared.arrays.resize.Plan.{Plan}
use Rattle.bucket_table.specs.declared.arrays.resize.Plan.TheVariants.{GiveUp, Keep, Resize}
use Rattle.std.proofs.lemmas.Nat.{pow-add}
use Rattle.std.specs.Int.{IsPowerOfTwo}
use Rattle.bucket_slots.specs.Sampling.{full_sample}
use Rattle.bucket_slots.specs.Sizing.{IsPowerIn, IsTooEmpty, IsTooFull}
use Rattle.bucket_table.specs.Resize.ResizePlan.{middle_estimate}
use Rattle.bucket_table.specs.Resize.Sampling.{estimate}
use Rattle.bucket_table.proofs.Resize.Samples.{length-live_counts}

-- an array's slots are a power of two
pub slots_in : (len slots maximum : ℕ) → IsPowerOfTwo len → 2 ≤ len → slots ≡ 32 * len → 32 * len ≤ maximum → IsPowerIn 1 maximum slots
slots_in len slots maximum (k, is) several slots_is within = record {
  power = (5 + k, slots_is ∙ ap (λ (n : ℕ). 32 * n) is ∙ sym (pow-add 2 5 k));
  at_least = omega arith;
  at_most = omega arith;
}

module _ {K V : Type 0} (buckets : List (BucketView K V)) where
  pub slots_are : (slots : ℕ) → slots ≡ 32 * length buckets → slots ≡ slots_of (live_counts buckets)
  slots_are slots is = is ∙ ap (λ (n : ℕ). 32 * n) (sym (length-live_counts buckets))

  pub middle_is : (len full middle : ℕ) → len ≡ length buckets → full ≡ full_sample (length buckets)
      → middle ≡ estimate (live_counts buckets) ((len - full) / 2) full → middle ≡ middle_estimate (live_counts buckets)
  middle_is len full middle len_is full_is is = is ∙ ap (λ (n : ℕ). estimate (live_counts buckets) ((n - full) / 2) full) len_is
      ∙ ap (λ (n : ℕ). estimate (live_counts buckets) ((length buckets - n) / 2) n) full_is
      ∙ ap (λ (n : ℕ). estimate (live_counts buckets) ((n - full_sample n) / 2) (full_sample n)) (sym (length-live_counts buckets))

  pub large_is : (large : ℕ) → IsLargeSample (length buckets) large → IsLargeSample (length (live_counts buckets)) large
  large_is large is = subst (λ (n : ℕ). IsLargeSample n large) (sym (length-live_counts buckets)) is

pub optimal_at : (slots s entries e minimum maximum capacity : ℕ) → slots ≡ s → entries ≡ e
    → IsOptimalCapacity slots entries minimum maximum capacity → IsOptimalCapacity s e minimum maximum capacity
optimal_at slots s entries e minimum maximum capacity slots_is entries_is is =
    subst (λ (n : ℕ). IsOptimalCapacity n e minimum maximum capacity) slots_is
    (subst (λ (n : ℕ). IsOptimalCapacity slots n minimum maximum capacity) entries_is is)

-- the capacity stays, or grows
pub same_capacity : (slots capacity : ℕ) (P : ℕ → Type 0) → capacity ≡ slots → IsPlanTo slots capacity P Keep
same_capacity slots capacity P is = record { unchanged = λ e. refl; greater = λ h. absurd (omega arith); less = λ h. absurd (omega arith) }

pub grown : (slots capacity : ℕ) (P : ℕ → Type 0) → slots < capacity → IsPlanTo slots capacity P (Resize capacity)
grown slots capacity P more = record { unchanged = λ e. absurd (omega arith); greater = λ h. refl; less = λ h. absurd (omega arith) }

-- a shrinking is not done, or done
pub given_up : (slots capacity asked : ℕ) (P : ℕ → Type 0) → capacity < asked → capacity < slots → P asked → IsPlanTo slots capacity P Keep
given_up slots capacity asked P below less is =
    record { unchanged = λ e. refl; greater = λ more. absurd (omega arith); less = λ h. (asked, is, λ b. refl, λ le. absurd (omega arith)) }

pub shrunk : (slots capacity asked : ℕ) (P : ℕ → Type 0) → asked ≤ capacity → capacity < slots
    → P asked → IsPlanTo slots capacity P (Resize capacity)
shrunk slots capacity asked P le less is =
    record { unchanged = λ e. absurd (omega arith); greater = λ more. refl; less = λ h. (asked, is, λ b. absurd (omega arith), λ b. refl) }

-- the plan by the last estimate: at an estimate of 0 for a table that may be without an array, and for one neither too full nor too empty
module _ {K V : Type 0} (buckets : List (BucketView K V)) (len large last minimum maximum : ℕ) (len_is : len ≡ length buckets)
    (sampled : IsLargeSample (length buckets) large) (last_is : last ≡ estimate (live_counts buckets) (len - large) large) where
  last_at : last ≡ last_estimate (live_counts buckets) large
  last_at = last_is ∙ ap (λ (n : ℕ). estimate (live_counts buckets) (n - large) large) (len_is ∙ sym (length-live_counts buckets))

  pub plan_at_zero : (plan : Plan) → last ≡ 0 → minimum ≡ 0 → (All (λ count. count ≡ 0) (live_counts buckets) → plan ≡ GiveUp)
      → ((All (λ count. count ≡ 0) (live_counts buckets) → ⊥) → plan ≡ Keep) → IsPlan (live_counts buckets) minimum maximum plan
  plan_at_zero plan none zero emptied kept = record {
    large = large;
    large_is = large_is buckets large sampled;
    emptied = λ n z. emptied;
    not_emptied = λ n z. kept;
    settled = λ more full empty. absurd (more (sym last_at ∙ none) zero);
    unsettled = λ more far. absurd (more (sym last_at ∙ none) zero);
  }

  pub plan_settled : (slots : ℕ) → slots ≡ 32 * length buckets → (last ≡ 0 → minimum ≡ 0 → ⊥) → (IsTooFull slots last → ⊥)
      → (IsTooEmpty slots last → ⊥) → IsPlan (live_counts buckets) minimum maximum Keep
  plan_settled slots slots_is more full empty = record {
    large = large;
    large_is = large_is buckets large sampled;
    emptied = λ n z. absurd (more (last_at ∙ n) z);
    not_emptied = λ n z. absurd (more (last_at ∙ n) z);
    settled = λ m f e. refl;
    unsettled = λ m far. absurd (⊎_elim (λ f. full (rw (slots_are buckets slots slots_is, last_at) f))
        (λ e. empty (rw (slots_are buckets slots slots_is, last_at) e)) far);
  }
