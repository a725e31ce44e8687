-- There is one plan for an array.
use Rattle.bucket_table.proofs.Words.{All, All-cons, All-head, All-tail, IsOptimalCapacity, IsPlan, IsPlanTo, List, ℕ, [], ap, arith}
use Rattle.bucket_table.proofs.Words.{cases_eq, cases_lt, inl, inr, last_estimate, length, refl, slots_of, subst, sym, ⊎_elim, ◌*◌, ◌/◌}
use Rattle.bucket_table.proofs.Words.{◌<◌, ◌∙◌, ◌∷◌, ◌≡◌, ◌≤◌, ◌⊎◌}
use Rattle.bucket_table.specs.declared.arrays.resize.Plan.{Plan}
use Rattle.bucket_slots.proofs.ArrayNumbers.{large_is_one, optimal_is_one}
use Rattle.bucket_table.specs.Resize.ResizePlan.{first_estimate, middle_estimate}

pub all_or_not : (counts : List ℕ) → All (λ count. count ≡ 0) counts ⊎ (All (λ count. count ≡ 0) counts → ⊥)
all_or_not [] = inl (λ i d below. absurd (omega arith))
all_or_not (count ∷ counts) = ⊎_elim (λ (here : count ≡ 0). ⊎_elim
    (λ (rest : All (λ (c : ℕ). c ≡ 0) counts). inl (All-cons (λ (c : ℕ). c ≡ 0) count counts here
    rest)) (λ (none : All (λ (c : ℕ). c ≡ 0) counts → ⊥). inr (λ all. none (All-tail (λ (c : ℕ). c ≡ 0) count counts all)))
    (all_or_not counts)) (λ (some : count ≡ 0 → ⊥). inr (λ all. some (All-head (λ (c : ℕ). c ≡ 0) count counts all))) (cases_eq count 0)

to_is_one : (slots capacity : ℕ) (P : ℕ → Type 0) → ((m n : ℕ) → P m → P n → m ≡ n) → (a b : Plan)
    → IsPlanTo slots capacity P a → IsPlanTo slots capacity P b → a ≡ b
to_is_one slots capacity P one a b p q = ⊎_elim (λ (less : capacity < slots).
    let (m, m_asked, m_kept, m_done) = p.less less in
    let (n, n_asked, n_kept, n_done) = q.less less in
    let same : m ≡ n = one m n m_asked n_asked in
    ⊎_elim (λ (given_up : capacity < m). m_kept given_up ∙ sym (n_kept (subst (λ (x : ℕ). capacity < x) same given_up)))
    (λ (le : m ≤ capacity). m_done le ∙ sym (n_done (subst (λ (x : ℕ). x ≤ capacity) same le))) (cases_lt capacity m))
    (λ (le : slots ≤ capacity). ⊎_elim (λ (e : capacity ≡ slots). p.unchanged e ∙ sym (q.unchanged e))
    (λ (ne : capacity ≡ slots → ⊥). p.greater (omega arith) ∙ sym (q.greater (omega arith))) (cases_eq capacity slots))
    (cases_lt capacity slots)

module _ (counts : List ℕ) (minimum maximum : ℕ) where
  -- the plan by the estimate from the last buckets, if the array isn't dropped
  not_dropped : (large : ℕ) (a b : Plan) (p : IsPlan counts minimum maximum a)
      (q : IsPlan counts minimum maximum b) → p.large ≡ large → q.large ≡ large → (last_estimate counts large ≡ 0 → minimum ≡ 0 → ⊥) → a ≡ b
  not_dropped large a b p q p_is q_is standing =
      let last : ℕ = last_estimate counts large in
      let p_last : last_estimate counts p.large ≡ last = ap (last_estimate counts) p_is in
      let q_last : last_estimate counts q.large ≡ last = ap (last_estimate counts) q_is in
      let slots : ℕ = slots_of counts in
      let unsettled = λ (out : ((slots / 16) * 13 < last) ⊎ (last < slots / 8)).
      let (m, m_is, m_to) = p.unsettled (λ e f. standing (sym p_last ∙ e) f)
      (subst (λ (n : ℕ). ((slots / 16) * 13 < n) ⊎ (n < slots / 8)) (sym p_last) out) in
      let (n, n_is, n_to) = q.unsettled (λ e f. standing (sym q_last ∙ e) f)
      (subst (λ (n : ℕ). ((slots / 16) * 13 < n) ⊎ (n < slots / 8)) (sym q_last) out) in
      let same : m ≡ n = optimal_is_one slots (middle_estimate counts) minimum maximum m n m_is n_is
      in
      let first : ℕ → ℕ = first_estimate counts in
      let asked : ℕ → Type 0 = λ c. IsOptimalCapacity slots (first large) minimum maximum c in
      let p_to : IsPlanTo slots n asked a = subst (λ (c : ℕ). IsPlanTo slots c asked a) same
      (subst (λ (l : ℕ). IsPlanTo slots m (λ c. IsOptimalCapacity slots (first l) minimum maximum
      c) a) p_is m_to) in
      let q_to : IsPlanTo slots n asked b = subst (λ (l : ℕ). IsPlanTo slots n
      (λ c. IsOptimalCapacity slots (first l) minimum maximum c) b) q_is n_to in
      to_is_one slots n asked (λ x y s t. optimal_is_one slots (first large) minimum maximum x y s
      t) a b p_to q_to in
      ⊎_elim (λ (full : (slots / 16) * 13 < last). unsettled (inl full)) (λ (not_full : last ≤ (slots / 16) * 13). ⊎_elim
      (λ (empty : last < slots / 8). unsettled (inr empty)) (λ (not_empty : slots / 8 ≤ last).
      p.settled (λ e f. standing (sym p_last ∙ e) f) (λ full. omega arith) (λ empty. omega arith)
      ∙ sym (q.settled (λ e f. standing (sym q_last ∙ e) f) (λ full. omega arith) (λ empty. omega arith))) (cases_lt last (slots / 8)))
      (cases_lt ((slots / 16) * 13) last)

  -- there is one plan
  pub plan_is_one : (a b : Plan) → IsPlan counts minimum maximum a → IsPlan counts minimum maximum b → a ≡ b
  plan_is_one a b p q =
      let same : p.large ≡ q.large = large_is_one (length counts) p.large q.large p.large_is
      q.large_is in
      let q_last : last_estimate counts q.large ≡ last_estimate counts p.large = ap (last_estimate counts) (sym same) in
      ⊎_elim (λ (none : last_estimate counts p.large ≡ 0). ⊎_elim (λ (least : minimum ≡ 0). ⊎_elim
      (λ (all : All (λ (c : ℕ). c ≡ 0) counts). p.emptied none least all ∙ sym (q.emptied (q_last ∙ none) least all))
      (λ (some : All (λ (c : ℕ). c ≡ 0) counts → ⊥). p.not_emptied none least some ∙ sym (q.not_emptied (q_last ∙ none) least some))
      (all_or_not counts)) (λ (more : minimum ≡ 0 → ⊥). not_dropped p.large a b p q refl (sym same) (λ e f. more f)) (cases_eq minimum 0))
      (λ (some : last_estimate counts p.large ≡ 0 → ⊥). not_dropped p.large a b p q refl (sym same) (λ e f. some e))
      (cases_eq (last_estimate counts p.large) 0)
