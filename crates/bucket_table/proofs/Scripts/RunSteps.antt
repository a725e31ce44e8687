-- A run is extended by one step.
use Rattle.bucket_table.proofs.Words.{List, ℕ, [], ap, get_or, length, refl, subst, sym, take, take_more, ◌++◌, ◌+◌, ◌<◌, ◌∙◌, ◌∷◌, ◌≡◌}
use Rattle.bucket_table.specs.Scripts.Runs.{Run}

module _ {S C R : Type 0} (step : S → C → R → S → Type 0) where
  pub run_more : (first between last : S) (calls : List C) (replies : List R) (call : C) (reply : R)
      → Run step first calls replies between → step between call reply last
      → Run step first (calls ++ call ∷ []) (replies ++ reply ∷ []) last
  run_more first between last [] [] call reply ran taken = (last, subst (λ (m : S). step m call reply last) ran taken, refl)
  run_more first between last [] (r ∷ replies) call reply ran taken = absurd ran
  run_more first between last (c ∷ calls) [] call reply ran taken = absurd ran
  run_more first between last (c ∷ calls) (r ∷ replies) call reply ran taken =
      (ran.0, ran.1, run_more ran.0 between last calls replies call reply ran.2 taken)

  -- the run of the first i calls and the step of the next one are a run with one more call
  pub run_next : (first between last : S) (calls : List C) (i : ℕ) (replies news : List R) (call : C) (reply : R)
      → i < length calls → call ≡ get_or calls i call → news ≡ replies ++ reply ∷ [] → Run step first (take i calls) replies between
      → step between call reply last → Run step first (take (i + 1) calls) news last
  run_next first between last calls i replies news call reply below is pushed ran taken =
      let more : take (i + 1) calls ≡ take i calls ++ call ∷ [] = take_more calls i call below ∙ ap
      (λ c. take i calls ++ c ∷ []) (sym is) in
      rw (more, pushed) (run_more first between last (take i calls) replies call reply ran taken)
