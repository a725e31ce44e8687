use Rattle.std.proofs.Common.{None, Option, Some, [], ap, append-nil, nat_lt, sym, ℕ, Bool, List, IfNone, IfSome}
use Rattle.std.proofs.Common.{◌<◌, ◌≤◌, ◌++◌, ◌∙◌, ◌∷◌, ◌≡◌}
use Rattle.std.proofs.lemmas.Bool.{ltb-false, ltb-true}
use Rattle.std.specs.List.{All}
use Rattle.collections.proofs.Picking.{inside_asked}
use Rattle.example_callers.proofs.Picked.{IsPickedBy, picked_by, tells_less}
use Rattle.example_callers.proofs.expiring.take_expired.Goals as goal

abbrev Asks : ℕ → Unit {0} → ℕ × ℕ → Bool → Unit {0} → ℕ × ℕ → Type 0
Asks time s pair answer t later = (answer ≡ nat_lt pair.1 time) × (later ≡ pair)

abbrev Picks : ℕ → List (ℕ × ℕ) → Option (ℕ × ℕ) → List (ℕ × ℕ) → List (ℕ × ℕ) → Type 0
Picks time = IsPickedBy (Asks time) (λ session. nat_lt session.1 time) (λ s x answer t y e. e)

-- the closure was called with the sessions in turn
picked : (c : goal.After-sessions-1) → Picks c.args.time c.extract_if-expired.result.taken.left c.next.result
    c.next.ensures.steps.extracted.kept c.next.new.self.taken.left
picked c =
    let calm = inside_asked (λ s. tt {0}) (λ s. s.0 ≡ c.args.time) _ (Asks c.args.time)
    (λ s own before answer after t kept e. (
      e.met.0 ∙ kept,
      (rw kept at (tells_less answer before.now s.0 e.met.1.0.0 e.met.1.0.1), λ i. (own.now, e.met.1.1 i)),
    )) _ _ _ _ _ _ (ap (λ f. f.0) c.extract_if-expired.ensures.test) c.next.ensures.steps.extracted.asked in
    picked_by (Asks c.args.time) (λ session. nat_lt session.1 c.args.time) (λ s x answer t y e. e) tt _ c.next.result tt _ _ calm.1

module _ (time : ℕ) (old new left kept still : List (ℕ × ℕ)) (old_is : old ≡ left) (new_is : new ≡ kept ++ still) where
  one_taken : (found : Option (ℕ × ℕ)) → Picks time left found kept still
      → IfSome found (λ session. (session.1 < time)
      × ((front behind : List (ℕ × ℕ)) × (old ≡ front ++ session ∷ behind) × (new ≡ front ++ behind)))
  one_taken None by = tt
  one_taken (Some session) (passes, parts) = (ltb-true session.1 time passes, (kept, still, old_is ∙ parts, new_is))

  none_taken : (found : Option (ℕ × ℕ)) → Picks time left found kept still
      → IfNone found (All (λ session. time ≤ session.1) old × (new ≡ old))
  none_taken None (none, same, rest) =
      rw old_is (
        λ k d below. ltb-false _ time (none k d below),
        new_is ∙ ap (λ l. l ++ still) same ∙ ap (λ l. left ++ l) rest ∙ append-nil left,
      )
  none_taken (Some session) by = tt

-- what the map had, and has once the iterator is dropped
had : (c : goal.After-sessions-1) → c.args.sessions.now.entries ≡ c.extract_if-expired.result.taken.left
had c = sym c.extract_if-expired.ensures.left

has : (c : goal.After-sessions-1) → c.sessions-1.given.0.entries ≡ c.next.ensures.steps.extracted.kept ++ c.next.new.self.taken.left
has c =
    let made = c.extract_if-expired.ensures in
    let step = c.next.ensures.steps in
    let end = c.sessions-1.given.1 (sym (step.same_map ∙ made.same_map)) in
    ap (λ m. m.entries) (end ∙ c.drop-expired.ensures) ∙ step.extracted.stay [] (ap (λ m. m.entries) made.unchanged ∙ had c)

pub returns-clause-taken : goal.returns-clause-taken
returns-clause-taken c = one_taken c.args.time _ _ _ _ _ (had c) (has c) c.next.result (picked c)

pub returns-clause-none : goal.returns-clause-none
returns-clause-none c = none_taken c.args.time _ _ _ _ _ (had c) (has c) c.next.result (picked c)
