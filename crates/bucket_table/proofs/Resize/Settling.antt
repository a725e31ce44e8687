-- A resize after the minimum was set, and what it keeps of the map.
use Rattle.bucket_table.proofs.Words.{ArePlaced, ArraysView, Bool, Err, IsEquivalence, Keeps, MapState, Ok, ResizesIf, Result, ℕ}
use Rattle.bucket_table.proofs.Words.{arith, cases_lt, false_from_ne_true, if◌then◌else◌, inl, inr, le-leb, leb-true, nat_le, pairs_of}
use Rattle.bucket_table.proofs.Words.{refl, ◌+◌, ◌-◌, ◌<◌, ◌≡◌, ◌≤◌}
use Rattle.bucket_table.specs.Resize.Resizing.{Releases, Reserves, Resizes, TriesResize, with_minimum}
use Rattle.bucket_table.specs.Map.MapState.{LowersMinimum, RaisesMinimum, state_of}
use Rattle.bucket_table.specs.Map.Counting.{IsCountedMap}
use Rattle.bucket_table.proofs.Map.Counted.{map_kept}
use Rattle.bucket_table.proofs.Map.MapKept.{keeps_pairs}

module _ {K V : Type 0} where
  pub resizes : {E : Type 0} (old new : ArraysView K V) (answer : Result Bool E) → TriesResize old answer new → Resizes old new
  resizes old new (Ok moved) tries = (Ok moved, tries)
  resizes old new (Err refused) tries = (Err tt, tries)

  -- the resize was tried exactly if one was due
  pub resizes_asked : {E Asked : Type 0} (old new : ArraysView K V) (answer : Result Bool E) → Asked → TriesResize old answer new
      → ResizesIf Asked old new
  resizes_asked old new answer asks tries = inl (asks, resizes old new answer tries)

  pub stays_unasked : {Asked : Type 0} (arrays : ArraysView K V) → (Asked → ⊥) → ResizesIf Asked arrays arrays
  stays_unasked arrays none = inr (none, refl)

  pub not_asked : {Asked : Type 0} {old new : ArraysView K V} → (Asked → ⊥) → ResizesIf Asked old new → new ≡ old
  not_asked none (inl did) = absurd (none did.0)
  not_asked none (inr stays) = stays.1

  -- the law doesn't mention the minimum
  pub placed_with : (hash : K → ℕ) (arrays : ArraysView K V) (least : ℕ) → ArePlaced hash arrays
      → ArePlaced hash (with_minimum arrays least)
  placed_with hash arrays least law = record { homes = law.homes; rehashed = law.rehashed }

  pub map_with : (eq : K → K → Bool) (hash : K → ℕ) (arrays : ArraysView K V) (least : ℕ) {count : ℕ} → IsCountedMap eq hash arrays count
      → IsCountedMap eq hash (with_minimum arrays least) count
  map_with eq hash arrays least was = record {
    one_map = record { distinct = was.one_map.distinct; placed = placed_with hash arrays least was.one_map.placed };
    counted = was.counted;
  }

  pub map_raised : (eq : K → K → Bool) → IsEquivalence eq → (hash : K → ℕ) (old new : ArraysView K V) (least : ℕ) {count : ℕ}
      → IsCountedMap eq hash old count → Keeps (with_minimum old least) new → ArePlaced hash new → IsCountedMap eq hash new count
  map_raised eq laws hash old new least was kept placed =
      map_kept eq laws hash (with_minimum old least) new (map_with eq hash old least was) kept placed

-- the requested number is the result if there is room for it
granted : (room wanted answer : ℕ) → (room < wanted → answer ≡ 0) → (wanted ≤ room → answer ≡ wanted)
    → answer ≡ (if nat_le wanted room then wanted else 0)
granted room wanted answer much fits = elim (cases_lt room wanted) [
  | inl less ↦ rw (false_from_ne_true (nat_le wanted room) (λ e. let le = leb-true wanted room e in omega (arith, less, le))) (much less)
  | inr le ↦ rw (le-leb wanted room le) (fits le)
]

module _ {K V H : Type 0} (kind : ℕ) (hasher : H) (old new : ArraysView K V) where
  abbrev state : ArraysView K V → MapState K V H
  state arrays = state_of kind (record { hasher = hasher; arrays = arrays })

  -- a resize after the minimum was set changes no other part of the map
  settled : (least : ℕ) → Keeps (with_minimum old least) new → state new ≡ record (state old) { minimum = least; pairs = pairs_of new }
  settled least kept = rw (kept.minimum, kept.maximum) refl

  pub raises : (additional answer : ℕ) → Reserves additional old answer new → Keeps (with_minimum old (old.minimum + answer)) new
      → RaisesMinimum additional (state old) answer (state new)
  raises additional answer reserves kept = record {
    granted = granted (old.maximum - old.minimum) additional answer (λ much. (reserves.too_much much).0) (λ fits. (reserves.raised fits).0);
    kept = record { pairs = keeps_pairs _ _ kept; others = settled (old.minimum + answer) kept };
  }

  pub lowers : (released answer : ℕ) → Releases released old answer new → Keeps (with_minimum old (old.minimum - answer)) new
      → LowersMinimum released (state old) answer (state new)
  lowers released answer releases kept = record {
    granted = granted old.minimum released answer (λ much. (releases.too_much much).0) (λ fits. (releases.lowered fits).0);
    kept = record { pairs = keeps_pairs _ _ kept; others = settled (old.minimum - answer) kept };
  }
