-- Old buckets that didn't move, because memory was needed.
use Rattle.bucket_table.proofs.Words.{ArraysView, Bool, IsInRange, IsSource, IsUnmoved, Meets, RelocatesSome, SpendsSome, TicketState}
use Rattle.bucket_table.proofs.Words.{NeedsMemory, WorksUnits, ℕ, [], arith, bucket_at, cases_lt, false, inl, inr, killed_flags, length}
use Rattle.bucket_table.proofs.Words.{refl, sym, true, ◌*◌, ◌+◌, ◌/◌, ◌<◌, ◌↔◌, ◌∙◌, ◌≡◌, ◌≤◌}
use Rattle.bucket_table.specs.Rehash.Covered.{IsCovered}
use Rattle.bucket_table.specs.Rehash.Units.{NeedsNoMemory}
use Rattle.bucket_table.proofs.Rehash.UnitSteps.{RelocatesRange}
use Rattle.bucket_table.proofs.Rehash.Spending.{spends_few}
use Rattle.bucket_table.proofs.Views.Killed.{get_or-killed_flags, length-killed_flags}

module _ {K V : Type 0} where
  -- what needs no memory needs none after others have moved
  spared : (i : ℕ) (old mid : ArraysView K V) → length mid.current ≡ length old.current → length mid.linked ≡ length old.linked
      → SpendsSome old.linked mid.linked → NeedsNoMemory i (i + 1) old → NeedsNoMemory i (i + 1) mid
  spared i old mid current linked spent needs =
      let shorter = needs.no_shorter in record {
        no_shorter = omega (arith, shorter, current, linked);
        few = λ j low high. spends_few old.linked mid.linked j 32 spent (needs.few j low high);
      }

  -- memory that is needed after some steps was needed before them
  pub needed_before : {A : ℕ → Type 0} (IsOne : ℕ → Type 0) (steps : ℕ) (old mid new : ArraysView K V)
      → length mid.current ≡ length old.current → WorksUnits steps A old mid
      → (0 < length new.linked → length new.linked ≡ length mid.linked) → NeedsMemory IsOne mid new → NeedsMemory IsOne old new
  needed_before IsOne steps old mid new current units stays matches =
      let within = matches.within in
      let run = units.stands (omega (arith, within, stays (omega (arith, within)))) in
      record {
        index = matches.index;
        one = matches.one;
        within = within;
        before = matches.before;
        alive = matches.alive;
        needed = λ needs. matches.needed (spared matches.index old mid current run.len run.spent needs);
      }

  -- a range stops at a bucket that can't move
  pub range_wants : (start index end : ℕ) (old mid new : ArraysView K V) → RelocatesRange start index old mid
      → SpendsSome old.linked mid.linked → IsUnmoved mid new → start ≤ index → index < end → end ≤ length old.linked
      → (bucket_at mid.linked index).killed ≡ false → (NeedsNoMemory index (index + 1) mid → ⊥) → NeedsMemory (IsInRange start end) old new
  range_wants start index end old mid new done spent same low high within alive needed =
      record {
        index = index;
        one = (low, high);
        within = rw same.linked_is (omega (arith, high, within, done.some.killed.len));
        before = λ i one less. rw same.linked_is (done.killed i one.0 less);
        alive = rw same.linked_is alive;
        needed = λ needs. needed (spared index old mid done.some.kept.current_len done.some.killed.len spent needs);
      }

  -- if none of the buckets needed memory at entry, none can fail
  pub none_matched : (IsOne : ℕ → Type 0) (start end : ℕ) (old new : ArraysView K V)
      → ((i : ℕ) → IsOne i → i < length new.linked → IsInRange start end i) → NeedsNoMemory start end old → NeedsMemory IsOne old new → ⊥
  none_matched IsOne start end old new inside needs matches =
      let one = inside matches.index matches.one matches.within in
      matches.needed (record {
        no_shorter = needs.no_shorter;
        few = λ i low high. needs.few i (omega (arith, low, one.0)) (omega (arith, high, one.1));
      })

  -- a range that needs no memory doesn't fail
  pub range_spared : (start end : ℕ) (success : Bool) (old new : ArraysView K V)
      → (success ≡ false → NeedsMemory (IsInRange start end) old new) → NeedsNoMemory start end old → success ≡ true
  range_spared start end true old new matches needs = refl
  range_spared start end false old new matches needs =
      absurd (none_matched (IsInRange start end) start end old new (λ i inside within. inside) needs (matches refl))

  -- a longer range
  pub range_longer : (start end low high : ℕ) (old new : ArraysView K V) → start ≡ low → end ≤ high
      → NeedsMemory (IsInRange start end) old new → NeedsMemory (IsInRange low high) old new
  range_longer start end low high old new same less matches =
      let one = matches.one in
      record {
        index = matches.index;
        one = (omega (arith, one.0, same), omega (arith, one.1, less));
        within = matches.within;
        before = λ i inside below. matches.before i (omega (arith, inside.0, same), omega (arith, below, one.1)) below;
        alive = matches.alive;
        needed = matches.needed;
      }

  -- the sources of a current bucket are a range
  pub sources_need : (start end to from index : ℕ) (mid new : ArraysView K V) → RelocatesSome mid new → to ≡ length mid.current
      → from ≡ length mid.linked → ((i : ℕ) → IsInRange start end i ↔ Meets to index from i)
      → NeedsMemory (IsInRange start end) mid new → NeedsMemory (IsSource new index) mid new
  sources_need start end to from index mid new some to_is from_is range matches =
      let meets = (range matches.index).0 matches.one in
      record {
        index = matches.index;
        one = rw (some.killed.len, some.kept.current_len, ← to_is, ← from_is) (meets.0, meets.2, meets.1);
        within = matches.within;
        before = λ i source below.
            let same = rw (some.killed.len, some.kept.current_len, ← to_is, ← from_is) at source in
            matches.before i ((range i).1 (same.0, same.2, same.1)) below;
        alive = matches.alive;
        needed = matches.needed;
      }

  -- if no ticket is open, each unit below the position is killed
  passed : (old : ArraysView K V) → IsCovered (killed_flags old.linked) old.tickets → old.tickets.open_units ≡ [] → (i : ℕ)
      → i < 64 * old.tickets.position → i < length old.linked → (bucket_at old.linked i).killed ≡ true
  passed old covered none i below within =
      let long = length-killed_flags old.linked in
      elim (covered.done_or_open (i / 64) (omega (arith, below))) [
        | inl done ↦ sym (get_or-killed_flags old.linked i within) ∙ done i (omega arith) (omega arith) (omega (arith, within, long))
        | inr there ↦ let less = (rw none at there).1 in absurd (omega (arith, less))
      ]

  -- so the first old bucket that isn't killed is in the unit that is worked
  pub unit_needs : (old worked last : ArraysView K V) (started : TicketState) (unit : ℕ) → unit ≡ old.tickets.position
      → old.tickets.open_units ≡ [] → IsCovered (killed_flags old.linked) old.tickets
      → RelocatesSome (record old { tickets = started }) worked → last.linked ≡ worked.linked
      → NeedsMemory (IsInRange (64 * unit) (64 * unit + 64)) (record old { tickets = started }) worked
      → NeedsMemory (λ i. Unit {0}) old last
  unit_needs old worked last started unit at none covered some same matches =
      let within = matches.within in
      let one = matches.one in
      let len = some.killed.len in
      record {
        index = matches.index;
        one = tt;
        within = rw same within;
        before = λ i any below. rw same (elim (cases_lt i (64 * unit)) [
          | inl early ↦ some.killed.still i (passed old covered none i (omega (arith, early, at)) (omega (arith, below, within, len)))
          | inr late ↦ matches.before i (late, omega (arith, below, one.1)) below
        ]);
        alive = rw same matches.alive;
        needed = λ needs. matches.needed (record { no_shorter = needs.no_shorter; few = needs.few });
      }
