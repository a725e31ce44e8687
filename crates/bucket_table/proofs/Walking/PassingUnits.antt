-- The units that a cursor works as it passes buckets.
use Rattle.bucket_table.proofs.Words.{AreSourcesKilled, ArraysView, Err, IsInInterval, IsInRange, IsLength, KeepsArrays, Ok, Result, Side}
use Rattle.bucket_table.proofs.Words.{WorksUnits, ap, arith, bound_of, buckets_on, cases_lt, inl, inr, interval_width, length, refl, subst}
use Rattle.bucket_table.proofs.Words.{sym, ℕ, ◌+◌, ◌-◌, ◌<◌, ◌^◌, ◌∙◌, ◌≡◌, ◌≤◌}
use Rattle.bucket_table.specs.Rehash.Units.{NeedsMemory}
use Rattle.bucket_table.specs.Views.ArraysView.{IsSource}
use Rattle.bucket_table.specs.Walking.Cursors.{AreKilledFor, Passes, ShrinksThenPasses}
use Rattle.bucket_table.specs.declared.arrays.Missing.{Missing}
use Rattle.bucket_table.specs.declared.arrays.Missing.TheVariants.{Memory, Nothing}
use Rattle.bucket_table.proofs.Walking.Bounds.{all_hashes, wide}
use Rattle.bucket_table.proofs.Views.Keeping.{kept_both, kept_none}
use Rattle.bucket_table.proofs.Rehash.StayingKilled.{sources_still}
use Rattle.bucket_table.proofs.Rehash.UnitRuns.{stands_still, units_alone, units_both}
use Rattle.bucket_table.proofs.Rehash.NeedingMemory.{needed_before}
use Rattle.std.specs.Prelude.{IsErrAnd}
use Rattle.std.specs.Result.{result_map_both}

module _ {K V : Type 0} where
  -- the units that a cursor has worked so far
  pub record HasWorked (old : ArraysView K V) (start index : ℕ) (now : ArraysView K V) : Type 0 where
    pub order : start ≤ index
    pub within : start < index → index ≤ length old.current
    pub kept : KeepsArrays old now
    pub units : WorksUnits (index - start) (IsInRange start index) old now
    pub sources : AreKilledFor now start index
    pub alone : length old.linked ≡ 0 → now ≡ old

  pub worked_none : (old : ArraysView K V) (start : ℕ) → HasWorked old start start old
  worked_none old start =
      let none : start - start ≡ 0 = omega arith in
      record {
        order = omega arith;
        within = λ some. absurd (omega (arith, some));
        kept = kept_none old;
        units = subst (λ (n : ℕ). WorksUnits n (IsInRange start start) old old) (sym none) (stands_still (IsInRange start start) old);
        sources = λ i low high. absurd (omega (arith, low, high));
        alone = λ none. refl;
      }

  -- a bucket is made ready, or allocation fails
  module _ (old before now : ArraysView K V) (start index : ℕ) (w : HasWorked old start index before)
      (kept : KeepsArrays before now) (unit : WorksUnits 1 (λ home. home ≡ index) before now)
      (waits : length before.linked ≡ 0 → now ≡ before) where
    units_now : WorksUnits (index - start + 1) (IsInRange start (index + 1)) old now
    units_now =
        let order = w.order in
        units_both (IsInRange start (index + 1)) (index - start) 1 old before now (λ i one. (one.0, omega (arith, one.1)))
        (λ i here. (omega (arith, here, order), omega (arith, here))) w.kept.current_len w.units unit

    sources_now : AreKilledFor now start index
    sources_now i low high = sources_still 1 before now i unit kept.current_len (w.sources i low high)

    pub alone_now : {R : Type 0} → (length before.linked ≡ 0 → R) → length old.linked ≡ 0 → R
    alone_now holds none = holds (units_alone (index - start) old before w.units none)

    still_alone : length old.linked ≡ 0 → now ≡ old
    still_alone none = alone_now waits none ∙ w.alone none

    pub worked_more : (len : ℕ) → len ≡ length before.current → index < len → AreSourcesKilled now index
        → HasWorked old start (index + 1) now
    worked_more len is below ready =
        let long = w.kept.current_len in
        let order = w.order in
        let steps : index + 1 - start ≡ index - start + 1 = omega (arith, order) in
        record {
          order = omega (arith, order);
          within = λ some. omega (arith, long, is, below);
          kept = kept_both old before now w.kept kept;
          units = subst (λ (n : ℕ). WorksUnits n (IsInRange start (index + 1)) old now) (sym steps) units_now;
          sources = λ i low high. elim (cases_lt i index) [
            | inl less ↦ sources_now i low less
            | inr more ↦
                let here : index ≡ i = omega (arith, high, more) in
                subst (λ (j : ℕ). AreSourcesKilled now j) here ready
          ];
          alone = still_alone;
        }

    pub passes_refused : (len bound : ℕ) → len ≡ length before.current → index < len
        → NeedsMemory (IsSource now index) before now → (0 < length old.current → IsInInterval (length old.current) start bound)
        → Passes (λ (i : ℕ). i) bound old (Err Memory) now
    passes_refused len bound is below matches begins =
        let long = w.kept.current_len in
        let order = w.order in
        let at : start + (index - start) ≡ index = omega (arith, order) in
        let past : start + (index - start + 1) ≡ index + 1 = omega (arith, order) in
        record {
          from = start;
          passed = index - start;
          begins = begins;
          count = omega (arith, order, below, is, long);
          kept = kept_both old before now w.kept kept;
          units = subst (λ (n : ℕ). WorksUnits (index - start + 1) (IsInRange start n) old now) (sym past) units_now;
          sources = subst (λ (n : ℕ). AreKilledFor now start n) (sym at) sources_now;
          alone = still_alone;
          wanted = λ _. subst (λ (n : ℕ). NeedsMemory (IsSource now n) old now) (sym at)
              (needed_before (IsSource now index) (index - start) old before now w.kept.current_len w.units
              (λ on. (unit.stands on).len) matches);
        }

  -- an array that exists has hashes for each bucket
  pub begins_wide : (old : ArraysView K V) (len start bound : ℕ) → len ≡ length old.current → (0 < len → IsLength len)
      → (0 < interval_width (length old.current) → IsInInterval (length old.current) start bound)
      → 0 < length old.current → IsInInterval (length old.current) start bound
  begins_wide old len start bound is long begins some =
      begins (wide (length old.current) (subst IsLength is (long (omega (arith, is, some)))))

  -- it stops at a bucket, or past the last one
  pub passes_found : (old now : ArraysView K V) (start index bound : ℕ) → HasWorked old start (index + 1) now → start ≤ index
      → (0 < length old.current → IsInInterval (length old.current) start bound) → Passes (λ (i : ℕ). i) bound old (Ok index) now
  passes_found old now start index bound w low begins =
      let at : start + (index + 1 - start) ≡ index + 1 = omega (arith, low) in
      record {
        from = start;
        passed = index + 1 - start;
        begins = begins;
        count = at;
        kept = w.kept;
        units = subst (λ (n : ℕ). WorksUnits (index + 1 - start) (IsInRange start n) old now) (sym at) w.units;
        sources = subst (λ (n : ℕ). AreKilledFor now start n) (sym at) w.sources;
        alone = w.alone;
        wanted = λ lacks. absurd lacks;
      }

  pub passes_all : (old now : ArraysView K V) (start index bound : ℕ) → HasWorked old start index now → length now.current ≤ index
      → (0 < length old.current → IsInInterval (length old.current) start bound) → Passes (λ (i : ℕ). i) bound old (Err Nothing) now
  passes_all old now start index bound w past begins =
      let order = w.order in
      let long = w.kept.current_len in
      let at : start + (index - start) ≡ index = omega (arith, order) in
      record {
        from = start;
        passed = index - start;
        begins = begins;
        count = elim (cases_lt start index) [
          | inl some ↦ let fits = w.within some in omega (arith, fits, past, long)
          | inr none ↦ omega (arith, none, past, long, order)
        ];
        kept = w.kept;
        units = subst (λ (n : ℕ). WorksUnits (index - start) (IsInRange start n) old now) (sym at) w.units;
        sources = subst (λ (n : ℕ). AreKilledFor now start n) (sym at) w.sources;
        alone = w.alone;
        wanted = λ lacks. absurd cc;
      }

  -- if there is no array, or the hash is past all, no bucket is passed
  pub passes_nowhere : (arrays : ArraysView K V) (bound : ℕ) → length arrays.current ≡ 0
      → Passes (λ (i : ℕ). i) bound arrays (Err Nothing) arrays
  passes_nowhere arrays bound none = passes_all arrays arrays 0 0 bound (worked_none arrays 0) (omega (arith, none))
      (λ some. absurd (omega (arith, none, some)))

  pub passes_past : (arrays : ArraysView K V) (bound : ℕ) → bound ≡ 2 ^ 64 → (0 < length arrays.current → IsLength (length arrays.current))
      → Passes (λ (i : ℕ). i) bound arrays (Err Nothing) arrays
  passes_past arrays bound is long =
      let n : ℕ = length arrays.current in
      passes_all arrays arrays n n bound (worked_none arrays n) (omega arith)
      (λ some. (omega (arith, all_hashes n (long some), is), omega (arith, all_hashes n (long some), is, wide n (long some))))

-- without an old array it doesn't fail
pub passes_alone : {K V A : Type 0} (index_of : A → ℕ) (r : Result A Missing) (bound : ℕ) (old new : ArraysView K V)
    → Passes index_of bound old r new → length old.linked ≡ 0 → IsErrAnd r (λ missing. missing ≡ Memory) → ⊥
passes_alone {K} {V} index_of r bound old new p none lacks =
    let within = (p.wanted lacks).within in
    let same = ap (λ (a : ArraysView K V). length a.linked) (p.alone none) in
    absurd (omega (arith, within, same, none))

-- the same result, with another view of what was found
module _ {K V A B : Type 0} (f : A → B) (g : B → ℕ) where
  passes_viewed : (r : Result A Missing) (bound : ℕ) (old new : ArraysView K V)
      → Passes (λ (a : A). g (f a)) bound old r new → Passes g bound old (result_map_both f (λ missing. missing) r) new
  passes_viewed (Ok found) bound old new p = record {
    from = p.from;
    passed = p.passed;
    begins = p.begins;
    count = p.count;
    kept = p.kept;
    units = p.units;
    sources = p.sources;
    alone = p.alone;
    wanted = p.wanted;
  }
  passes_viewed (Err missing) bound old new p = record {
    from = p.from;
    passed = p.passed;
    begins = p.begins;
    count = p.count;
    kept = p.kept;
    units = p.units;
    sources = p.sources;
    alone = p.alone;
    wanted = p.wanted;
  }

  pub departs_viewed : (r : Result A Missing) (side : Side) (index : ℕ) (old new : ArraysView K V)
      → ShrinksThenPasses (λ (a : A). g (f a)) side index old r new
      → ShrinksThenPasses g side index old (result_map_both f (λ missing. missing) r) new
  departs_viewed r side index old new d = record {
    between = d.between;
    asked = d.asked;
    passes = passes_viewed r (bound_of (length (buckets_on old side)) (index + 1)) d.between new d.passes;
  }
