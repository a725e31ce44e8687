-- A cursor sweeps a table.
use Rattle.bucket_table.proofs.Words.{ArePlaced, ArraysView, Bool, BucketView, Current, Err, HasNoNewMark, IsLength, IsLocked}
use Rattle.bucket_table.proofs.Words.{IsPermutation, KeepsOpenTickets, KeepsPairs, MarksBy, Ok, Place, Result, TableView, [], ap, arith}
use Rattle.bucket_table.proofs.Words.{arrays_with, bound_of, bucket_on, by-no_new, by-trans, counted, inl, inr, length, length-set}
use Rattle.bucket_table.proofs.Words.{tombstones_of, min, pairs_ahead, pairs_in, pairs_of, refl, subst, sym, ℕ, ◌++◌, ◌+◌, ◌-◌, ◌<◌, ◌^◌, ◌∙◌}
use Rattle.bucket_table.proofs.Words.{◌∷◌, ◌≡◌, ◌≢◌, ◌≤◌, ◌⊎◌}
use Rattle.bucket_table.specs.Walking.Cursors.{IsFoundFrom, Leaves, ReachesPast, SetsOut, ShrinksThenPasses}
use Rattle.bucket_table.specs.Map.MapState.{state_of}
use Rattle.bucket_table.specs.Walking.Retains.{IsSwept, IsSweptBelow}
use Rattle.bucket_table.specs.Views.Settings.{KeepsSettings}
use Rattle.bucket_table.specs.Walking.Sweeps.{RetainsAt, Sweeps, SweepsAt}
use Rattle.bucket_table.specs.declared.arrays.Missing.{Missing}
use Rattle.bucket_table.specs.declared.arrays.Missing.TheVariants.{Memory, Nothing}
use Rattle.bucket_table.proofs.Walking.Bounds.{bound_fits}
use Rattle.bucket_table.proofs.Walking.HomeSplit.{changed_there, splits, taken_there}
use Rattle.bucket_table.proofs.Resize.Settling.{not_asked}
use Rattle.bucket_table.proofs.Views.MarksKept.{by-bucket}
use Rattle.bucket_table.proofs.Scripts.RunSteps.{run_more}
use Rattle.bucket_table.proofs.Views.SettingsKept.{settings_both, settings_kept, settings_swept}
use Rattle.bucket_table.proofs.Views.SideChanges.{arrays_with-same}
use Rattle.bucket_table.proofs.Walking.Sweeping.{IsSweeping, sweep_begins, sweep_ends, sweep_moves, sweep_stops, sweep_visits}

-- the number of hashes ahead of a cursor, plus one
abbrev pub hashes_left : ℕ → Result ℕ Missing → ℕ
hashes_left len (Ok index) = 2 ^ 64 + 1 - bound_of len (index + 1)
hashes_left len (Err missing) = 0

module _ {K V : Type 0} (IsTest : (K × V → Bool) → Type 0) (hash : K → ℕ) where
  -- a sweep that is over: all is swept, or, if allocation failed, the pairs below some bound
  abbrev pub IsOver : ArraysView K V → ArraysView K V → ℕ → Missing → Type 0
  IsOver old now count Nothing = (test : K × V → Bool) → IsTest test → IsSwept test (pairs_of old) (pairs_of now) count
  IsOver old now count Memory =
      (bound : ℕ) × ((test : K × V → Bool) → IsTest test → IsSweptBelow hash bound test (pairs_of old) (pairs_of now))

  -- the state of a sweep between two buckets
  abbrev pub SweepsOn : ArraysView K V → ArraysView K V → ℕ → Result ℕ Missing → Type 0
  SweepsOn old now count (Ok index) = IsLocked now Current index × IsSweeping IsTest hash (pairs_of old) (pairs_of now)
      (bound_of (length now.current) index) (bound_of (length now.current) (index + 1)) count
      × (pairs_in (bucket_on now Current index) ≢ [])
  SweepsOn old now count (Err missing) = IsOver old now count missing

  -- a sweep that has reached a bound, or begins, continues where a cursor does
  sweep_goes : (old now next : ArraysView K V) (count high : ℕ) (found : Result ℕ Missing) (at : Place)
      → IsSweeping IsTest hash (pairs_of old) (pairs_of now) high high count
      → IsPermutation (pairs_of now) (pairs_of next) → IsFoundFrom hash high found next at
      → ReachesPast high found next ⊎ (high ≡ 0) → SweepsOn old next count found
  sweep_goes old now next count high (Ok index) at s kept goes past = (
    goes.locked,
    sweep_moves IsTest hash (pairs_of old) (pairs_of now) (pairs_of next) (bound_of (length next.current) index) high
        (bound_of (length next.current) (index + 1)) count kept
        (elim past [ inl more ↦ omega (arith, more) | inr none ↦ omega (arith, none) ]) goes.passed s,
    λ none. let there : [] ≡ goes.pair ∷ pairs_ahead (bucket_on next Current index) at = sym none ∙ goes.first in cc,
  )
  sweep_goes old now next count high (Err Nothing) at s kept goes past = sweep_ends IsTest hash (pairs_of old) (pairs_of now)
      (pairs_of next) high count s kept (goes.none refl)
  sweep_goes old now next count high (Err Memory) at s kept goes past =
      (high, λ test means. sweep_stops IsTest hash (pairs_of old) (pairs_of now) (pairs_of next) high count s kept test means)

  -- it has swept the bucket
  sweep_through : {kind epoch : ℕ} (old now visited : ArraysView K V) (count taken more index : ℕ) → ArePlaced hash now
      → SweepsOn old now count (Ok index) → RetainsAt IsTest kind epoch now index taken visited → more ≡ min (count + taken) (2 ^ 64 - 1)
      → IsSweeping IsTest hash (pairs_of old) (pairs_of visited) (bound_of (length visited.current) (index + 1))
      (bound_of (length visited.current) (index + 1)) more
  sweep_through old now visited count taken more index law s r counted =
      let split = splits hash now index law s.0.within (s.0.killed refl) in
      rw (r.new_is, length-set now.current index r.left) (sweep_visits IsTest hash (length now.current) index (pairs_of old) (pairs_of now)
      (pairs_of (arrays_with now Current index r.left)) (bucket_on now Current index) r.left count taken more s.1
      (taken_there hash now index split) (changed_there hash now index split r.left) r.retains counted)

module _ {K V : Type 0} (IsTest : (K × V → Bool) → Type 0) where
  -- without an old array nothing changes as long as no pair is removed
  course_alone : {kind epoch : ℕ} (now visited next : ArraysView K V) (index taken : ℕ) (place : Result ℕ Missing)
      → pairs_in (bucket_on now Current index) ≢ [] → RetainsAt IsTest kind epoch now index taken visited
      → ShrinksThenPasses (λ to. to) Current index visited place next
      → length now.linked ≡ 0 → taken ≡ 0 → next ≡ now
  course_alone now visited next index taken place some r d alone none =
      let same : visited ≡ now = r.new_is ∙ ap (λ (b : BucketView K V). arrays_with now Current index b) (r.retains.unchanged none)
      ∙ arrays_with-same now Current index in
      let between : d.between ≡ visited =
      not_asked (λ asked. some (ap (λ (a : ArraysView K V). pairs_in (bucket_on a Current index)) (sym same) ∙ asked.0)) d.asked in
      let beside : length d.between.linked ≡ 0 = ap (λ (a : ArraysView K V). length a.linked) (between ∙ same) ∙ alone in
      d.passes.alone beside ∙ between ∙ same

module _ {K V H : Type 0} (IsTest : (K × V → Bool) → Type 0) (hash : H → K → ℕ) (kind epoch : ℕ) (old : TableView K V H) where
  -- the state of a table's sweep between two buckets
  pub record SweepStands (now : TableView K V H) (count : ℕ) (place : Result ℕ Missing) : Type 0 where
    pub settings : KeepsSettings old now
    pub on : SweepsOn IsTest (hash old.hasher) old.arrays now.arrays count place
    pub course : Sweeps IsTest kind epoch old.arrays (record { place = place; arrays = now.arrays })
    pub alone : length old.arrays.linked ≡ 0 → count ≡ 0 → now.arrays ≡ old.arrays
    pub marks : MarksBy epoch (tombstones_of old.arrays) (tombstones_of now.arrays)

  pub stands_first : {next : TableView K V H} {place : Result ℕ Missing} {at : Place}
      → SetsOut kind hash old place at next → SweepStands next 0 place
  stands_first {next = next} {place = place} {at = at} out = record {
    settings = settings_kept kind old next out.map out.bag;
    on = sweep_goes IsTest (hash old.hasher) old.arrays old.arrays next.arrays 0 0 place at
        (sweep_begins IsTest (hash old.hasher) (pairs_of old.arrays)) out.map.pairs out.found (inr refl);
    course = record {
      first = record { place = place; arrays = next.arrays };
      sets_out = out.passes;
      indices = [];
      places = [];
      run = refl;
    };
    alone = λ none zero_count. out.passes.alone none;
    marks = by-no_new epoch (tombstones_of old.arrays) (tombstones_of next.arrays) out.marks;
  }

  -- a bucket was swept, and the cursor has left it
  pub stands_next : {now visited next : TableView K V H} {count taken more index : ℕ} {here place : Result ℕ Missing} (at : Place)
      → SweepStands now count here → here ≡ Ok index → ArePlaced (hash now.hasher) now.arrays
      → visited.hasher ≡ now.hasher → RetainsAt IsTest kind epoch now.arrays index taken visited.arrays
      → more ≡ min (count + taken) (2 ^ 64 - 1)
      → KeepsPairs (state_of kind visited) (state_of kind next) → KeepsOpenTickets visited.arrays.tickets next.arrays.tickets
      → Leaves (hash visited.hasher) (bound_of (length visited.arrays.current) (index + 1)) place next.arrays at
      → HasNoNewMark (tombstones_of visited.arrays) (tombstones_of next.arrays)
      → ShrinksThenPasses (λ to. to) Current index visited.arrays place next.arrays → SweepStands next more place
  stands_next {now} {visited} {next} {count} {taken} {more} {index} {here} {place} at stands is law same retained counted kept bag
      leaves none_new departs =
      let law' = subst (λ (h : H). ArePlaced (hash h) now.arrays) stands.settings.hasher law in
      let seen = settings_both old now visited stands.settings (settings_swept IsTest now visited index taken same retained) in
      let on = subst (λ (place : Result ℕ Missing). SweepsOn IsTest (hash old.hasher) old.arrays now.arrays count place) is stands.on in
      let through = sweep_through IsTest (hash old.hasher) old.arrays now.arrays visited.arrays count taken more index law' on retained
      counted in
      let found = subst (λ (h : H). IsFoundFrom (hash h) (bound_of (length visited.arrays.current) (index + 1)) place next.arrays at)
      seen.hasher leaves.0 in
      record {
        settings = settings_both old visited next seen (settings_kept kind visited next kept bag);
        on = sweep_goes IsTest (hash old.hasher) old.arrays visited.arrays next.arrays more _ place at through kept.pairs found
            (inl leaves.1);
        course = record {
          first = stands.course.first;
          sets_out = stands.course.sets_out;
          indices = stands.course.indices ++ index ∷ [];
          places = stands.course.places ++ place ∷ [];
          run = run_more (SweepsAt IsTest kind epoch) stands.course.first (record { place = here; arrays = now.arrays })
              (record { place = place; arrays = next.arrays }) stands.course.indices stands.course.places index place
              stands.course.run (record {
                here = is;
                next = refl;
                visited = visited.arrays;
                count = taken;
                retained = retained;
                departs = departs;
              });
        };
        alone = λ none no_more.
            let before = stands.alone none (omega (arith, counted, no_more)) in
            let beside : length now.arrays.linked ≡ 0 = ap (λ (a : ArraysView K V). length a.linked) before ∙ none in
            course_alone IsTest now.arrays visited.arrays next.arrays index taken place on.2 retained departs beside
            (omega (arith, counted, no_more)) ∙ before;
        marks = by-trans epoch (tombstones_of old.arrays) (tombstones_of visited.arrays) (tombstones_of next.arrays)
            (by-trans epoch (tombstones_of old.arrays) (tombstones_of now.arrays) (tombstones_of visited.arrays) stands.marks
            (rw retained.new_is (by-bucket epoch now.arrays Current index retained.left retained.marks)))
            (by-no_new epoch (tombstones_of visited.arrays) (tombstones_of next.arrays) none_new);
      }

  -- then fewer hashes are left
  pub fewer_hashes : {now : TableView K V H} {visited : ArraysView K V} (next : ArraysView K V) {count taken index : ℕ}
      {here : Result ℕ Missing} (place : Result ℕ Missing) → SweepStands now count here → here ≡ Ok index
      → (0 < length now.arrays.current → IsLength (length now.arrays.current))
      → RetainsAt IsTest kind epoch now.arrays index taken visited → ReachesPast (bound_of (length visited.current) (index + 1)) place next
      → hashes_left (length next.current) place < hashes_left (length now.arrays.current) here
  fewer_hashes {now} next {count = count} {index = index} place stands is long retained past =
      let len : ℕ = length now.arrays.current in
      let on = subst (λ (place : Result ℕ Missing). SweepsOn IsTest (hash old.hasher) old.arrays now.arrays count place) is stands.on in
      let within : index < len = on.0.within in
      let same = ap (λ (a : ArraysView K V). length a.current) retained.new_is ∙ length-set now.arrays.current index retained.left in
      let past' = subst (λ (n : ℕ). ReachesPast (bound_of n (index + 1)) place next) same past in
      subst (λ (here : Result ℕ Missing). hashes_left (length next.current) place < hashes_left len here) (sym is)
      (fewer (bound_of len (index + 1)) place (bound_fits len index (long (omega (arith, within))) within) past')
    where
      fewer : (high : ℕ) (found : Result ℕ Missing) → high ≤ 2 ^ 64 → ReachesPast high found next
          → hashes_left (length next.current) found < 2 ^ 64 + 1 - high
      fewer high (Ok j) fits past = omega (arith, fits, past)
      fewer high (Err missing) fits past = omega (arith, fits)
