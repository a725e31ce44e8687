-- A current bucket is lent, and is returned with some of its keys.
use Rattle.bucket_table.proofs.Words.{AllByRecursion, AreSourcesKilled, ArraysView, AsksShrinking, Bool, BucketView, Current, Err}
use Rattle.bucket_table.proofs.Words.{IsEntryHome, IsEquivalence, IsLocked, IsOneMap, Keeps, KeepsArrays, KeepsOpenTickets, Meets, Ok}
use Rattle.bucket_table.proofs.Words.{TableView, WorksUnits, ap, arith, arrays_with, bucket_at, bucket_on, cases_Bool, cases_lt, entries_in}
use Rattle.bucket_table.proofs.Words.{false, has_home_in, inl, inr, length, length-set, map-entries_in, recursion_from_All, refl, subst}
use Rattle.bucket_table.proofs.Words.{sym, true, ℕ, ◌+◌, ◌<◌, ◌∙◌, ◌≡◌, ◌≤◌}
use Rattle.bucket_table.specs.Rehash.Units.{NeedsMemory}
use Rattle.bucket_table.specs.Views.ArraysView.{IsSource}
use Rattle.bucket_table.specs.Resize.Asking.{ResizesIf}
use Rattle.bucket_table.specs.Walking.Cursors.{AreKilledFor}
use Rattle.bucket_table.specs.Views.Settings.{KeepsSettings}
use Rattle.bucket_table.specs.Walking.Walks.{BeginsAt, EndsWalk, IsKeptBy, KeepsBuckets, WalksBy}
use Rattle.bucket_table.proofs.Walking.Bounds.{is_in}
use Rattle.bucket_table.proofs.Walking.Each.{each_implies, each_map}
use Rattle.bucket_table.proofs.Walking.HomeSplit.{changed_there, splits, taken_there}
use Rattle.bucket_table.proofs.Views.Keeping.{bag_both, bag_same}
use Rattle.bucket_table.proofs.Views.SettingsKept.{settings_both}
use Rattle.bucket_table.proofs.Views.SideChanges.{changeable_locked, locked_current}
use Rattle.bucket_table.proofs.Rehash.StayingKilled.{sources_still}
use Rattle.bucket_table.proofs.Rehash.NeedingMemory.{needed_before}
use Rattle.bucket_table.proofs.Walking.Leaving.{homes_kept, one_map_losing_on}
use Rattle.bucket_table.proofs.Rehash.UnitRuns.{units_alone}
use Rattle.bucket_table.proofs.Walking.WalkSteps.{IsVisitOf, WalksOn, begins, each_waits, goes_on, walk_units, walk_waits}
use Rattle.bucket_table.specs.Walking.Retains.{LosesKeys}

module _ {K V : Type 0} where
  module _ (eq : K → K → Bool) (laws : IsEquivalence eq) (hash : K → ℕ) (arrays : ArraysView K V)
      (index : ℕ) (left : BucketView K V)
      (one : IsOneMap eq hash arrays) (locked : IsLocked arrays Current index) (kept : IsKeptBy (bucket_on arrays Current index) left) where
    lost : LosesKeys (bucket_on arrays Current index) left
    lost = record { gone = kept.gone; keys = kept.keys; alive = kept.alive ∙ sym (one.placed.homes.alive index locked.within) }

    -- the map is still one
    pub one_map_visited : IsOneMap eq hash (arrays_with arrays Current index left)
    one_map_visited =
        one_map_losing_on eq laws hash arrays Current index left one (changeable_locked arrays Current index locked) lost

    -- and the bucket was lent with all of its pairs
    pub visited : IsVisitOf hash arrays index (bucket_on arrays Current index) left (arrays_with arrays Current index left)
    visited =
        let len : ℕ = length arrays.current in
        let split = splits hash arrays index one.placed locked.within (locked.killed refl) in
        let pair_of : (K × V) × ℕ → K × V = λ entry. entry.0 in
        let homes = homes_kept hash len index (bucket_on arrays Current index) left lost
        (one.placed.homes.current_home index locked.within) in
        record {
          lent_is = taken_there hash arrays index split;
          left_homes = subst (AllByRecursion (λ pair. has_home_in hash len index (index + 1) pair ≡ true)) (map-entries_in left)
              (each_map (λ pair. has_home_in hash len index (index + 1) pair ≡ true) pair_of (entries_in left)
              (each_implies _ (λ entry home. is_in _ _ (hash entry.0.0) home.home.own.0 home.home.own.1)
              (recursion_from_All (IsEntryHome hash len index) _ homes)));
          pairs = changed_there hash arrays index split left;
          len = length-set arrays.current index left;
        }

module _ {K V : Type 0} where
  abbrev pub IsLentAt : (S : Type 0) → (S → BucketView K V → Bool → Bool → BucketView K V → Bool → S
      → Type 0) → ArraysView K V → ℕ → S → Bool → Bool → Bool → S → ArraysView K V → Type 0
  IsLentAt S step arrays index now flag more last next new = (left : BucketView K V)
      × step now (bucket_on arrays Current index) flag more left last next × (new ≡ arrays_with arrays Current index left)

module _ {S K V H : Type 0} (step : S → BucketView K V → Bool → Bool → BucketView K V → Bool → S
    → Type 0) where
  pub one_map_lent : {eq : K → K → Bool} → IsEquivalence eq → (hash : H → K → ℕ) {table seen : TableView K V H} {index : ℕ}
      {now next : S} {flag more last : Bool} {new : ArraysView K V} → table ≡ seen
      → IsOneMap eq (hash table.hasher) table.arrays → IsLocked seen.arrays Current index → KeepsBuckets step
      → IsLentAt S step table.arrays index now flag more last next new → IsOneMap eq (hash table.hasher) new
  one_map_lent {eq} laws hash {table} {seen} {index} {now} {next} {flag} {more} {last} is one locked owes (left, call, new_is) =
      let here = subst (λ (view : TableView K V H). IsLocked view.arrays Current index) (sym is) locked in
      rw new_is (one_map_visited eq laws (hash table.hasher) table.arrays index left one here (owes now next
      (bucket_on table.arrays Current index) left flag more last (one.placed.homes.alive index here.within) call))

module _ {S K V : Type 0} (step : S → BucketView K V → Bool → Bool → BucketView K V → Bool → S
    → Type 0) (hash : K → ℕ) where
  -- the state of a walk over a table between two buckets
  pub record WalkStands (first now : S) (old : ArraysView K V) (from index : ℕ) (flag more : Bool) (table : ArraysView K V) : Type 0 where
    pub walks : WalksOn step hash first now old from index flag more table
    pub killed : AreKilledFor table from index
    pub within : from < index → index ≤ length old.current
    pub bag : KeepsOpenTickets old.tickets table.tickets
    pub minimum : table.minimum ≡ old.minimum
    pub maximum : table.maximum ≡ old.maximum

  killed_wait : {table ready : ArraysView K V} {from index : ℕ} → AreKilledFor table from index
      → KeepsArrays table ready → WorksUnits 1 (λ home. home ≡ index) table ready → AreKilledFor ready from index
  killed_wait {table = table} {ready = ready} killed kept unit = λ home low high.
      sources_still 1 table ready home unit kept.current_len (killed home low high)

  -- and is visited
  pub stands_next : {eq : K → K → Bool} → IsEquivalence eq → {first now next : S} {old table ready new : ArraysView K V} {from index : ℕ}
      {flag last more : Bool} → WalkStands first now old from index flag true table → KeepsArrays table ready
      → WorksUnits 1 (λ home. home ≡ index) table ready → (length table.linked ≡ 0 → ready ≡ table)
      → IsOneMap eq hash ready → IsLocked ready Current index → KeepsBuckets step → IsLentAt S step ready index now flag more last next new
      → WalkStands first next old from (index + 1) last more new
  stands_next {eq} laws {first} {now} {next} {old} {table} {ready} {new} {from} {index} {flag} {last} {more} stands kept unit waits one
      locked owes (left, call, new_is) =
      let keeps = owes now next (bucket_on ready Current index) left flag more last (one.placed.homes.alive index locked.within) call in
      let visit = visited eq laws hash ready index left one locked keeps in
      let done : ArraysView K V = arrays_with ready Current index left in
      let before = killed_wait stands.killed kept unit in
      let after : WalkStands first next old from (index + 1) last more done = record {
        walks = goes_on step hash left stands.walks kept unit waits (locked.killed refl) call visit;
        killed = λ home low high. elim (cases_lt home index) [
          | inl less ↦ subst (λ (len : ℕ). (i : ℕ) → i < length ready.linked → Meets (length ready.linked) i len home
              → (bucket_at ready.linked i).killed ≡ true) (sym visit.len) (before home low less)
          | inr more_or ↦
              let here : index ≡ home = omega (arith, high, more_or) in
              subst (λ (at : ℕ). AreSourcesKilled done at) here (subst (λ (len : ℕ). (i : ℕ) → i < length ready.linked
              → Meets (length ready.linked) i len index → (bucket_at ready.linked i).killed ≡ true) (sym visit.len) (locked.killed refl))
        ];
        within = λ some.
            let first = stands.walks.part.len in
            let second = kept.current_len in
            let below = locked.within in
            omega (arith, first, second, below);
        bag = bag_both old.tickets table.tickets ready.tickets stands.bag kept.keeps.open_tickets;
        minimum = kept.keeps.minimum ∙ stands.minimum;
        maximum = kept.keeps.maximum ∙ stands.maximum;
      } in
      rw new_is after

  -- no bucket was lent yet
  pub stands_first : (first : S) (old : ArraysView K V) (from : ℕ) → WalkStands first first old from from false true old
  stands_first first old from = record {
    walks = begins step hash first old from;
    killed = λ home low high. absurd (omega (arith, low, high));
    within = λ some. absurd (omega (arith, some));
    bag = bag_same old.tickets;
    minimum = refl;
    maximum = refl;
  }

  -- what holds of a table without an old array holds if there was none at first
  pub walks_alone : {R : Type 0} {first now : S} {old table : ArraysView K V} {from index : ℕ} {flag more : Bool}
      → WalkStands first now old from index flag more table → (length table.linked ≡ 0 → R) → length old.linked ≡ 0 → R
  walks_alone {old = old} {table = table} stands holds none =
      holds (units_alone (length stands.walks.visits) old table stands.walks.units none)

  -- a failure ends the walk
  pub walk_refused : {A E : Type 0} {error : E} {expected start : ℕ} {first now : S}
      {old table ready : ArraysView K V} {from index : ℕ} {flag more : Bool} → BeginsAt (length old.current) expected start from
      → WalkStands first now old from index flag more table → KeepsArrays table ready
      → WorksUnits 1 (λ home. home ≡ index) table ready → (length table.linked ≡ 0 → ready ≡ table)
      → NeedsMemory (IsSource ready index) table ready → more ≡ true
      → WalksBy {A = A} step hash expected start first old (Err error) now ready
  walk_refused {old = old} {table = table} {ready = ready} {from = from} {index = index} {flag = flag} at stands kept unit waits matches
      going =
      let part = walk_waits hash stands.walks.part kept in
      let reached = stands.walks.reached in
      record {
        from = from;
        visits = stands.walks.visits;
        flag = flag;
        ended = ready;
        begins = at;
        calls = stands.walks.calls;
        walk = part.walk;
        len = part.len;
        sources = subst (λ (index : ℕ). AreKilledFor ready from index) reached (killed_wait stands.killed kept unit);
        units = walk_units step hash stands.walks unit;
        visited = each_waits old table ready from stands.walks.visits stands.walks.visited (kept, waits);
        within = λ some. let fits = stands.within (omega (arith, reached, some)) in omega (arith, reached, fits);
        wanted = subst (λ (index : ℕ). NeedsMemory (IsSource ready index) old ready) reached
            (needed_before (IsSource ready index) (length stands.walks.visits) old table ready stands.walks.part.len stands.walks.units
            (λ on. (unit.stands on).len) matches);
        whole = tt;
        going = stands.walks.going going;
        ends = refl;
      }

  -- and so does the array's end, or the visitor
  pub walk_ended : {A E : Type 0} {answer : A} {expected start : ℕ} {first now : S}
      {old table new : ArraysView K V} {from index : ℕ} {flag more : Bool} → BeginsAt (length old.current) expected start from
      → WalkStands first now old from index flag more table → (more ≡ true → length table.current ≤ index) → EndsWalk flag table new
      → WalksBy {E = E} step hash expected start first old (Ok answer) now new
  walk_ended {table = table} {from = from} {flag = flag} {more = more} at stands over ends =
      let reached = stands.walks.reached in
      let len = stands.walks.part.len in
      record {
        from = from;
        visits = stands.walks.visits;
        flag = flag;
        ended = table;
        begins = at;
        calls = stands.walks.calls;
        walk = stands.walks.part.walk;
        len = len;
        sources = subst (λ (index : ℕ). AreKilledFor table from index) reached stands.killed;
        units = stands.walks.units;
        visited = stands.walks.visited;
        within = λ some. let fits = stands.within (omega (arith, reached, some)) in omega (arith, reached, fits);
        wanted = tt;
        whole = elim (cases_Bool more) [
          | inl going ↦ inl (omega (arith, reached, len, over going))
          | inr stopped ↦ inr (stands.walks.stopped stopped)
        ];
        going = tt;
        ends = ends;
      }

module _ {S K V H : Type 0} (step : S → BucketView K V → Bool → Bool → BucketView K V → Bool → S
    → Type 0) (hash : K → ℕ) where
  -- what a walk keeps, whatever follows it
  pub settings_walked : {first now : S} {old table new : TableView K V H} {from index : ℕ} {flag more : Bool}
      → WalkStands step hash first now old.arrays from index flag more table.arrays → table.hasher ≡ old.hasher
      → KeepsSettings table new → KeepsSettings old new
  settings_walked {old = old} {table = table} {new = new} stands same kept =
      settings_both old table new
      (record { hasher = same; minimum = stands.minimum; maximum = stands.maximum; bag = stands.bag }) kept

module _ {K V H : Type 0} where
  pub same_parts : {old new : TableView K V H} → new.hasher ≡ old.hasher → new.arrays ≡ old.arrays → new ≡ old
  same_parts {old} {new} hasher arrays = ap (λ (h : H). record { hasher = h; arrays = new.arrays }) hasher ∙ ap
      (λ (a : ArraysView K V). record { hasher = old.hasher; arrays = a }) arrays

  -- the table, seen as its parts
  pub begins_seen : {table seen : TableView K V H} {len expected start from : ℕ} → table ≡ seen
      → len ≡ length table.arrays.current → BeginsAt len expected start from → BeginsAt (length seen.arrays.current) expected start from
  begins_seen {expected = expected} {start = start} {from = from} is long begins =
      subst (λ (view : TableView K V H). BeginsAt (length view.arrays.current) expected start from) is
      (subst (λ (len : ℕ). BeginsAt len expected start from) long begins)

  pub over_seen : {table seen : TableView K V H} {len index : ℕ} → table ≡ seen → len ≡ length table.arrays.current → len ≤ index
      → length seen.arrays.current ≤ index
  over_seen {index = index} is long past = subst (λ (view : TableView K V H). length
      view.arrays.current ≤ index) is (subst (λ (len : ℕ). len ≤ index) long past)

  pub locked_seen : {table seen : TableView K V H} {ready : ArraysView K V} {len index : ℕ} → table ≡ seen
      → len ≡ length table.arrays.current → index < len → KeepsArrays seen.arrays ready → AreSourcesKilled ready index
      → IsLocked ready Current index
  locked_seen {seen = seen} {ready = ready} {len = len} {index = index} is long below kept dead =
      let same : length ready.current ≡ length seen.arrays.current = kept.current_len in
      let held : len ≡ length seen.arrays.current = subst (λ (view : TableView K V H). len ≡ length view.arrays.current) is long in
      locked_current ready index (omega (arith, same, held, below)) dead

module _ {K V : Type 0} where
  pub unshrunk : {flag : Bool} (arrays : ArraysView K V) → flag ≡ false → EndsWalk flag arrays arrays
  unshrunk arrays is = subst (λ (flag : Bool). EndsWalk flag arrays arrays) (sym is) refl

  pub shrunk_at_end : {flag : Bool} {ended new : ArraysView K V} → flag ≡ true
      → ResizesIf (AsksShrinking ended 0) ended new → Keeps ended new → EndsWalk flag ended new
  shrunk_at_end {ended = ended} {new = new} is resized kept = subst (λ (flag : Bool). EndsWalk flag ended new) (sym is) (resized, kept)
