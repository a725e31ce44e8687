-- What finding a bucket for a writer, and preparing a home, leave of a table.
use Rattle.bucket_table.proofs.Words.{ArePlaced, AreSourcesKilled, ArraysView, Current, Err, IfErr, IfOk, IfSome, IsHome, IsLocked, Keeps}
use Rattle.bucket_table.proofs.Words.{KeepsArrays, KeepsPairs, None, Ok, Old, OnErr, OnOk, Option, ResizesIf, Result, Side, Some, TableView}
use Rattle.bucket_table.proofs.Words.{WorksUnits, ℕ, ap, arith, buckets_on, cases_lt, inl, inr, length, refl, subst, sym, ◌*◌, ◌<◌, ◌∙◌, ◌≡◌, ◌⊎◌}
use Rattle.bucket_table.specs.Map.Finding.{Finds, FindsBucket, FindsNone, MakesReady, ReadiesOrGrows, ReadiesThenGrows}
use Rattle.bucket_table.specs.Map.Preparing.{HomeNeedsMemory, IsMissing, IsPrepared, IsReady}
use Rattle.bucket_table.specs.Resize.Growing.{Grows, WriterAsksGrowth}
use Rattle.bucket_table.specs.Resize.Overfull.{GrowsOverfull}
use Rattle.bucket_table.specs.declared.arrays.Missing.{Missing}
use Rattle.bucket_table.specs.declared.arrays.Missing.TheVariants.{Memory, Nothing}
use Rattle.bucket_table.specs.declared.hash_table.ResizeRule.{ResizeRule}
use Rattle.bucket_table.specs.declared.hash_table.ResizeRule.TheVariants.{Counted, Sampled}
use Rattle.bucket_table.specs.Map.MapState.{state_of}
use Rattle.bucket_table.specs.Map.Free.{IsRoomy}
use Rattle.bucket_table.proofs.Rehash.UnitRuns.{units_wider}
use Rattle.bucket_table.proofs.Scripts.CallSteps.{then_kept}
use Rattle.bucket_table.proofs.Views.Keeping.{keeps_both, keeps_same, kept_none}
use Rattle.bucket_table.proofs.Resize.Following.{pushed_keeps}
use Rattle.bucket_table.proofs.Resize.Growing.{locked_grown}
use Rattle.bucket_table.proofs.Resize.Settling.{stays_unasked}
use Rattle.bucket_table.proofs.Views.SideChanges.{locked_current}
use Rattle.bucket_table.proofs.Map.MapKept.{hasher_kept, state_found}

module _ {K V : Type 0} where
  -- with the rule `Sampled`, no overfull home causes a growth
  pub readies_sampled : (kind hash : ℕ) (old : ArraysView K V) (side : Side) (index : ℕ) (new : ArraysView K V)
      → ReadiesOrGrows Sampled kind hash old side index new → ReadiesThenGrows kind hash old side index new
  unfolding ReadiesOrGrows
  readies_sampled kind hash old side index new (inl readies) = readies
  readies_sampled kind hash old side index new (inr (overfull, on, grows)) = absurd cc

  -- it failed beside an old array, or for the first array
  pub none_found : (hash : ℕ) (old new : ArraysView K V) → (0 < length old.linked → KeepsArrays old new)
      → WorksUnits 1 (IsHome (length new.current) hash) old new
      → (length old.linked ≡ 0 → (length old.current ≡ 0) × (new ≡ old)) → (0 < length new.current → HomeNeedsMemory hash old new)
      → FindsNone hash old new
  none_found hash old new beside units alone home = record {
    kept = elim (cases_lt 0 (length old.linked)) [
      | inl some ↦ beside some
      | inr none ↦ rw (alone (omega (arith, none))).1 (kept_none old)
    ];
    units = units;
    alone = alone;
    home = home;
  }

  -- the bucket that is made ready is a hash's home
  pub home_worked : (hash index : ℕ) (old new : ArraysView K V) → IsHome (length old.current) hash index
      → length new.current ≡ length old.current → WorksUnits 1 (λ home. home ≡ index) old new
      → WorksUnits 1 (IsHome (length new.current) hash) old new
  home_worked hash index old new home same units =
      units_wider (IsHome (length new.current) hash) 1 old new
      (λ i here. subst (IsHome (length new.current) hash) (sym here) (rw same home)) units

  -- and it is ready if its sources are killed
  pub home_ready : {A E : Type 0} (hash index : ℕ) (old new : ArraysView K V) (result : Result A E)
      → IsHome (length old.current) hash index → length new.current ≡ length old.current → OnOk result (AreSourcesKilled new index)
      → OnOk result (IsReady new hash)
  home_ready hash index old new (Ok done) home same killed =
      let here : IsHome (length new.current) hash index = rw same home in
      record {
        stands = omega (arith, home.within, same);
        killed = λ i other. subst (AreSourcesKilled new) (sym (here.the_one i other.own)) killed;
      }
  home_ready hash index old new (Err error) home same killed = tt

  -- and there is only one
  pub one_home : (hash index : ℕ) (old new : ArraysView K V) → IsHome (length new.current) hash index
      → WorksUnits 1 (IsHome (length new.current) hash) old new → WorksUnits 1 (λ home. home ≡ index) old new
  one_home hash index old new home units = units_wider (λ other. other ≡ index) 1 old new (λ i other. home.the_one i other.own) units

  -- a home is ready after its preparation, or memory was needed
  pub home_answered : {A : Type 0} (hash : ℕ) (old new : ArraysView K V) (result : Result A Missing) → OnOk result (IsReady new hash)
      → IfErr result (λ missing. IsMissing missing old) → (result ≡ Err Memory → HomeNeedsMemory hash old new)
      → length new.current ≡ length old.current → 0 < length new.current → IsReady new hash ⊎ HomeNeedsMemory hash old new
  home_answered hash old new (Ok done) ready missing matches same stands = inl ready
  home_answered hash old new (Err Nothing) ready missing matches same stands = absurd (omega (arith, missing, same, stands))
  home_answered hash old new (Err Memory) ready missing matches same stands = inr (matches refl)

-- what happens to the arrays happens to the table
module _ {K V H : Type 0} (kind hash : ℕ) (hasher : H) (a new : ArraysView K V) where
  abbrev over : ArraysView K V → TableView K V H
  over b = record { hasher = hasher; arrays = b }

  pub prepared : KeepsArrays a new → WorksUnits 1 (IsHome (length new.current) hash) a new → (length a.linked ≡ 0 → new ≡ a)
      → (0 < length new.current → IsReady new hash ⊎ HomeNeedsMemory hash a new) → IsPrepared kind hash (over a) (over new)
  prepared kept units alone home = record {
    map = state_found kind hasher a new kept.keeps;
    kept = kept;
    units = units;
    alone = λ none. ap (λ (b : ArraysView K V). over b) (alone none);
    home = home;
  }

  -- the result of the arrays is that of the table
  pub finds : {E : Type 0} (rule : ResizeRule) (result : Result (Side × ℕ) E) → Keeps a new
      → IfOk result (λ found. IsLocked new found.0 found.1)
      → IfOk result (λ found. IsHome (length (buckets_on new found.0)) hash found.1)
      → IfOk result (λ found. ReadiesThenGrows kind hash a found.0 found.1 new) → OnErr result (FindsNone hash a new)
      → Finds rule kind hash (over a) result (over new)
  unfolding ReadiesOrGrows
  finds rule (Ok at) kept locked home ready none =
      record { map = state_found kind hasher a new kept; kept = kept; home = home; locked = locked; found = inl ready }
  finds rule (Err e) kept locked home ready none = record {
    prepared = prepared none.kept none.units (λ gone. (none.alone gone).1) (λ stands. inr (none.home stands));
    alone = λ gone. (none.alone gone).0;
    home = none.home;
  }

  -- a bucket that was ready, and may have grown
  module _ (first : TableView K V H) where
    pub found_ready : (side : Side) (index : ℕ) → IsPrepared kind hash first (over a) → IsReady a hash
        → IsHome (length a.current) hash index → Keeps a new → ResizesIf (WriterAsksGrowth kind hash a index) a new → Grows side a new
        → IsLocked new side index → IsHome (length (buckets_on new side)) hash index
        → (rule : ResizeRule) → FindsBucket rule kind hash first side index (over new)
    unfolding ReadiesOrGrows ReadiesThenGrows
    found_ready side index prepared ready home kept asked grown locked at_home rule =
        let readies : MakesReady first.arrays index a = record {
          first = λ none.
              let same = ap (λ (t : TableView K V H). t.arrays) (prepared.alone none) in
              ((λ stands. same), (λ lacks. absurd (omega (arith, ready.stands, lacks, prepared.kept.current_len))));
          beside = λ some. prepared.kept;
          units = one_home hash index first.arrays a home prepared.units;
          killed = ready.killed index home;
        } in
        record {
          map = then_kept (state_of kind first) (state_of kind (over a)) (state_of kind (over new)) prepared.map
              (state_found kind hasher a new kept);
          kept = keeps_both first.arrays a new prepared.kept.keeps kept;
          home = at_home;
          locked = locked;
          found = inl (a, readies, asked, grown);
        }

  -- a roomy home is found as it is
  pub roomy_found : (index : ℕ) → IsRoomy a hash index → (rule : ResizeRule)
      → FindsBucket rule kind hash (over a) Current index (over a)
  unfolding ReadiesOrGrows ReadiesThenGrows
  roomy_found index roomy rule =
      let no_old : (i : ℕ) → i < length a.linked → ⊥ = λ i below. omega (arith, below, roomy.alone) in
      let killed : AreSourcesKilled a index = λ i below source. absurd (no_old i below) in
      let some = roomy.home.within in record {
        map = state_found kind hasher a a (keeps_same a);
        kept = keeps_same a;
        home = roomy.home;
        locked = record { within = some; killed = λ e. killed; alive = λ e. absurd cc; vacant = λ e. absurd cc };
        found = inl (
          a,
          record {
            first = λ alone. (λ stands. refl, λ none. absurd (omega arith));
            beside = λ stands. kept_none a;
            units = record { stands = λ stands. absurd (omega (arith, stands, roomy.alone)); only = λ i alive. inr alive };
            killed = killed;
          },
          stays_unasked a (λ asks. let full = asks.full in let few = roomy.few in omega arith),
          refl,
        );
      }

  pub roomy_finds : (found : Option ℕ) → IfSome found (λ index. IsRoomy a hash index)
      → IfSome found (λ index. IsLocked a Current index)
      × (IfSome found (λ index. IsHome (length a.current) hash index)
      × IfSome found (λ index. (rule : ResizeRule) → FindsBucket rule kind hash (over a) Current index (over a)))
  roomy_finds None none = (tt, (tt, tt))
  roomy_finds (Some index) roomy =
      let finds = roomy_found index roomy in
      ((finds Sampled).locked, ((finds Sampled).home, finds))

module _ {K V H : Type 0} where
  -- an overfull home is found, now in the old array
  pub found_grown : (kind hash : ℕ) (old : TableView K V H) (index : ℕ) (new : TableView K V H) → (hash_of : K → ℕ)
      → ArePlaced hash_of old.arrays → KeepsPairs (state_of kind old) (state_of kind new) → GrowsOverfull hash old.arrays new.arrays
      → IsHome (length new.arrays.linked) hash index → FindsBucket Counted kind hash old Old index new
  unfolding ReadiesOrGrows
  found_grown kind hash old index new hash_of placed map grows home =
      let pushed = grows.pushed in
      let len = ap (λ (a : ArraysView K V). length a.linked) pushed.new_is in
      let within : index < length old.arrays.current = omega (arith, home.within, len) in
      let locked = locked_current old.arrays index within (λ i below source. absurd (omega (arith, below, pushed.alone))) in
      record {
        map = map;
        kept = pushed_keeps _ old.arrays new.arrays pushed;
        home = home;
        locked = locked_grown Old index old.arrays new.arrays hash_of (64 * length old.arrays.current, pushed) placed locked;
        found = inr (refl, refl, grows);
      }

  -- and one that isn't overfull is found in the arrays as they were
  pub found_ungrown : {E : Type 0} (rule : ResizeRule) (kind hash : ℕ) (old between new : TableView K V H) (r : Result (Side × ℕ) E)
      → KeepsPairs (state_of kind old) (state_of kind between) → between.arrays ≡ old.arrays → Finds rule kind hash between r new
      → Finds rule kind hash old r new
  found_ungrown rule kind hash old between new r keeps same finds =
      let is : between ≡ old = ap (λ (h : H). record { hasher = h; arrays = between.arrays }) (hasher_kept _ _ keeps)
      ∙ ap (λ (a : ArraysView K V). record { hasher = old.hasher; arrays = a }) same in
      subst (λ (t : TableView K V H). Finds rule kind hash t r new) is finds
