-- Many pairs or keys inserted in turn: one more of them.
use Rattle.std.proofs.Common.{◌≡◌, Bool, Option, Some, None}
use Rattle.std.proofs.Common.{List, [], ◌∷◌, ◌++◌, ap, refl, sym, subst, ◌∙◌}
use Rattle.std.specs.Option.{MatchOption}
use Rattle.std.specs.List.{FoldsTo}
use Rattle.std.specs.Map.{update_all}
use Rattle.std.specs.Prelude.{Ok, ◌^◌}
use Rattle.std.proofs.lemmas.List.Sorted.{IsPermutation-refl}
use Rattle.std.proofs.lemmas.Map.{update_all_push}
use Rattle.std.proofs.slice.Lists.{chained_more}
use Rattle.collections.specs.Changes.{Adds, Keeps, Replaces, Stays, Updates, Upserts}
use Rattle.collections.specs.Collecting.{PutsAll, empty_map}
use Rattle.collections.specs.Loans.{Puts}
use Rattle.collections.specs.Maps.{IsEmpty, IsUnique, MapView, get}
use Rattle.collections.proofs.Staying.{adds_after, replaces_after, stays_after}

-- a new, empty map
pub new_is : {K V H : Type 0} (m : MapView K V H) → IsEmpty m → m.minimum ≡ 64 → m.maximum ≡ 2 ^ 63
    → (m.slots ≡ 0) × (m.old_slots ≡ 0) → m.bucket_lens ≡ [] → m ≡ empty_map m.hasher
new_is m empty minimum maximum (slots, old_slots) buckets = λ i. record {
  entries = empty i;
  hasher = m.hasher;
  minimum = minimum i;
  maximum = maximum i;
  slots = slots i;
  old_slots = old_slots i;
  bucket_lens = buckets i;
}

module _ {K V H : Type 0} (eq : K → K → Bool) where
  -- an unchanged map has its pairs
  pub stays_same : (m : MapView K V H) → IsUnique eq m → Stays eq m m
  stays_same m unique = record {
    entries = IsPermutation-refl m.entries;
    len = refl;
    gets = λ q. refl;
    kept = record { unique = unique; hasher = refl; minimum = refl; maximum = refl };
  }

  pub keeps_then : (old between new : MapView K V H) → Keeps eq old between → Keeps eq between new → Keeps eq old new
  keeps_then old between new first next = record {
    unique = next.unique;
    hasher = next.hasher ∙ first.hasher;
    minimum = next.minimum ∙ first.minimum;
    maximum = next.maximum ∙ first.maximum;
  }

  module _ (old new : MapView K V H) (key : K) (value : V) where
    put_cases : {A : Type 0} (held : Option V) → (Adds eq old key value new → A)
        → ((own : K) (before : V) → Replaces eq old (eq key) (own, before) value new → A)
        → MatchOption held (Adds eq old key value new) (λ before. (own : K) × Replaces eq old (eq key) (own, before) value new)
        → A
    put_cases None adds replaces put = adds put
    put_cases (Some before) adds replaces put = replaces put.0 before put.1

    -- a value that is put is the one that a look-up finds
    pub put_updates : Puts eq old key value new → Updates eq old (eq key) (Some value) new
    put_updates put = put_cases (get eq old key) (λ a. a.updates) (λ own before r. r.updates) put

    pub put_keeps : Puts eq old key value new → Keeps eq old new
    put_keeps put = put_cases (get eq old key) (λ a. a.kept) (λ own before r. r.kept) put

    -- an upsert puts the value too
    pub upsert_puts : (earlier : Option V) → Upserts eq key value old (Ok earlier) new → Puts eq old key value new
    upsert_puts None added =
        subst (λ (o : Option V). MatchOption o (Adds eq old key value new)
        (λ before. (own : K) × Replaces eq old (eq key) (own, before) value new))
        (sym added.absent) added
    upsert_puts (Some earlier) replaced =
        subst (λ (o : Option V). MatchOption o (Adds eq old key value new)
        (λ before. (own : K) × Replaces eq old (eq key) (own, before) value new))
        (sym replaced.1.value) replaced

  -- the same after a map moved its pairs
  put_after : (old between new : MapView K V H) → Stays eq old between → (key : K) (value : V) → Puts eq between key value new
      → Puts eq old key value new
  put_after old between new stays key value put = from (get eq between key) (stays.gets key) put
    where
      from : (held : Option V) → held ≡ get eq old key
          → MatchOption held (Adds eq between key value new) (λ before. (own : K) × Replaces eq between (eq key) (own, before) value new)
          → Puts eq old key value new
      from None is added = subst (λ (o : Option V). MatchOption o (Adds eq old key value new)
          (λ before. (own : K) × Replaces eq old (eq key) (own, before) value new)) is
          (adds_after eq old between new stays key value added)
      from (Some before) is replaced = subst (λ (o : Option V). MatchOption o (Adds eq old key value new)
          (λ held. (own : K) × Replaces eq old (eq key) (own, held) value new)) is
          (replaced.0, replaces_after eq old between new stays (eq key) (stays.gets key) (replaced.0, before) value replaced.1)

  -- none is put yet
  pub none_put : (m : MapView K V H) → IsUnique eq m → PutsAll eq m [] m
  none_put m unique = record {
    between = m;
    in_turn = refl;
    stays = stays_same m unique;
    gets = λ q. refl;
    kept = (stays_same m unique).kept;
  }

  -- one more is put
  pub one_more_put : (old mid new : MapView K V H) (pairs : List (K × V)) (pair : K × V) → PutsAll eq old pairs mid
      → Puts eq mid pair.0 pair.1 new → PutsAll eq old (pairs ++ pair ∷ []) new
  one_more_put old mid new pairs pair puts put =
      let kept = put_keeps mid new pair.0 pair.1 put in
      record {
        between = new;
        in_turn = chained_more (λ before p after. Puts eq before p.0 p.1 after) old pairs puts.between pair new puts.in_turn
            (put_after puts.between mid new puts.stays pair.0 pair.1 put);
        stays = stays_same new kept.unique;
        gets = λ q. put_updates mid new pair.0 pair.1 put q ∙ update_all_push eq (get eq old) (get eq mid) pairs pair q (puts.gets q);
        kept = keeps_then old mid new puts.kept kept;
      }

  -- and the map may move its pairs afterwards
  pub put_then_stays : (old mid new : MapView K V H) (pairs : List (K × V)) → PutsAll eq old pairs mid → Stays eq mid new
      → PutsAll eq old pairs new
  put_then_stays old mid new pairs puts stays = record {
    between = puts.between;
    in_turn = puts.in_turn;
    stays = stays_after eq puts.between mid new puts.stays stays;
    gets = λ q. stays.gets q ∙ puts.gets q;
    kept = keeps_then old mid new puts.kept stays.kept;
  }

  -- a map moved its pairs, and then some were inserted
  pub stays_then_put : (old mid new : MapView K V H) (pairs : List (K × V)) → Stays eq old mid → PutsAll eq mid pairs new
      → PutsAll eq old pairs new
  stays_then_put old mid new pairs stays puts =
      let turn = from_before pairs puts.between puts.stays puts.in_turn in
      record {
        between = turn.0;
        in_turn = turn.1;
        stays = turn.2;
        gets = λ q. puts.gets q ∙ ap (λ (held : K → Option V). update_all eq held pairs q) (λ i k. stays.gets k i);
        kept = keeps_then old mid new stays.kept puts.kept;
      }
    where
      from_before : (pairs : List (K × V)) (between : MapView K V H) → Stays eq between new
          → FoldsTo (λ before p after. Puts eq before p.0 p.1 after) mid pairs between
          → (b : MapView K V H) × FoldsTo (λ before p after. Puts eq before p.0 p.1 after) old pairs b × Stays eq b new
      from_before [] between last is = (old, refl, stays_after eq old mid new stays (subst (λ m. Stays eq m new) (sym is) last))
      from_before (p ∷ ps) between last went = (between, (went.0, put_after old mid went.0 stays p.0 p.1 went.1, went.2), last)

  -- a map that was made empty; nothing else is known of it
  pub put_into_new : (first made : MapView K V H) (pairs : List (K × V)) → IsEmpty first → first.minimum ≡ 64 → first.maximum ≡ 2 ^ 63
      → (first.slots ≡ 0) × (first.old_slots ≡ 0) → first.bucket_lens ≡ [] → PutsAll eq first pairs made
      → PutsAll eq (empty_map made.hasher) pairs made
  put_into_new first made pairs empty minimum maximum slots buckets puts =
      subst (λ (h : H). PutsAll eq (empty_map h) pairs made) (sym puts.kept.hasher)
      (subst (λ m. PutsAll eq m pairs made) (new_is first empty minimum maximum slots buckets) puts)
