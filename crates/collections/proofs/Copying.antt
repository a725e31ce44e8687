-- A map that was empty, and into which each pair of another is put, has those pairs.
use Rattle.std.proofs.Common.{ℕ, suc, ◌≡◌, ◌∙◌, Bool, false, Option, Some, None, List, [], ◌∷◌, ◌++◌, ap, arith, subst}
use Rattle.std.specs.Prelude.{◌^◌, min}
use Rattle.std.specs.Borrow.{Bor}
use Rattle.std.specs.Cmp.{IsEquivalence}
use Rattle.std.specs.List.{All, FoldsTo, IsDistinct}
use Rattle.std.specs.List.Sorted.{IsPermutation}
use Rattle.std.specs.Map.{keys_of}
use Rattle.std.proofs.lemmas.List.{append-nil}
use Rattle.std.proofs.lemmas.List.Elements.{same_from_all_zip}
use Rattle.std.proofs.lemmas.List.Sorted.{All-permutation, IsPermutation-cons, IsPermutation-middle, IsPermutation-refl}
use Rattle.std.proofs.lemmas.List.Sorted.{IsPermutation-sym, IsPermutation-trans, length_permutation}
use Rattle.std.proofs.lemmas.Map.{lookup-none}
use Rattle.std.proofs.lemmas.Map.Entries.{none_past_head}
use Rattle.bucket_table.specs.Map.Cloning.{AreMadeOf, IsMadeOf}
use Rattle.collections.specs.Changes.{Adds, Stays}
use Rattle.collections.specs.Copies.{BecomesOrGoes, IsCopy}
use Rattle.collections.specs.Maps.{IsEmpty, IsUnique, MapView, get}
use Rattle.collections.proofs.Lookups.{absent_from_lookup, distinct_permuted, lookup_absent, lookup_permuted}

-- what holds for each of two lists together holds for each of the second
all_behind : {X : Type 0} (P : X → Type 0) (xs ys : List X) → All P (xs ++ ys) → All P ys
all_behind P [] ys all = all
all_behind P (x ∷ xs) ys all = all_behind P xs ys (λ i d below. all (suc i) d (omega arith))

module _ {K V H : Type 0} (eq : K → K → Bool) where
  -- a pair is inserted, if its key was absent
  abbrev PutsPair : K × V → MapView K V H → MapView K V H → Type 0
  PutsPair pair old new = get eq old pair.0 ≡ None → Adds eq old pair.0 pair.1 new

  abbrev pub PutsOn : Option (MapView K V H) → K × V → Option (MapView K V H) → Type 0
  PutsOn before pair after = BecomesOrGoes (PutsPair pair) before after

  -- no map follows from `None`
  none_stays : (pairs : List (K × V)) (new : MapView K V H) → FoldsTo PutsOn None pairs (Some new) → ⊥
  none_stays [] new is = absurd cc
  none_stays (pair ∷ pairs) new went = from went.0 (none_stays pairs new) went.1 went.2
    where
      from : (between : Option (MapView K V H)) → (FoldsTo PutsOn None pairs (Some new) → ⊥) → PutsOn None pair between
          → FoldsTo PutsOn between pairs (Some new) → ⊥
      from None deeper put rest = deeper rest
      from (Some m) deeper put rest = put

  abbrev settings : MapView K V H → H × ℕ × ℕ
  settings m = (m.hasher, m.minimum, m.maximum)

  module _ (laws : IsEquivalence eq) where
    -- a map has no key that differs from those of its pairs
    absent_yet : (pair : K × V) (pairs done : List (K × V)) (m : MapView K V H) → IsDistinct eq (keys_of (pair ∷ (pairs ++ done)))
        → IsPermutation done m.entries → get eq m pair.0 ≡ None
    absent_yet pair pairs done m distinct moved =
        let none = absent_from_lookup eq laws pair.0 (pairs ++ done)
        (lookup-none (eq pair.0) (pairs ++ done) (none_past_head laws pair.0 pair (pairs ++ done) distinct (laws.refl pair.0))) in
        let Other : K × V → Type 0 = λ o. eq pair.0 o.0 ≡ false in
        lookup_absent eq laws pair.0 m.entries (All-permutation Other done m.entries moved (all_behind Other pairs done none))

    -- inserted pairs are added to those that were present
    filled : (pairs done : List (K × V)) (old new : MapView K V H) → IsDistinct eq (keys_of (pairs ++ done))
        → IsPermutation done old.entries → FoldsTo PutsOn (Some old) pairs (Some new)
        → IsPermutation (pairs ++ done) new.entries × (settings new ≡ settings old)
    filled [] done old new distinct moved is =
        let same : new ≡ old = cc in
        (rw same moved, ap (λ m. settings m) same)
    filled (pair ∷ pairs) done old new distinct moved went =
        let turned = IsPermutation-sym (pairs ++ pair ∷ done) (pair ∷ (pairs ++ done)) (IsPermutation-middle pairs pair done) in
        let apart = distinct_permuted eq laws (pair ∷ (pairs ++ done)) (pairs ++ pair ∷ done) turned distinct in
        from turned went.0 (λ m more rest. filled pairs (pair ∷ done) m new apart more rest) went.1 went.2
      where
        from : IsPermutation (pair ∷ (pairs ++ done)) (pairs ++ pair ∷ done) → (between : Option (MapView K V H))
            → ((m : MapView K V H) → IsPermutation (pair ∷ done) m.entries → FoldsTo PutsOn (Some m) pairs (Some new)
            → IsPermutation (pairs ++ pair ∷ done) new.entries × (settings new ≡ settings m))
            → PutsOn (Some old) pair between → FoldsTo PutsOn between pairs (Some new)
            → IsPermutation (pair ∷ (pairs ++ done)) new.entries × (settings new ≡ settings old)
        from turned None deeper put rest = absurd (none_stays pairs new rest)
        from turned (Some m) deeper put rest =
            let added = put (absent_yet pair pairs done old distinct moved) in
            let more = IsPermutation-trans (pair ∷ done) (pair ∷ old.entries) m.entries
            (IsPermutation-cons pair done old.entries moved) added.entries in
            let all = deeper m more rest in (
              IsPermutation-trans (pair ∷ (pairs ++ done)) (pairs ++ pair ∷ done) new.entries turned all.0,
              all.1 ∙ (λ i. (added.kept.hasher i, added.kept.minimum i, added.kept.maximum i)),
            )

    -- a map stays if its pairs are only in another order
    stays_moved : (own new : MapView K V H) → IsUnique eq own → IsPermutation own.entries new.entries → settings new ≡ settings own
        → Stays eq own new
    stays_moved own new distinct moved same = record {
      entries = moved;
      len = length_permutation own.entries new.entries moved;
      gets = λ q. lookup_permuted eq laws q own.entries new.entries distinct moved;
      kept = record {
        unique = distinct_permuted eq laws own.entries new.entries moved distinct;
        hasher = ap (λ s. s.0) same;
        minimum = ap (λ s. s.1) same;
        maximum = ap (λ s. s.2) same;
      };
    }

    -- so they are all pairs of a map that was empty
    pub stays_filled : (pairs : List (K × V)) (old new : MapView K V H) → IsDistinct eq (keys_of pairs) → IsEmpty old
        → FoldsTo PutsOn (Some old) pairs (Some new) → Stays eq (record old { entries = pairs }) new
    stays_filled pairs old new distinct empty went =
        let all = filled pairs [] old new (rw (append-nil pairs) distinct) (rw empty (IsPermutation-refl [])) went in
        stays_moved (record old { entries = pairs }) new distinct (rw (append-nil pairs) at all.0) all.1

    -- a map whose pairs are the same is a copy
    pub copied_slots : (post : Bor K → Bor V → Option (K × V) → Type 0)
        → ((key : Bor K) (value : Bor V) (pair : K × V) → post key value (Some pair) → pair ≡ (key.now, value.now))
        → (own new : MapView K V H) → IsUnique eq own → AreMadeOf post own.entries new.entries → new.hasher ≡ own.hasher
        → new.minimum ≡ min own.minimum (2 ^ 63) → new.maximum ≡ 2 ^ 63 → IsCopy eq own new
    copied_slots post is own new unique made hasher minimum maximum =
        let same = same_from_all_zip (IsMadeOf post) own.entries made.pairs made.made (λ x y m. is m.0 m.1 y m.3 ∙ m.2) in
        stays_moved (record own { minimum = min own.minimum (2 ^ 63); maximum = 2 ^ 63 }) new unique
        (subst (λ (l : List (K × V)). IsPermutation l new.entries) same made.all) (λ i. (hasher i, minimum i, maximum i))

    -- so a map that was empty is a copy, with the hasher and the capacities
    pub copied : (own old new : MapView K V H) → IsUnique eq own → IsEmpty old → old.hasher ≡ own.hasher
        → old.minimum ≡ min own.minimum (2 ^ 63) → old.maximum ≡ 2 ^ 63 → FoldsTo PutsOn (Some old) own.entries (Some new)
        → IsCopy eq own new
    copied own old new unique empty hasher minimum maximum went =
        let stays = stays_filled own.entries old new unique empty went in
        record {
          entries = stays.entries;
          len = stays.len;
          gets = stays.gets;
          kept = record {
            unique = stays.kept.unique;
            hasher = stays.kept.hasher ∙ hasher;
            minimum = stays.kept.minimum ∙ minimum;
            maximum = stays.kept.maximum ∙ maximum;
          };
        }
