-- Pairs put into a cache's array one by one: putting some and then others is putting all.
use Rattle.bucket_table.proofs.Words.{Bool, BucketView, IsDistinct, IsDistinct-tail, IsEquivalence, IsPermutation}
use Rattle.bucket_table.proofs.Words.{IsPermutation-append_comm, IsPermutation-append_left, IsPermutation-append_right, IsPermutation-refl}
use Rattle.bucket_table.proofs.Words.{IsPermutation-trans, List, TableView, ℕ, [], ap, append_assoc, arith, length, length-set, pairs_of}
use Rattle.bucket_table.proofs.Words.{refl, subst, sym, ◌++◌, ◌∙◌, ◌∷◌, ◌≡◌}
use Rattle.bucket_table.specs.Resize.Renewing.{Awaits, Pours, PutsEach}
use Rattle.bucket_table.proofs.Map.MapSteps.{distinct_kept}
use Rattle.bucket_table.proofs.Moves.CarriedPairs.{keys}

-- two lists before a third change places
moved_over : {A : Type 0} (xs ys zs : List A) → IsPermutation (xs ++ (ys ++ zs)) (ys ++ (xs ++ zs))
moved_over xs ys zs =
    rw (← append_assoc xs ys zs, ← append_assoc ys xs zs)
    (IsPermutation-append_left zs (xs ++ ys) (ys ++ xs) (IsPermutation-append_comm xs ys))

-- the pairs put from two lists, those that were evicted, and those that are present
module _ {A : Type 0} (xs ys all : List A) where
  later_first : IsPermutation ((xs ++ ys) ++ all) (ys ++ (xs ++ all))
  later_first = rw (append_assoc xs ys all) (moved_over xs ys all)

  over_gone : (gone left : List A) → IsPermutation (xs ++ all) (gone ++ left) → IsPermutation ((xs ++ ys) ++ all) (gone ++ (ys ++ left))
  over_gone gone left parts =
      IsPermutation-trans _ _ _ later_first
      (IsPermutation-trans _ _ _ (IsPermutation-append_right ys (xs ++ all) (gone ++ left) parts) (moved_over ys gone left))

module _ {K V : Type 0} (hash : K → ℕ) where
  puts_both : (old between new : List (BucketView K V)) (xs ys : List (K × V)) → PutsEach hash old xs between → PutsEach hash between ys new
      → PutsEach hash old (xs ++ ys) new
  puts_both old between new [] ys first then = subst (λ (buckets : List (BucketView K V)). PutsEach hash buckets ys new) first then
  puts_both old between new (pair ∷ xs) ys (middle, home, rest) then = (middle, home, puts_both middle between new xs ys rest then)

  as_many : (old new : List (BucketView K V)) (pairs : List (K × V)) → PutsEach hash old pairs new → length new ≡ length old
  as_many old new [] same = ap length same
  as_many old new (pair ∷ pairs) (middle, home, rest) = as_many middle new pairs rest ∙ ap length home.4 ∙ length-set old home.0 _

module _ {K V H : Type 0} (hash : H → K → ℕ) where
  pub pours_none : (table : TableView K V H) → Pours hash table [] table
  pours_none table = record { each = refl; others = refl; gone = []; parts = IsPermutation-refl (pairs_of table.arrays) }

  pub pours_both : (old between new : TableView K V H) (xs ys : List (K × V)) → Pours hash old xs between → Pours hash between ys new
      → Pours hash old (xs ++ ys) new
  pours_both old between new xs ys first then = record {
    each =
        let hasher : between.hasher ≡ old.hasher = ap (λ (t : TableView K V H). t.hasher) first.others in
        puts_both (hash old.hasher) old.arrays.current between.arrays.current new.arrays.current xs ys first.each
        (subst (λ (h : H). PutsEach (hash h) between.arrays.current ys new.arrays.current) hasher then.each);
    others = then.others
        ∙ ap (λ (t : TableView K V H). record t { arrays = record t.arrays { current = new.arrays.current } }) first.others;
    gone = first.gone ++ then.gone;
    parts = rw (append_assoc first.gone then.gone (pairs_of new.arrays))
        (IsPermutation-trans _ _ _ (over_gone xs ys (pairs_of old.arrays) first.gone (pairs_of between.arrays) first.parts)
        (IsPermutation-append_right first.gone _ _ then.parts));
  }

module _ {K V : Type 0} {eq : K → K → Bool} (laws : IsEquivalence eq) where
  distinct_later : (xs ys : List (K × V)) → IsDistinct eq (keys (xs ++ ys)) → IsDistinct eq (keys ys)
  distinct_later [] ys distinct = distinct
  distinct_later (pair ∷ xs) ys distinct = distinct_later xs ys (IsDistinct-tail eq pair.0 (keys (xs ++ ys)) distinct)

module _ {K V H : Type 0} {eq : K → K → Bool} (laws : IsEquivalence eq) where
  -- a table that awaits two lists awaits the first, and the second once the first is in
  pub awaits_first : (old : TableView K V H) (xs ys : List (K × V)) → Awaits eq old (xs ++ ys) → Awaits eq old xs
  awaits_first old xs ys awaits = record {
    stands = awaits.stands;
    alone = awaits.alone;
    full = awaits.full;
    distinct = distinct_later laws ys (xs ++ pairs_of old.arrays)
        (distinct_kept eq laws _ _ awaits.distinct (later_first xs ys (pairs_of old.arrays)));
  }

  pub awaits_rest : (hash : H → K → ℕ) (old new : TableView K V H) (xs ys : List (K × V)) → Awaits eq old (xs ++ ys) → Pours hash old xs new
      → Awaits eq new ys
  awaits_rest hash old new xs ys awaits pours =
      let long = as_many (hash old.hasher) old.arrays.current new.arrays.current xs pours.each in
      let linked : length new.arrays.linked ≡ length old.arrays.linked =
      ap (λ (t : TableView K V H). length t.arrays.linked) pours.others in
      let stands = awaits.stands in
      let full = awaits.full in
      record {
        stands = omega (arith, long, stands);
        alone = linked ∙ awaits.alone;
        full = omega (arith, long, full, ap (λ (t : TableView K V H). t.arrays.maximum) pours.others);
        distinct = distinct_later laws pours.gone (ys ++ pairs_of new.arrays)
            (distinct_kept eq laws _ _ awaits.distinct (over_gone xs ys _ pours.gone (pairs_of new.arrays) pours.parts));
      }

module _ {K V H : Type 0} (eq : K → K → Bool) (hash : H → K → ℕ) (first : TableView K V H) (all : List (K × V)) where
  -- some of the pairs are in the table, and these are left
  pub record IsPouring (now : TableView K V H) (left : List (K × V)) : Type 0 where
    pub whole : (last : TableView K V H) → Pours hash now left last → Pours hash first all last
    pub awaits : Awaits eq now left

module _ {K V H : Type 0} {eq : K → K → Bool} (laws : IsEquivalence eq) (hash : H → K → ℕ) (first : TableView K V H)
    (all : List (K × V)) where
  pub pour_begins : (left : List (K × V)) → all ≡ left → Awaits eq first all → IsPouring eq hash first all first left
  pour_begins left same awaits =
      let begun : IsPouring eq hash first all first all = record { whole = λ last pours. pours; awaits = awaits } in
      subst (λ (pairs : List (K × V)). IsPouring eq hash first all first pairs) same begun

  pub pour_goes_on : (now next : TableView K V H) (left xs ys : List (K × V)) → left ≡ xs ++ ys → IsPouring eq hash first all now left
      → Pours hash now xs next → IsPouring eq hash first all next ys
  pour_goes_on now next left xs ys same is pours =
      let before = subst (λ (pairs : List (K × V)). IsPouring eq hash first all now pairs) same is in
      record {
        whole = λ last later. before.whole last (pours_both hash now next last xs ys pours later);
        awaits = awaits_rest laws hash now next xs ys before.awaits pours;
      }

  -- the table awaits the next ones
  pub pour_awaits : (now : TableView K V H) (left xs ys : List (K × V)) → left ≡ xs ++ ys → IsPouring eq hash first all now left
      → Awaits eq now xs
  pour_awaits now left xs ys same is =
      awaits_first laws now xs ys (subst (λ (pairs : List (K × V)). Awaits eq now pairs) same is.awaits)

  pub pour_ends : (last : TableView K V H) (left : List (K × V)) → left ≡ [] → IsPouring eq hash first all last left
      → Pours hash first all last
  pour_ends last left none is =
      is.whole last (subst (λ (pairs : List (K × V)). Pours hash last pairs last) (sym none) (pours_none hash last))
