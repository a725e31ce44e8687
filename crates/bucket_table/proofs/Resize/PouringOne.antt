-- A pair put into a cache whose only array has the maximum length: it doesn't grow, and the pair is in its home.
use Rattle.bucket_table.proofs.Words.{All-from_recursion, AllByRecursion, ArraysView, Bool, BucketView, CACHE, Contains, Current, Err}
use Rattle.bucket_table.proofs.Words.{IsEquivalence, IsHome, IsPermutation, IsPermutation-cons, IsPermutation-middle, IsPermutation-trans}
use Rattle.bucket_table.proofs.Words.{List, MapState, None, Ok, Old, Option, ResizesIf, Result, Side, Some, TableView, ℕ, [], ap, arith}
use Rattle.bucket_table.proofs.Words.{bucket_at, buckets_on, false, false≢true, inl, inr, length, map, pairs_of, refl, subst, sym, true}
use Rattle.bucket_table.proofs.Words.{with_bucket, ◌%◌, ◌*◌, ◌++◌, ◌<◌, ◌∙◌, ◌∷◌, ◌≡◌}
use Rattle.bucket_table.specs.Map.Finding.{Finds, FindsThen, ReadiesThenGrows}
use Rattle.bucket_table.specs.Map.Putting.{Goes, Puts, PutsAt, slots_left, slots_put}
use Rattle.bucket_table.specs.Resize.Growing.{Grows, WriterAsksGrowth}
use Rattle.bucket_table.specs.Resize.Renewing.{Awaits, Pours}
use Rattle.bucket_table.specs.declared.hash_table.ResizeRule.TheVariants.{Sampled}
use Rattle.bucket_slots.specs.declared.not_inserted.NotInserted.{NotInserted}
use Rattle.bucket_slots.specs.declared.not_inserted.NotInserted.TheVariants.{Memory, Present}
use Rattle.std.proofs.lemmas.List.Elements.{All-contains}
use Rattle.std.proofs.lemmas.Map.Keys.{IsDistinct-head}
use Rattle.bucket_table.specs.Map.MapState.{state_of}
use Rattle.bucket_table.proofs.Map.Finding.{readies_sampled}

module _ {K V : Type 0} where
  -- without an old array afterwards, there was no growth
  not_grown : (side : Side) (old new : ArraysView K V) → 0 < length old.current → length new.linked ≡ 0 → Grows side old new
      → side ≡ Current
  not_grown Current old new stands alone grows = refl
  not_grown Old old new stands alone (capacity, pushed) =
      absurd (omega (arith, ap (λ (a : ArraysView K V). length a.linked) pushed.new_is))

  -- at its maximum length no growth is asked for
  not_asked : (kind hash index : ℕ) (old new : ArraysView K V) → kind ≡ CACHE → 32 * length old.current ≡ old.maximum
      → ResizesIf (WriterAsksGrowth kind hash old index) old new → new ≡ old
  not_asked kind hash index old new cache full resizes = elim resizes [
    | inl asked ↦ absurd (asked.0.may_grow cache full)
    | inr not ↦ not.1
  ]

  -- so the arrays stay
  readied : (kind hash : ℕ) (old new : ArraysView K V) (side : Side) (index : ℕ) → kind ≡ CACHE → 0 < length old.current
      → length old.linked ≡ 0 → 32 * length old.current ≡ old.maximum → ReadiesThenGrows kind hash old side index new
      → (new ≡ old) × (side ≡ Current)
  unfolding ReadiesThenGrows
  readied kind hash old new side index cache stands alone full readies =
      let ready : readies.0 ≡ old = (readies.1.first alone).0 stands in
      let resizes = subst (λ (a : ArraysView K V). ResizesIf (WriterAsksGrowth kind hash a index) a new) ready readies.2 in
      let grows = subst (λ (a : ArraysView K V). Grows side a new) ready readies.3 in
      let same : new ≡ old = not_asked kind hash index old new cache full resizes in
      (same, not_grown side old new stands (ap (λ (a : ArraysView K V). length a.linked) same ∙ alone) grows)

module _ {K V H : Type 0} where
  same_table : (t u : TableView K V H) → t.hasher ≡ u.hasher → t.arrays ≡ u.arrays → t ≡ u
  same_table t u hashers arrays =
      ap (λ (h : H). record { hasher = h; arrays = t.arrays }) hashers
      ∙ ap (λ (a : ArraysView K V). record { hasher = u.hasher; arrays = a }) arrays

module _ {K V H : Type 0} {eq : K → K → Bool} (laws : IsEquivalence eq) (hash : H → K → ℕ) (kind : ℕ) (cache : kind ≡ CACHE)
    (old new : TableView K V H) (key : K) (value : V) where
  abbrev byte : ℕ
  byte = hash old.hasher key % 256

  -- what is evicted, of all pairs and the new one
  lost : (gone : Option (K × V)) → Puts eq key value (state_of kind old) (Ok gone) (state_of kind new)
      → (those : List (K × V)) × IsPermutation ((key, value) ∷ pairs_of old.arrays) (those ++ pairs_of new.arrays)
  lost None puts = ([], puts.1.pairs)
  lost (Some pair) puts = (
    pair ∷ [],
    IsPermutation-trans _ _ _ (IsPermutation-cons (key, value) _ _ puts.1.before)
        (IsPermutation-trans _ _ _ (IsPermutation-middle ((key, value) ∷ []) pair puts.1.rest)
        (IsPermutation-cons pair _ _ puts.1.after.pairs)),
  )

  placed : (index : ℕ) (gone : Option (K × V)) → IsHome (length old.arrays.current) (hash old.hasher key) index
      → Goes (bucket_at old.arrays.current index) gone
      → new ≡ with_bucket old Current index (slots_put true (slots_left (bucket_at old.arrays.current index) gone) (key, value) byte)
      → Puts eq key value (state_of kind old) (Ok gone) (state_of kind new) → Pours hash old ((key, value) ∷ []) new
  placed index gone home went is puts =
      let parts = lost gone puts in
      let current = ap (λ (t : TableView K V H). t.arrays.current) is in
      record {
        each = (new.arrays.current, (index, gone, home, went, current), refl);
        others = is ∙ ap (λ (bs : List (BucketView K V)). record old { arrays = record old.arrays { current = bs } }) (sym current);
        gone = parts.0;
        parts = parts.1;
      }

  placed_on : (side : Side) (index : ℕ) (between : TableView K V H) (out : Option (K × V)) → side ≡ Current → between ≡ old
      → IsHome (length (buckets_on between.arrays side)) (hash old.hasher key) index
      → PutsAt true (key, value) byte between (Ok out) (Ok (side, index)) new
      → Puts eq key value (state_of kind old) (Ok out) (state_of kind new) → Pours hash old ((key, value) ∷ []) new
  placed_on Old index between out current same home done puts = absurd cc
  placed_on Current index between out current same home done puts =
      let put = subst (λ (t : TableView K V H). PutsAt true (key, value) byte t (Ok out) (Ok (Current, index)) new) same done in
      let there = subst (λ (t : TableView K V H). IsHome (length t.arrays.current) (hash old.hasher key) index) same home in
      placed index out there put.0 put.1 puts

  -- no pair has an equal key
  apart_all : (pairs : List (K × V)) → AllByRecursion (λ other. eq key other ≡ false) (map (λ (p : K × V). p.0) pairs)
      → AllByRecursion (λ (p : K × V). eq p.0 key ≡ false) pairs
  apart_all [] apart = tt
  apart_all (pair ∷ pairs) apart = (laws.symm pair.0 key ∙ apart.0, apart_all pairs apart.1)

  not_there : (pair : K × V) → Awaits eq old ((key, value) ∷ []) → Contains (pairs_of old.arrays) pair → eq pair.0 key ≡ false
  not_there pair awaits there =
      let apart = IsDistinct-head eq key (map (λ (p : K × V). p.0) (pairs_of old.arrays)) awaits.distinct in
      All-contains (λ (p : K × V). eq p.0 key ≡ false) (pairs_of old.arrays) pair
      (All-from_recursion _ (pairs_of old.arrays) (apart_all (pairs_of old.arrays) apart)) there

  poured : (result : Result (Option (K × V)) (NotInserted K V)) (answer : Result (Side × ℕ) (Unit {0})) (between : TableView K V H)
      → Awaits eq old ((key, value) ∷ []) → Finds Sampled kind (hash old.hasher key) old answer between
      → PutsAt true (key, value) byte between result answer new
      → Puts eq key value (state_of kind old) result (state_of kind new) → Pours hash old ((key, value) ∷ []) new
  poured (Ok out) (Ok (side, index)) between awaits found done puts =
      let stays = readied kind (hash old.hasher key) old.arrays between.arrays side index cache awaits.stands awaits.alone awaits.full
      (readies_sampled _ _ _ _ _ _ found.found) in
      let hasher : between.hasher ≡ old.hasher = ap (λ (m : MapState K V H). m.hasher) found.map.others in
      placed_on side index between out stays.1 (same_table between old hasher stays.0) found.home done puts
  poured (Ok out) (Err refused) between awaits found done puts = absurd done
  poured (Err (Present k v)) answer between awaits found done puts =
      let (pair, is) = puts.0.2 in
      absurd (false≢true (sym (not_there pair awaits is.0) ∙ is.1))
  poured (Err (Memory k v)) (Ok at) between awaits found done puts = absurd done
  poured (Err (Memory k v)) (Err refused) between awaits found done puts =
      absurd (omega (arith, found.alone awaits.alone, awaits.stands))

  -- the pair is put into its home
  pub pours_one : (result : Result (Option (K × V)) (NotInserted K V)) → Awaits eq old ((key, value) ∷ [])
      → Puts eq key value (state_of kind old) result (state_of kind new)
      → FindsThen Sampled kind (hash old.hasher key) old (λ answer between. PutsAt true (key, value) byte between result answer new)
      → Pours hash old ((key, value) ∷ []) new
  pours_one result awaits puts found = poured result found.answer found.between awaits found.found found.done puts
