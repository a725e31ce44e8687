-- Doubling the slots of a table for a home that has as many pairs as own slots.
use Rattle.bucket_table.proofs.Words.{ArraysView, BucketView, IsHome, IsLength, KeepsArrays, List, WorksUnits, ap, arith, bucket_at, inl}
use Rattle.bucket_table.proofs.Words.{inr, length, pairs_in, subst, sym, ℕ, ◌/◌, ◌<◌, ◌∙◌, ◌≡◌, ◌≤◌, ◌⊎◌}
use Rattle.bucket_slots.specs.Homes.{Meets}
use Rattle.bucket_slots.proofs.CallerLemmas.{homes_meet, one_source, scales}
use Rattle.bucket_table.specs.Map.Preparing.{HomeNeedsMemory, IsReady}
use Rattle.bucket_table.specs.Resize.Overfull.{SplitsHome}

module _ {K V : Type 0} (hash : ℕ) (old doubled : ArraysView K V) (is : SplitsHome hash old doubled) where
  -- the old array has the buckets
  pub split_old : doubled.linked ≡ old.current
  split_old = ap (λ (a : ArraysView K V). a.linked) is.pushed.new_is

  -- and the current one isn't shorter
  split_longer : IsLength (length doubled.linked) → length doubled.linked ≤ length doubled.current
  split_longer long =
      let (power, least, len) = is.pushed.fresh_is.len in
      let was = ap (λ (bs : List (BucketView K V)). length bs) split_old in
      let now = ap (λ (a : ArraysView K V). length a.current) is.pushed.new_is in
      omega (arith, least.at_least, len, long.at_most, was, now)

  -- so allocation can't fail for the home: it has one source, with as many pairs as own slots
  pub split_fetches : (new : ArraysView K V) → IsLength (length doubled.linked) → IsLength (length doubled.current)
      → KeepsArrays doubled new → WorksUnits 1 (IsHome (length new.current) hash) doubled new → HomeNeedsMemory hash doubled new → ⊥
  split_fetches new linked current kept units (index, home, matches) =
      let from = length doubled.linked in
      let to = length doubled.current in
      let i = matches.index in
      let source = is.may.index in
      let len : length new.linked ≡ from = (units.stands (omega (arith, matches.within))).len in
      let longer = split_longer linked in
      let at : IsHome to hash index = subst (λ (n : ℕ). IsHome n hash index) kept.current_len home in
      let own : IsHome from hash source = subst (λ (bs : List (BucketView K V)). IsHome (length bs) hash source) (sym split_old)
      is.may.home in
      let one = one_source from to (to / from) index (scales from to linked.power current.power longer (omega (arith, current.at_most)))
      at.within in
      let meets : Meets from i to index = rw (len, kept.current_len) at matches.one in
      let here : i ≡ one.0 = (one.2 i (omega (arith, matches.within, len))).0 meets in
      let there : source ≡ one.0 = (one.2 source own.within).0 (homes_meet from to source index hash own at) in
      let few : length (pairs_in (bucket_at doubled.linked i)) ≤ 32 =
      subst (λ (k : ℕ). length (pairs_in (bucket_at doubled.linked k)) ≤ 32) (there ∙ sym here)
      (rw split_old (omega (arith, is.may.full))) in
      matches.needed (record {
        no_shorter = longer;
        few = λ j low high.
            let same : i ≡ j = omega (arith, low, high) in
            subst (λ (k : ℕ). length (pairs_in (bucket_at doubled.linked k)) ≤ 32) same few;
      })

  -- so it is ready once a unit was worked and its source moved
  pub split_ready : (new : ArraysView K V) → IsLength (length doubled.linked) → IsLength (length doubled.current)
      → KeepsArrays doubled new → WorksUnits 1 (IsHome (length new.current) hash) doubled new
      → (0 < length new.current → IsReady new hash ⊎ HomeNeedsMemory hash doubled new) → IsReady new hash
  split_ready new linked current kept units home = elim (home (omega (arith, current.at_least, kept.current_len))) [
    | inl ready ↦ ready
    | inr needs ↦ absurd (split_fetches new linked current kept units needs)
  ]
