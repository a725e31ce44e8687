-- A pair is put into a cache after a search that found none: what was known before the search holds of the put.
use Rattle.bucket_table.proofs.Words.{All-permutation, Bool, Err, IsAbsent, IsEquivalence, KeepsPairs, List, MapState, Option, Result, Side}
use Rattle.bucket_table.proofs.Words.{TableView, ℕ, ap, arith, false, length, subst, sym, true≢false, ◌%◌, ◌<◌, ◌∙◌, ◌≡◌}
use Rattle.bucket_table.specs.Map.Finding.{FindsThen}
use Rattle.bucket_table.specs.Map.Preparing.{HomeNeedsMemory, IsPrepared}
use Rattle.bucket_table.specs.Map.Putting.{Puts, PutsAt}
use Rattle.bucket_table.specs.declared.hash_table.ResizeRule.TheVariants.{Sampled}
use Rattle.bucket_slots.specs.declared.not_inserted.NotInserted.{NotInserted}
use Rattle.bucket_slots.specs.declared.not_inserted.NotInserted.TheVariants.{Memory, Present}
use Rattle.std.proofs.lemmas.List.Elements.{All-contains}
use Rattle.bucket_table.specs.Map.MapState.{state_of}
use Rattle.bucket_table.proofs.Map.Putting.{refused_put}

module _ {K V H : Type 0} where
  -- a pair is put when nothing had to be prepared
  pub put_first : (kind h : ℕ) (first old : TableView K V H) → old ≡ first
      → (Then : Result (Side × ℕ) (Unit {0}) → TableView K V H → Type 0) → FindsThen Sampled kind h old Then
      → FindsThen Sampled kind h first Then
  put_first kind h first old same Then done = subst (λ (t : TableView K V H). FindsThen Sampled kind h t Then) same done

  -- no pair is put beside an old array, since allocation failed
  pub refused_vacant : (kind h : ℕ) (keeps : Bool) (key : K) (value : V) (first old : TableView K V H) → IsPrepared kind h first old
      → (0 < length first.arrays.linked) × HomeNeedsMemory h first.arrays old.arrays
      → FindsThen Sampled kind h first (λ answer table. PutsAt keeps (key, value) (h % 256) table (Err (Memory key value)) answer old)
  refused_vacant kind h keeps key value first old prepared vacant =
      refused_put kind h keeps (key, value) first old (Memory key value)
      (record { prepared = prepared; alone = λ none. absurd (omega (arith, none, vacant.0)); home = λ stands. vacant.1 })

  -- the hash of a key stays its hash while the hasher stays
  pub own_kept : (hash : H → K → ℕ) (key : K) (h kind : ℕ) (old new : TableView K V H) → KeepsPairs (state_of kind old) (state_of kind new)
      → h ≡ hash old.hasher key → h ≡ hash new.hasher key
  own_kept hash key h kind old new keeps own = own ∙ sym (ap (λ (m : MapState K V H). hash m.hasher key) keeps.others)

  -- an absent key is also absent in another order
  pub absent_kept : (matches : K → Bool) (old new : MapState K V H) → KeepsPairs old new → IsAbsent matches old.pairs
      → IsAbsent matches new.pairs
  absent_kept matches old new keeps absent = All-permutation (λ (p : K × V). matches p.0 ≡ false) old.pairs new.pairs keeps.pairs absent

  -- if no key is equal, a put doesn't return that one is present
  pub never_present : (eq : K → K → Bool) (key : K) (value : V) (old new : MapState K V H) (r : Result (Option (K × V)) (NotInserted K V))
      → IsAbsent (λ own. eq own key) old.pairs → (k : K) (v : V) → r ≡ Err (Present k v) → Puts eq key value old r new → ⊥
  never_present eq key value old new r absent k v is done =
      let present = (subst (λ (x : Result (Option (K × V)) (NotInserted K V)). Puts eq key value old x new) is done).0.2 in
      true≢false (sym present.1.1 ∙ All-contains (λ (p : K × V). eq p.0 key ≡ false) old.pairs present.0 absent present.1.0)

-- if a key equals no pair's key, no pair's key equals it
pub absent_turned : {K V : Type 0} {eq : K → K → Bool} (laws : IsEquivalence eq) (key : K) (pairs : List (K × V)) → IsAbsent (eq key) pairs
    → IsAbsent (λ own. eq own key) pairs
absent_turned laws key pairs absent i d below = laws.symm _ key ∙ absent i d below
