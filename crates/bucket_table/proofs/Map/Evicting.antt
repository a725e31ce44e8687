-- A pair evicted from a hash's home, and what that makes of the table in which the home was prepared.
use Rattle.bucket_table.proofs.Words.{Current, Err, IfSome, IsHome, KeepsPairs, None, Ok, Old, Option, Side, Some, TableView, TakesPair, ℕ}
use Rattle.bucket_table.proofs.Words.{bucket_on, buckets_on, inl, inr, length, refl, subst, sym, with_bucket, ◌∙◌, ◌≡◌}
use Rattle.bucket_table.specs.Map.ByKey.{Evicts, PreparesThen}
use Rattle.bucket_table.specs.Map.Preparing.{HomeNeedsMemory, IsPrepared, IsReady}
use Rattle.bucket_table.specs.Map.Putting.{EvictsAt, Goes, slots_left}
use Rattle.bucket_table.specs.Map.MapState.{state_of}
use Rattle.bucket_table.proofs.Map.LockedSteps.{with_own}
use Rattle.bucket_table.proofs.Map.Preparing.{wanting_unready}
use Rattle.bucket_table.proofs.Map.TakeSteps.{then_taken}

module _ {K V H : Type 0} (kind : ℕ) (old between new : TableView K V H) where
  -- a pair is removed, or nothing changes, after the pairs moved
  pub then_evicted : (side : Side) (index : ℕ) (r : Option (K × V)) → KeepsPairs (state_of kind old) (state_of kind between)
      → IfSome r (λ pair. TakesPair (state_of kind between) pair (state_of kind new))
      → new ≡ with_bucket between side index (slots_left (bucket_on between.arrays side index) r)
      → Evicts {E = ℕ} (state_of kind old) (Ok r) (state_of kind new)
  then_evicted side index (Some pair) keeps takes is =
      then_taken (state_of kind old) (state_of kind between) (state_of kind new) pair keeps takes
  then_evicted side index None keeps takes is =
      let same = is ∙ with_own between.hasher between.arrays side index (bucket_on between.arrays side index) refl in
      subst (λ (t : TableView K V H). KeepsPairs (state_of kind old) (state_of kind t)) (sym same) keeps

  -- and which pair it is
  pub evicted_at : (hash : ℕ) (side : Side) (index : ℕ) (r : Option (K × V)) → IsPrepared kind hash old between → side ≡ Current
      → IsReady between.arrays hash → IsHome (length (buckets_on between.arrays side)) hash index
      → Goes (bucket_on between.arrays side index) r
      → new ≡ with_bucket between side index (slots_left (bucket_on between.arrays side index) r)
      → PreparesThen kind hash old (λ moved. EvictsAt {E = ℕ} hash moved (Ok r) new)
  evicted_at hash Old index r prepared current ready home went is = absurd cc
  evicted_at hash Current index r prepared current ready home went is =
      record { between = between; prepared = prepared; done = inr (ready, index, home, went, is) }

module _ {K V H : Type 0} (kind : ℕ) (old new : TableView K V H) where
  -- without an array there is nothing to evict
  pub nothing_evicted : (hash : ℕ) → IsPrepared kind hash old new → length old.arrays.current ≡ 0
      → PreparesThen kind hash old (λ moved. EvictsAt {E = ℕ} hash moved (Ok None) new)
  nothing_evicted hash prepared none =
      record { between = new; prepared = prepared; done = inl (prepared.kept.current_len ∙ none, refl, refl) }

  -- nor is anything evicted if memory was needed
  pub evict_refused : (hash : ℕ) → IsPrepared kind hash old new → HomeNeedsMemory hash old.arrays new.arrays
      → PreparesThen kind hash old (λ moved. EvictsAt {E = ℕ} hash moved (Err 0) new)
  evict_refused hash prepared matches =
      record { between = new; prepared = prepared; done = (wanting_unready hash old.arrays new.arrays matches, refl) }
