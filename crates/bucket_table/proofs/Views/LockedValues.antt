-- A borrowed bucket whose table is another one.
use Rattle.bucket_table.proofs.Words.{ArraysView, IsLocked, Side, TableView, ℕ, ap, subst, ◌≡◌}
use Rattle.std.proofs.Props.{props}
use Rattle.bucket_table.specs.declared.hash_table.locked_bucket.LockedBucket.{LockedBucket}
use Rattle.std.specs.declared.cmp.PartialEq as equals
use Rattle.std.specs.declared.default.Default as default
use Rattle.bucket_slots.specs.declared.lru.LruList as list
use Rattle.bucket_table.specs.declared.key_hash.KeyHash as key_hash

-- the fact that a bucket may be locked has one proof
locked_prop : {K V : Type 0} (a : ArraysView K V) (side : Side) (i : ℕ) (p q : IsLocked a side i) → p ≡ q
locked_prop a side i = hlevel props

module _ {K V H L : Type 0} {TYPE : ℕ} {equal : equals.Ghosts K} {hashing : key_hash.Ghosts H K} {listing : list.Ghosts L}
    {fresh : default.Ghosts L} where
  abbrev pub locked_over : (o : LockedBucket K V H L TYPE equal hashing listing fresh)
      (t : TableView K V H) → IsLocked t.arrays o.side o.index → LockedBucket K V H L TYPE equal hashing listing fresh
  locked_over o t locked = record { table = record o.table { now = t }; side = o.side; index = o.index; locked = locked }

  -- it is the same over an equal table
  pub locked_over-same : (o : LockedBucket K V H L TYPE equal hashing listing fresh)
      (t s : TableView K V H) (p : IsLocked t.arrays o.side o.index)
      (q : IsLocked s.arrays o.side o.index) → t ≡ s → locked_over o t p ≡ locked_over o s q
  locked_over-same o t s p q e = subst (λ (z : TableView K V H). (r : IsLocked z.arrays o.side o.index)
      → locked_over o t p ≡ locked_over o z r) e (λ r. ap (locked_over o t) (locked_prop t.arrays o.side o.index p r)) q
