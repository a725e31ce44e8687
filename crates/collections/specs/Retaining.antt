-- What a removal of pairs by a function's results leaves of the buckets.
use Rattle.std.specs.Prelude.{ℕ, ◌≡◌}
use Rattle.bucket_table.specs.Views.ArraysView.{ArraysView}
use Rattle.bucket_table.specs.Walking.Retains.{AreLeftOf}

-- each bucket of both arrays is as it was, except for values that were written and pairs that were removed, which in an index are now
-- tombstones of epoch 0: the LRU order of the others stays, earlier tombstones stay, and so does the progress of the incremental rehash
pub record LeavesBuckets {K V : Type 0} (kind : ℕ) (old new : ArraysView K V) : Type 0 where
  pub current : AreLeftOf kind 0 old.current new.current
  pub linked : AreLeftOf kind 0 old.linked new.linked
  pub tickets : new.tickets ≡ old.tickets
