-- What calls that take or drop all pairs leave, and of which kinds of table pairs are taken.
use Rattle.std.specs.Prelude.{ℕ, ◌≢◌, [], length, replicate}
use Rattle.bucket_slots.specs.BucketView.{empty_bucket}
use Rattle.bucket_slots.specs.declared.bucket.TheConstants.{INDEX}
use Rattle.bucket_table.specs.Rehash.State.{first_tickets}
use Rattle.bucket_table.specs.Views.ArraysView.{ArraysView}

-- the kind isn't an index, whose removed pairs keep their slots
abbrev pub FreesSlots : ℕ → Type 0
FreesSlots kind = kind ≢ INDEX

-- the arrays without pairs and tombstones: the buckets of the current one are empty, and there is no old one
abbrev pub emptied : {K V : Type 0} → ArraysView K V → ArraysView K V
emptied arrays = record arrays {
  current = replicate (length arrays.current) empty_bucket;
  linked = [];
  tickets = first_tickets 0;
}
