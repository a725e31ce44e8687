-- What the collections and the crates over them cite of this crate's proofs; they cite no other lemma file of it.

-- what a map and the arrays keep when pairs move and when nothing changes
pub use Rattle.bucket_table.proofs.Map.AfterSearch.{own_kept}
pub use Rattle.bucket_table.proofs.Map.Cloning.{distinct_made}
pub use Rattle.bucket_table.proofs.Map.LockedChanged.{table_same}
pub use Rattle.bucket_table.proofs.Map.MapKept.{hasher_kept, keeps_pairs, state_found}
pub use Rattle.bucket_table.proofs.Resize.Following.{made_keeps, pushed_keeps}
pub use Rattle.bucket_table.proofs.Resize.Splitting.{split_old}
pub use Rattle.bucket_table.proofs.Views.Keeping.{keeps_both, keeps_same, kept_none}
-- a step of the map that follows one that keeps its pairs
pub use Rattle.bucket_table.proofs.Map.Putting.{then_put}
pub use Rattle.bucket_table.proofs.Scripts.CallSteps.{then_changed, there_before}
-- one bucket of the arrays is replaced: its place, the pairs and the tombstones of all
pub use Rattle.bucket_table.proofs.Map.LockedSteps.{put_there}
pub use Rattle.bucket_table.proofs.Map.MapSteps.{set_again}
pub use Rattle.bucket_table.proofs.Views.MarksKept.{marks_among-set}
pub use Rattle.bucket_table.proofs.Views.SideChanges.{homes_on, pairs_exchanged}
-- which pairs have their home in a bucket, and how many
pub use Rattle.bucket_table.proofs.Moves.HomesByDivision.{home_of-interval}
pub use Rattle.bucket_table.proofs.Moves.MovingPairs.{homed-permutation, homed_here}
-- the contents of a chain's rows and of a row of buckets, and what a walk is called with
pub use Rattle.bucket_table.proofs.Moves.Staying.{from_row, in_row}
pub use Rattle.bucket_table.proofs.Walking.EachPair.{calls_same}
pub use Rattle.bucket_table.proofs.Walking.Filters.{IsPermutation-filter}
pub use Rattle.bucket_table.proofs.Walking.RetainingTable.{none_joined}
pub use Rattle.bucket_table.proofs.Walking.Row.{pairs_in_row}
-- when a table drops its array
pub use Rattle.bucket_table.proofs.Resize.GivingUp.{gives_up_at_zero}
-- a table may be sent and shared if its keys, values and hasher may
pub use Rattle.bucket_table.proofs.Crosses.{HashTable-send, HashTable-sync}
