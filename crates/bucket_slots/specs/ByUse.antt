-- The pairs of a bucket in LRU order: those of the own slots, the one touched last first, then those of the chain.
use Rattle.std.specs.Prelude.{ℕ, List, [], ◌∷◌, ◌++◌, length, map}
use Rattle.std.specs.List.{range_with_len}
use Rattle.bucket_slots.specs.BucketView.{BucketView, flattened}
use Rattle.bucket_slots.specs.Recency.{order_after_touch}
use Rattle.bucket_slots.specs.Slots.{live_pairs, slot_at}

-- each slot once, at its first occurrence
abbrev pub each_once : List ℕ → List ℕ
each_once [] = []
each_once (slot ∷ slots) = order_after_touch (each_once slots) slot

-- the first `len` slots in LRU order: the listed ones, newest first, then the others in slot order
abbrev pub slots_by_use : ℕ → List ℕ → List ℕ
slots_by_use len listed = each_once (listed ++ range_with_len 0 len)

-- the live pairs in LRU order: those of the own slots, then those of the chain from its head on
abbrev pub pairs_by_use : {K V : Type 0} → BucketView K V → List (K × V)
pairs_by_use bucket =
    live_pairs (map (slot_at bucket.own) (slots_by_use (length bucket.own) bucket.listed) ++ flattened bucket.chain)
