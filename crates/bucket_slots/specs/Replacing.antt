-- What a bucket is after a pair has replaced another one.
use Rattle.std.specs.Prelude.{ℕ}
use Rattle.bucket_slots.specs.BucketView.{BucketView, Place, with_slot}
use Rattle.bucket_slots.specs.Moving.{slots_vacated}
use Rattle.bucket_slots.specs.Slots.{live}

-- the bucket with another pair in a slot, which leaves the LRU list
abbrev pub slots_replaced : {K V : Type 0} → BucketView K V → Place → K × V → ℕ → BucketView K V
slots_replaced bucket place pair byte = with_slot (slots_vacated bucket place) place (live pair byte)
