use Rattle.bucket_slots.proofs.Words.{◌∙◌}
use Rattle.bucket_slots.proofs.FirstPlaces.{live_occupied}
use Rattle.bucket_slots.proofs.bucket.Bucket.entry.Goals as goal

pub returns : goal.returns
returns g c = record { pair = (live_occupied _ c.requires.live_slot).1 ∙ c.pair.ensures }
