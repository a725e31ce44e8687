use Rattle.bucket_slots.proofs.Words.{rules}
use Rattle.bucket_slots.proofs.Replacing.{vacated_free, vacated_within}
use Rattle.bucket_slots.proofs.bucket.Bucket.replace.Goals as goal

pub fill-requires : goal.fill-requires
fill-requires g c =
    let alive = c.requires.live_slot in
    let slots = c.vacate-earlier.ensures.slots in (
      search rules,
      (
        search rules,
        (
          rw slots (vacated_within c.args.self.now c.args.at.now alive),
          rw slots
              (vacated_free c.args.self.now c.args.at.now alive),
        ),
      ),
    )
