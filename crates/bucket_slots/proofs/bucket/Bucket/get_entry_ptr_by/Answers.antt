use Rattle.bucket_slots.proofs.Words.{arith, is_match, ◌%◌}
use Rattle.bucket_slots.proofs.FirstPlaces.{found_short}
use Rattle.bucket_slots.proofs.bucket.Bucket.get_entry_ptr_by.Goals as goal

pub returns-in-Some-clause-absent : goal.returns-in-Some-clause-absent
returns-in-Some-clause-absent g c =
    let test = is_match (g.P.KeyProbe.matches c.args.probe.now) (c.args.hash % 256) in
    let short =
    found_short test _ c.args.self.now c.in-Some.at c.self.view_is c.self.invariant.1.own_long c.fact_sound.ensures c.in-Some.ensures.place
    in
    λ null. absurd (omega (arith, null, short))
