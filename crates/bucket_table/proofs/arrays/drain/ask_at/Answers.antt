use Rattle.bucket_table.proofs.arrays.drain.ask_at.Goals as goal

pub returns-clause-asked : goal.returns-clause-asked
returns-clause-asked g c = λ pair here.
    let asked = rw c.nth_mut.ensures.bucket at c.ask_slot-taken.ensures.asked in
    let left = rw c.nth_mut.ensures.bucket at c.ask_slot-taken.ensures.left in
    record { left = c.ask_slot-taken.new.bucket; slot = asked pair here; slots = left; new_is = c.refresh_nth.ensures }
