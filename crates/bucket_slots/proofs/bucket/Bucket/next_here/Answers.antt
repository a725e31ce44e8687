use Rattle.bucket_slots.proofs.Words.{sym, ◌∙◌}
use Rattle.bucket_slots.proofs.NextPlaces.{found_here, steps_here}
use Rattle.bucket_slots.proofs.bucket.Bucket.next_here.Goals as goal

pub returns-in-Some : goal.returns-in-Some
returns-in-Some g c =
    let from = rw c.pos.ensures at c.position_after-from.ensures in
    let here = rw c.block-block.ensures at (sym c.next_in_block.ensures ∙ c.in-Some.is) in
    let is_new = rw c.block-block.ensures at c.at.ensures in
    record {
      place = rw is_new (found_here _ _ c.args.at.now _ c.self.view_is c.self.invariant.1.own_long c.fact_sound.ensures
          from.near from.past here);
      step = (steps_here _ _ c.args.at.now _ c.self.view_is c.self.invariant.1.own_long c.fact_sound.ensures
          from.near from.past _ _ here is_new).1;
    }

pub returns-in-None-clause-place : goal.returns-in-None-clause-place
returns-in-None-clause-place g c =
    let from = rw c.pos.ensures at c.position_after-from.ensures in
    let none = rw c.block-block.ensures at (sym c.next_in_block.ensures ∙ c.in-None.is) in
    found_here _ _ c.args.at.now _ c.self.view_is c.self.invariant.1.own_long c.fact_sound.ensures from.near from.past none
