use Rattle.bucket_slots.proofs.Words.{arith, rules, sym}
use Rattle.bucket_slots.proofs.ChangedSlots.{IsBucket-filled}
use Rattle.bucket_slots.proofs.Digests.{free_own}
use Rattle.bucket_slots.proofs.Spreading.{put_in_own}
use Rattle.bucket_slots.proofs.bucket.Bucket.fill_own.Goals as goal

pub lowest_bit-pos-requires : goal.lowest_bit-pos-requires
lowest_bit-pos-requires g c = omega (arith, c.requires.some)

pub put-requires : goal.put-requires
put-requires g c =
    let place = free_own g.row.TYPE _ _ _ c.self.view_is c.self.invariant.1 c.requires.unmarked (omega arith) c.requires.mask
    c.lowest_bit-pos.ensures in
    (search rules, (omega (arith, c.self.invariant.1.own_long, place.1), place.2))

pub invariant_of-self : goal.invariant_of-self
invariant_of-self g c =
    let place = free_own g.row.TYPE _ _ _ c.self.view_is c.self.invariant.1 c.requires.unmarked (omega arith) c.requires.mask
    c.lowest_bit-pos.ensures in (
      c.self.invariant.0,
      rw c.put.ensures
          (IsBucket-filled g.row.TYPE _ c.self.inside.chained 0 c.lowest_bit-pos.result _ _ c.self.invariant.1 place.1 place.2),
    )

pub returns-clause-place : goal.returns-clause-place
returns-clause-place g c =
    rw (← c.self.view_is) (free_own g.row.TYPE _ _ _ c.self.view_is c.self.invariant.1 c.requires.unmarked (omega arith) c.requires.mask
    c.lowest_bit-pos.ensures).0

pub returns-clause-slots : goal.returns-clause-slots
returns-clause-slots g c =
    let place = free_own g.row.TYPE _ _ _ c.self.view_is c.self.invariant.1 c.requires.unmarked (omega arith) c.requires.mask
    c.lowest_bit-pos.ensures in
    rw (c.put.ensures, ← c.self.view_is) (sym (put_in_own _ _ c.args.pair c.args.byte place.0))
