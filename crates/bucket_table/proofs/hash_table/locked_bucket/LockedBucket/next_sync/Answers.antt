use Rattle.bucket_table.proofs.Words.{Err, Ok, refl}
use Rattle.bucket_table.proofs.Map.LockedSteps.{ok_not_err}
use Rattle.bucket_table.proofs.Map.Counted.{map_kept}
use Rattle.bucket_table.proofs.Walking.SyncSteps.{advances, next_locked, none_before, none_null, not_held, refused_beside}
use Rattle.bucket_table.proofs.hash_table.locked_bucket.LockedBucket.next_sync.Goals as goal

pub invariant_of-table : goal.invariant_of-table
invariant_of-table g c =
    map_kept g.K.PartialEq.eq g.met.K.Eq.laws (g.H.KeyHash.hash_of c.table.inside.hasher) c.table.inside.arrays c.advance.new.self
    c.table.invariant c.advance.ensures.kept c.advance.ensures.placed

pub invariant_of-table-in-Err-1 : goal.invariant_of-table-in-Err-1
invariant_of-table-in-Err-1 g c =
    map_kept g.K.PartialEq.eq g.met.K.Eq.laws (g.H.KeyHash.hash_of c.table.inside.hasher) c.table.inside.arrays c.advance.new.self
    c.table.invariant c.advance.ensures.kept c.advance.ensures.placed

pub invariant_of-self-in-Ok : goal.invariant_of-self-in-Ok
invariant_of-self-in-Ok g c =
    let o = c.args.self in
    let e = c.in-Ok.ensures in
    let a = rw c.table.view_is at (advances g.row.TYPE g.H.KeyHash.hash_of o.side o.index c.args.at.now c.advance.new.at
    c.table.inside.hasher c.table.inside.arrays (Ok (c.in-Ok.side, c.in-Ok.index)) c.advance.new.self e.kept e.stays e.leaves
    e.departs) in
    record {
      locked = next_locked g.row.TYPE g.H.KeyHash.hash_of o.side o.index c.args.at.now c.advance.new.at o.table.now _
          (c.in-Ok.side, c.in-Ok.index) o.locked a;
    }

pub returns-in-Ok : goal.returns-in-Ok
returns-in-Ok g c =
    let o = c.args.self in
    let e = c.in-Ok.ensures in
    let a = rw c.table.view_is at (advances g.row.TYPE g.H.KeyHash.hash_of o.side o.index c.args.at.now c.advance.new.at
    c.table.inside.hasher c.table.inside.arrays (Ok (c.in-Ok.side, c.in-Ok.index)) c.advance.new.self e.kept e.stays e.leaves
    e.departs) in (
      (refl, λ w. refl, tt),
      record {
        rests = tt;
        same_table = refl;
        advances = a;
        held = λ some. refl;
        none = λ nothing. absurd (ok_not_err nothing);
        null = tt;
        succeeds = λ alone quiet lacks. lacks;
      },
    )

pub returns-in-Err : goal.returns-in-Err
returns-in-Err g c =
    let o = c.args.self in
    let e = c.in-Err.ensures in
    let a = rw c.table.view_is at (advances g.row.TYPE g.H.KeyHash.hash_of o.side o.index c.args.at.now c.advance.new.at
    c.table.inside.hasher c.table.inside.arrays (Err c.in-Err.missing) c.advance.new.self e.kept e.stays e.leaves e.departs) in (
      (refl, λ w. tt, a),
      record {
        rests = tt;
        same_table = tt;
        advances = tt;
        held = λ some. absurd (not_held g.row.TYPE g.H.KeyHash.hash_of o.side o.index c.args.at.now c.advance.new.at o.table.now _
            c.in-Err.missing a some);
        none = λ nothing. none_before g.row.TYPE g.H.KeyHash.hash_of o.side o.index c.args.at.now c.advance.new.at o.table.now _
            c.in-Err.missing a cc;
        null = none_null g.row.TYPE g.H.KeyHash.hash_of o.side o.index c.args.at.now c.advance.new.at o.table.now _ c.in-Err.missing a;
        succeeds = refused_beside g.row.TYPE g.H.KeyHash.hash_of o.side o.index c.args.at.now c.advance.new.at o.table.now _
            c.in-Err.missing a;
      },
    )
