use Rattle.bucket_table.proofs.Words.{ap, arith, length, pairs_in, rules, subst, ◌∙◌}
use Rattle.bucket_table.specs.Layout.Landings.{CarriesRecency}
use Rattle.bucket_table.proofs.Moves.Carried.{carries_nothing, carries_since}
use Rattle.bucket_table.proofs.Moves.Relocating.{all_moved, nothing_moved, refused}
use Rattle.bucket_table.proofs.arrays.relocate.relocate.Goals as goal

pub returns-in_default-clause-moved : goal.returns-in_default-clause-moved
returns-in_default-clause-moved g c =
    nothing_moved (g.H.KeyHash.hash_of c.args.hasher.now) c.args.current.now c.args.linked.now c.args.index c.requires.law c.requires.within
    c.in_default.ensures.killed

pub returns-in_default-clause-recency : goal.returns-in_default-clause-recency
returns-in_default-clause-recency g c =
    carries_nothing _ c.args.current.now (c.requires.law.killed_empty c.args.index c.requires.within c.in_default.ensures.killed)

pub returns-in_default-make_room-clause-law : goal.returns-in_default-make_room-clause-law
returns-in_default-make_room-clause-law g c =
    refused (g.H.KeyHash.hash_of c.args.hasher.now) c.in-Some.ensures.targets c.bucket_mut-source.ensures.bucket _ c.make_room.ensures.kept

pub returns-in_default-make_room-clause-never_refused : goal.returns-in_default-make_room-clause-never_refused
returns-in_default-make_room-clause-never_refused g c = λ le few.
    let same = ap (λ b. length (pairs_in b)) c.bucket_mut-source.ensures.bucket in
    rw c.in_default-make_room.is at (c.make_room.ensures.never_refused (omega (arith, le, c.len-from.ensures.value))
    (omega (arith, few, same)))

pub returns : goal.returns
returns g c =
    let hash = g.H.KeyHash.hash_of c.args.hasher.now in
    let same = c.bucket_mut-source.ensures.bucket in
    let alive = ap (λ b. b.killed) same ∙ c.in-Some.ensures.alive in
    let made = c.make_room.ensures in
    let carried = c.carry_pairs.ensures in
    let done = all_moved hash c.in-Some.ensures.targets same g.row.TYPE made.kept made.others carried.moved
    carried.homes carried.emptied c.fact_sound.ensures alive c.kill.ensures in
    let recency = carries_since c.bucket_mut-source.result.now c.args.current.now c.make_room.new.current
    c.carry_pairs.new.current made.kept carried.recency in
    record {
      law = done.1;
      moved = done.0;
      kept = search rules;
      linked_kept = search rules;
      never_refused = search rules;
      recency = subst (λ s. CarriesRecency s c.args.current.now c.carry_pairs.new.current) same recency;
      alive = search rules;
    }
