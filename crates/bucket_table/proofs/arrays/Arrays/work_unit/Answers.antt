use Rattle.bucket_table.proofs.Words.{Some, ap, arith, length, rules}
use Rattle.bucket_table.proofs.Rehash.Ending.{placed_end, placed_start}
use Rattle.bucket_table.proofs.Rehash.FinishingUnits.{finishes, finishes_none}
use Rattle.bucket_table.proofs.Rehash.NeedingMemory.{range_spared}
use Rattle.bucket_table.proofs.Rehash.UnitWork.{easy_handed, none_changed, none_handed, unit_kept, unit_runs}
use Rattle.bucket_table.proofs.Views.Keeping.{kept_none}
use Rattle.bucket_table.proofs.arrays.Arrays.work_unit.Goals as goal

pub relocate_unit-success-requires : goal.relocate_unit-success-requires
relocate_unit-success-requires g c =
    let h = c.in-Some.ensures.tickets in
    let left = h.is_left in
    let handed = h.ticket_is in
    let same = ap (λ a. length a.linked) c.in-Some.ensures.others in (
      search rules,
      (
        omega (arith, left, handed, same, c.fact_sound.ensures.tickets_len),
        placed_start (g.H.KeyHash.hash_of c.args.hasher.now) c.args.self.now _ (Some c.in-Some.ticket) h c.in-Some.ensures.others
            c.requires.placed,
      ),
    )

pub returns-clause-placed : goal.returns-clause-placed
returns-clause-placed g c =
    placed_end (g.H.KeyHash.hash_of c.args.hasher.now) c.relocate_unit-success.new.self _ _ c.relocate_unit-success.result
    c.end_incremental_rehash.result
    c.end_incremental_rehash.ensures.rehash c.relocate_unit-success.ensures.placed

pub returns-clause-kept : goal.returns-clause-kept
returns-clause-kept g c =
    let h = c.in-Some.ensures.tickets in
    let w = rw c.in-Some.ensures.others at c.relocate_unit-success.ensures.worked in
    unit_kept c.args.self.now _ _ _ c.in-Some.ticket c.relocate_unit-success.result h w c.end_incremental_rehash.result
    c.relocate_unit-success.ensures.placed.rehashed c.end_incremental_rehash.ensures.rehash

pub returns-clause-units : goal.returns-clause-units
returns-clause-units g c =
    let h = c.in-Some.ensures.tickets in
    let w = rw c.in-Some.ensures.others at c.relocate_unit-success.ensures.worked in
    let spends = rw c.in-Some.ensures.others at c.relocate_unit-success.ensures.spends in
    unit_runs c.args.self.now _ _ _ c.in-Some.ticket c.relocate_unit-success.result h w c.end_incremental_rehash.result
    c.fact_sound.ensures.tickets_len spends
    (λ needs. range_spared _ _ _ _ _ c.relocate_unit-success.ensures.wanted
    (rw c.in-Some.ensures.others (easy_handed c.args.self.now _ c.in-Some.ticket h needs)))
    (rw c.in-Some.ensures.others at c.relocate_unit-success.ensures.only) c.end_incremental_rehash.ensures.rehash

pub returns-clause-alone : goal.returns-clause-alone
returns-clause-alone g c = λ alone. absurd (none_handed c.args.self.now c.in-Some.ticket _ c.fact_sound.ensures.tickets_len
    alone c.in-Some.ensures.tickets)

pub returns-clause-finishes : goal.returns-clause-finishes
returns-clause-finishes g c =
    let h = c.in-Some.ensures.tickets in
    let w = rw c.in-Some.ensures.others at c.relocate_unit-success.ensures.worked in
    finishes c.args.self.now _ _ _ c.in-Some.ticket c.relocate_unit-success.result h w c.fact_sound.ensures.tickets_len
    c.requires.placed.rehashed.covered (λ failed. rw c.in-Some.ensures.others at c.relocate_unit-success.ensures.wanted failed)
    c.end_incremental_rehash.result c.end_incremental_rehash.ensures.rehash

pub returns-in_default-clause-finishes : goal.returns-in_default-clause-finishes
returns-in_default-clause-finishes g c =
    finishes_none c.args.self.now _ c.in_default.ensures.tickets c.in_default.ensures.others c.requires.placed.rehashed

pub returns-in_default-clause-kept : goal.returns-in_default-clause-kept
returns-in_default-clause-kept g c =
    rw (none_changed c.args.self.now _ c.in_default.ensures.tickets c.in_default.ensures.others) (kept_none c.args.self.now)

pub returns-in_default-clause-placed : goal.returns-in_default-clause-placed
returns-in_default-clause-placed g c =
    rw (none_changed c.args.self.now _ c.in_default.ensures.tickets c.in_default.ensures.others) c.requires.placed

pub returns-in_default-clause-none : goal.returns-in_default-clause-none
returns-in_default-clause-none g c = none_changed c.args.self.now _ c.in_default.ensures.tickets c.in_default.ensures.others
