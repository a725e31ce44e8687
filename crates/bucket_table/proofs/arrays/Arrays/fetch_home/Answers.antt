use Rattle.bucket_table.proofs.Map.Finding.{home_worked}
use Rattle.bucket_table.proofs.Map.Preparing.{ready_at}
use Rattle.bucket_table.proofs.Views.Keeping.{kept_none}
use Rattle.bucket_table.proofs.arrays.Arrays.fetch_home.Goals as goal

pub returns-in-Ok-clause-ready : goal.returns-in-Ok-clause-ready
returns-in-Ok-clause-ready g c =
    ready_at c.home-index.result c.args.hash c.prepare_beside.new.self (rw c.prepare_beside.ensures.kept.current_len c.home-index.ensures)
    c.in-Ok.ensures.ready

pub returns-in-Ok-clause-units : goal.returns-in-Ok-clause-units
returns-in-Ok-clause-units g c = home_worked c.args.hash c.home-index.result c.args.self.now c.prepare_beside.new.self c.home-index.ensures
    c.prepare_beside.ensures.kept.current_len c.prepare_beside.ensures.units

pub returns-in-Err-clause-units : goal.returns-in-Err-clause-units
returns-in-Err-clause-units g c = home_worked c.args.hash c.home-index.result c.args.self.now c.prepare_beside.new.self c.home-index.ensures
    c.prepare_beside.ensures.kept.current_len c.prepare_beside.ensures.units

pub returns-in-Err-clause-wanted : goal.returns-in-Err-clause-wanted
returns-in-Err-clause-wanted g c = λ memory.
    (c.home-index.result, rw c.prepare_beside.ensures.kept.current_len c.home-index.ensures, c.in-Err.ensures.wanted)

pub returns-then-not-has_current-clause-kept : goal.returns-then-not-has_current-clause-kept
returns-then-not-has_current-clause-kept g c = kept_none c.args.self.now

pub returns-then-not-has_old-clause-kept : goal.returns-then-not-has_old-clause-kept
returns-then-not-has_old-clause-kept g c = kept_none c.args.self.now
