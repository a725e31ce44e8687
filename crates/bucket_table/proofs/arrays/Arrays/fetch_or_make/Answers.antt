use Rattle.bucket_table.proofs.Words.{arith}
use Rattle.bucket_table.proofs.Map.Finding.{home_ready, home_worked}
use Rattle.bucket_table.proofs.Resize.Growing.{kept_made, placed_made}
use Rattle.bucket_table.proofs.arrays.Arrays.fetch_or_make.Goals as goal

pub returns-clause-kept : goal.returns-clause-kept
returns-clause-kept g c = kept_made c.args.self.now c.make_array.new.self c.in_ok-make_array.ensures.made

pub returns-clause-placed : goal.returns-clause-placed
returns-clause-placed g c = placed_made _ _ _ c.in_ok-make_array.ensures.made c.requires.placed

pub returns-in_err-make_array-clause-placed : goal.returns-in_err-make_array-clause-placed
returns-in_err-make_array-clause-placed g c = rw c.in_err-make_array.ensures.unchanged.1 c.requires.placed

pub returns-then-has_old-clause-made : goal.returns-then-has_old-clause-made
returns-then-has_old-clause-made g c = λ none. absurd (omega (arith, c.has_old.ensures.0 c.if-has_old.true))

pub returns-then-has_old-clause-units : goal.returns-then-has_old-clause-units
returns-then-has_old-clause-units g c = home_worked c.args.hash c.home-index.result c.args.self.now c.prepare_at.new.self
    c.home-index.ensures c.prepare_at.ensures.kept.current_len c.prepare_at.ensures.units

pub returns-then-has_old-clause-ready : goal.returns-then-has_old-clause-ready
returns-then-has_old-clause-ready g c = home_ready c.args.hash c.home-index.result c.args.self.now c.prepare_at.new.self
    c.prepare_at.result c.home-index.ensures c.prepare_at.ensures.kept.current_len c.prepare_at.ensures.ready

pub returns-then-has_old-clause-refused : goal.returns-then-has_old-clause-refused
returns-then-has_old-clause-refused g c = λ none. absurd (omega (arith, c.has_old.ensures.0 c.if-has_old.true))
