use Rattle.bucket_table.proofs.Words.{Current, Err, Ok, refl}
use Rattle.bucket_table.proofs.Walking.CursorSteps.{moves_in, none_ahead, some_ahead}
use Rattle.bucket_table.proofs.Walking.PassingUnits.{departs_viewed}
use Rattle.bucket_table.proofs.arrays.Arrays.advance.Goals as goal

pub returns-then-find_next-clause-stays : goal.returns-then-find_next-clause-stays
returns-then-find_next-clause-stays g c = λ some.
    (refl, refl, moves_in _ _ _ _ c.bucket_of.ensures (c.find_next.ensures.ahead c.if-find_next.true))

pub returns-then-find_next-clause-leaves : goal.returns-then-find_next-clause-leaves
returns-then-find_next-clause-leaves g c = λ none. absurd
    (some_ahead _ _ _ _ c.bucket_of.ensures (c.find_next.ensures.ahead c.if-find_next.true)
    none)

pub returns-in-Ok-clause-stays : goal.returns-in-Ok-clause-stays
returns-in-Ok-clause-stays g c = λ some. absurd (some
    (none_ahead _ _ _ _ c.bucket_of.ensures (c.find_next.ensures.end c.if-find_next.false)))

pub returns-in-Err-clause-stays : goal.returns-in-Err-clause-stays
returns-in-Err-clause-stays g c = λ some. absurd (some (none_ahead _ _ _ _ c.bucket_of.ensures
    (c.find_next.ensures.end c.if-find_next.false)))

pub returns-then-find_next-clause-departs : goal.returns-then-find_next-clause-departs
returns-then-find_next-clause-departs g c = λ none. absurd
    (some_ahead _ _ _ _ c.bucket_of.ensures (c.find_next.ensures.ahead c.if-find_next.true)
    none)

pub returns-in-Ok-clause-departs : goal.returns-in-Ok-clause-departs
returns-in-Ok-clause-departs g c = λ none.
    departs_viewed (λ next. (Current, next)) (λ to. to.1) (Ok c.in-Ok.next) c.args.side c.args.index c.args.self.now
    c.first_past_bucket.new.self c.in-Ok.ensures.departs

pub returns-in-Err-clause-departs : goal.returns-in-Err-clause-departs
returns-in-Err-clause-departs g c = λ none.
    departs_viewed (λ next. (Current, next)) (λ to. to.1) (Err c.in-Err.missing) c.args.side c.args.index c.args.self.now
    c.first_past_bucket.new.self c.in-Err.ensures.departs
