use Rattle.bucket_table.proofs.Words.{bound_of, subst, ℕ, ◌+◌, ◌<◌}
use Rattle.bucket_table.proofs.Walking.Bounds.{begins_early, begins_late, next_bound, wide}
use Rattle.bucket_table.proofs.arrays.cursor.scaled.Goals as goal

pub returns-clause-early : goal.returns-clause-early
returns-clause-early c =
    begins_early c.args.from c.args.to c.args.index _ _ (wide c.args.from c.requires.from_length) (wide c.args.to c.requires.to_length)
    c.from_index_to_range.ensures.range

pub returns-clause-reaches : goal.returns-clause-reaches
returns-clause-reaches c = begins_late c.args.from c.args.to c.args.index _ _ c.from_index_to_range.ensures.some
    c.from_index_to_range.ensures.range

pub returns-then-from-to-clause-reaches : goal.returns-then-from-to-clause-reaches
returns-then-from-to-clause-reaches c = subst (λ (n : ℕ). bound_of c.args.from c.args.index < bound_of n (c.args.index + 1))
    c.if-from-to.true (next_bound c.args.from c.args.index c.requires.from_length)
