use Rattle.bucket_table.proofs.Words.{ap, arith, bucket_at, cases_eq, counted_to, entries_among, inl, inr, length, subst, ℕ, ◌∙◌}
use Rattle.std.proofs.lemmas.List.{take_all}
use Rattle.bucket_table.specs.Map.Counting.{IsHeldBy}
use Rattle.bucket_table.specs.Walking.Row.{row_of}
use Rattle.bucket_table.proofs.Map.CountSteps.{entries_among_more, held_by}
use Rattle.bucket_table.proofs.Resize.Samples.{live_len}
use Rattle.bucket_table.proofs.Walking.Row.{entries_in_row}
use Rattle.bucket_table.proofs.arrays.Arrays.count.Goals as goal

pub loop-bucket-preserved : goal.loop-bucket-preserved
loop-bucket-preserved g c =
    let row = row_of c.args.self.now in
    let more = entries_among_more row c.loop-bucket.index c.in-Some.ensures.bucket.0 in
    let here = c.len.ensures ∙ ap live_len c.in-Some.ensures.bucket.1 in
    let own = rw c.in-Some.ensures.bucket.1 at c.fact_sound.ensures.own_long in (
      omega (arith, more, here, c.loop-bucket.invariant.0, c.saturating_add-live.ensures),
      λ i below. elim (cases_eq i c.loop-bucket.index) [
        | inl same ↦ ap (λ (j : ℕ). length (bucket_at row j).own) same ∙ own
        | inr other ↦ c.loop-bucket.invariant.1 i (omega (arith, other, below))
      ],
    )

pub returns-clause-count : goal.returns-clause-count
returns-clause-count g c =
    let full = take_all c.loop-bucket.index (row_of c.args.self.now) c.in_default.ensures.bucket in
    c.loop-bucket.invariant.0 ∙ ap (λ l. counted_to (entries_among l)) full ∙ ap counted_to (entries_in_row c.args.self.now)

pub returns-clause-within : goal.returns-clause-within
returns-clause-within g c =
    let row = row_of c.args.self.now in
    subst (λ entries. IsHeldBy entries row) (entries_in_row c.args.self.now)
    (held_by row (λ i within. c.loop-bucket.invariant.1 i (omega (arith, within, c.in_default.ensures.bucket))))
