use Rattle.bucket_table.proofs.Words.{[], ap, arith, bucket_at, length, nil_from_length, pairs_in, pairs_of, refl, sym, ◌<◌, ◌∙◌, ◌≡◌}
use Rattle.bucket_table.specs.Walking.Row.{row_of}
use Rattle.bucket_table.proofs.Walking.Each.{nothing}
use Rattle.bucket_table.proofs.Walking.RetainingTable.{IsRetained, ends, goes_on, passes, sets_out, settings_kept, stops}
use Rattle.bucket_table.proofs.hash_table.HashTable.retain.Given as given
use Rattle.bucket_table.proofs.hash_table.HashTable.retain.Goals as goal
use Rattle.bucket_table.proofs.hash_table.HashTable.retain.Goals.{then-len-ne0, else-len-ne0}

pub loop-bucket-init : goal.loop-bucket-init
loop-bucket-init g c = (c.requires.callable, refl, sets_out _ g.row.TYPE _)

pub loop-bucket-preserved : goal.loop-bucket-preserved
loop-bucket-preserved g c =
    let amid = c.loop-bucket.invariant in
    let row = ap (λ t. row_of t.arrays) c.self-in-loop-bucket.view_is in
    let within : c.loop-bucket.index < length (row_of c.loop-bucket.self.arrays) = omega
    (arith, ap length row, c.in-Some.ensures.bucket.0) in
    let live = c.len.ensures ∙ ap (λ b. length (pairs_in b))
    (c.in-Some.ensures.bucket.1 ∙ ap (λ bs. bucket_at bs c.loop-bucket.index) row) in
    elim c.if-len-ne0.branch [
      | then-len-ne0 filled ↦ rw (filled.self-is, filled.keep-is, filled.count-is) (
        filled.retain_nth-gone.ensures.again,
        filled.retain_nth-gone.ensures.hasher ∙ amid.1,
        goes_on _ g.row.TYPE _ within filled.retain_nth-gone.ensures.retained filled.saturating_add-count.ensures amid.2,
      )
      | else-len-ne0 empty ↦ rw (empty.self-is, empty.keep-is, empty.count-is) (
        amid.0,
        amid.1,
        passes _ g.row.TYPE _ within (nothing _ (sym live ∙ empty.if-len-ne0.false)) amid.2,
      )
    ]

pub loop-bucket-smaller : goal.loop-bucket-smaller
loop-bucket-smaller g c =
    let row = ap (λ t. length (row_of t.arrays)) c.self-in-loop-bucket.view_is in
    omega (arith, row, c.in-Some.ensures.bucket.0, c.loop-bucket.invariant.2.left.len, (loop-bucket-preserved g c).2.left.len)

-- the whole row is done
all_retained : (g : given.Over) (c : goal.In_default g) → IsRetained
    (λ state own before answer after last. given.F-step g state own before answer after last)
    g.row.TYPE (g.G.Generation.epoch_of c.args.generation.now) c.args.keep.now c.args.self.now.arrays c.loop-bucket.self.arrays
    c.loop-bucket.count c.loop-bucket.keep
all_retained g c =
    let row = ap (λ t. length (row_of t.arrays)) c.self-in-loop-bucket.view_is in
    ends _ g.row.TYPE _ c.loop-bucket.invariant.2 (omega (arith, row, c.in_default.ensures.bucket))

pub returns-clause-retained : goal.returns-clause-retained
returns-clause-retained g c = (all_retained g c).asked

pub returns-clause-count : goal.returns-clause-count
returns-clause-count g c = (all_retained g c).counted

pub returns-clause-current : goal.returns-clause-current
returns-clause-current g c = (all_retained g c).current

pub returns-clause-linked : goal.returns-clause-linked
returns-clause-linked g c = (all_retained g c).linked

-- no pair is left, so the rest of the row has none
none_left : (g : given.Over) (c : goal.Then-get-eq0 g) → IsRetained
    (λ state own before answer after last. given.F-step g state own before answer after last)
    g.row.TYPE (g.G.Generation.epoch_of c.args.generation.now) c.args.keep.now c.args.self.now.arrays c.loop-bucket.self.arrays
    c.loop-bucket.count c.loop-bucket.keep
none_left g c =
    let row = ap (λ t. length (row_of t.arrays)) c.self-in-loop-bucket.view_is in
    let held = c.self-in-loop-bucket.invariant.counted in
    let none : pairs_of c.loop-bucket.self.arrays ≡ [] = rw (← c.self-in-loop-bucket.view_is) (nil_from_length (pairs_of
    c.self-in-loop-bucket.inside.arrays)
    (omega (arith, held, c.get.ensures, c.if-get-eq0.true))) in
    stops _ g.row.TYPE _ c.loop-bucket.invariant.2 (omega (arith, row, c.in-Some.ensures.bucket.0)) none

pub returns-then-get-eq0-clause-retained : goal.returns-then-get-eq0-clause-retained
returns-then-get-eq0-clause-retained g c = (none_left g c).asked

pub returns-then-get-eq0-clause-count : goal.returns-then-get-eq0-clause-count
returns-then-get-eq0-clause-count g c = (none_left g c).counted

pub returns-then-get-eq0-clause-current : goal.returns-then-get-eq0-clause-current
returns-then-get-eq0-clause-current g c = (none_left g c).current

pub returns-then-get-eq0-clause-linked : goal.returns-then-get-eq0-clause-linked
returns-then-get-eq0-clause-linked g c = (none_left g c).linked

pub returns-then-get-eq0-clause-marks : goal.returns-then-get-eq0-clause-marks
returns-then-get-eq0-clause-marks g c = (none_left g c).marks

pub returns-then-get-eq0-clause-settings : goal.returns-then-get-eq0-clause-settings
returns-then-get-eq0-clause-settings g c = settings_kept c.loop-bucket.invariant.1 (none_left g c).shape

pub returns-clause-marks : goal.returns-clause-marks
returns-clause-marks g c = (all_retained g c).marks

pub returns-clause-settings : goal.returns-clause-settings
returns-clause-settings g c = settings_kept c.loop-bucket.invariant.1 (all_retained g c).shape
