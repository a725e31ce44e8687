use Rattle.bucket_table.proofs.Words.{CACHE, ap, false≢true, length, sym, ◌*◌, ◌∙◌, ◌≡◌}
use Rattle.bucket_table.specs.Views.ArraysView.{list_of}
use Rattle.bucket_table.proofs.Resize.Growing.{asks_by, not_full, not_sampled}
use Rattle.bucket_table.proofs.arrays.Arrays.writer_asks_growth.Goals.{else-this-eq-CACHE-via-else-this-eq-CACHE}
use Rattle.bucket_table.proofs.arrays.Arrays.writer_asks_growth.Goals.{else-this-eq-CACHE-via-then-this-eq-CACHE+else-num_slots-self}
use Rattle.bucket_table.proofs.arrays.Arrays.writer_asks_growth.Goals as goal

pub returns-then-len : goal.returns-then-len
returns-then-len g c =
    let current = ap (λ o. list_of o) (sym c.in-Some.is) ∙ ap (λ a. a.current) c.self.view_is in (
      λ h. absurd (false≢true h),
      λ asks. absurd (not_full g.row.TYPE c.args.hash c.args.self.now
          c.args.index c.in-Some.array current c.bucket.result.now c.len.result c.bucket.ensures
          c.len.ensures c.if-len.true asks),
    )

pub returns-then-not-initiate_sampling : goal.returns-then-not-initiate_sampling
returns-then-not-initiate_sampling g c =
    let current = ap (λ o. list_of o) (sym c.in-Some.is) ∙ ap (λ a. a.current) c.self.view_is in (
      λ h. absurd (false≢true h),
      λ asks. absurd (not_sampled g.row.TYPE c.args.hash c.args.self.now
          c.args.index c.in-Some.array current c.initiate_sampling.result c.initiate_sampling.ensures
          c.if-not-initiate_sampling.true asks),
    )

pub returns : goal.returns
returns g c =
    let current = ap (λ o. list_of o) (sym c.in-Some.is) ∙ ap (λ a. a.current) c.self.view_is in
    let may : g.row.TYPE ≡ CACHE → 32 * length c.in-Some.array ≡ c.args.self.now.maximum → ⊥ =
    elim c.else-this-eq-CACHE.branch [
      | else-this-eq-CACHE-via-then-this-eq-CACHE+else-num_slots-self w ↦ λ cache greatest.
          let slots = w.num_slots.ensures in
          let most = ap (λ a. a.maximum) c.self.view_is in
          w.if-num_slots-self.false (slots ∙ greatest ∙ sym most)
      | else-this-eq-CACHE-via-else-this-eq-CACHE w ↦ λ cache greatest. w.if-this-eq-CACHE.false cache
    ] in
    asks_by g.row.TYPE c.args.hash c.args.self.now c.args.index c.in-Some.array current c.bucket.result.now c.len.result
    c.initiate_sampling.result c.asks_growth.result c.bucket.ensures c.len.ensures c.if-len.false
    c.initiate_sampling.ensures c.if-not-initiate_sampling.false c.asks_growth.ensures may
