use Rattle.std.proofs.Common.{◌++◌, ◌∙◌, ap, map, refl}
use Rattle.example_word_count.specs.Rows.{bytes_of, row_of, row_of_pair}
use Rattle.example_word_count.proofs.Reporting.{reported}
use Rattle.example_word_count.proofs.report.report_of.Goals as goal

pub returns : goal.returns
returns c =
    let taken = c.take_all.ensures c.if-rows.false in
    let ensured = c.in_ok-count_keys.ensures in
    reported bytes_of c.args.lines.now c.count_keys.new.counts.entries ensured.unique ensured.counted row_of _ (λ x y. refl)
    c.take_all.new.self.taken.items c.sort_unstable.new.self.items
    (taken.1 ∙ ap (λ items. map row_of items ++ map row_of_pair c.count_keys.new.counts.entries) c.in_ok-with_capacity.ensures.items)
    c.sort_unstable.ensures.permutation c.sort_unstable.ensures.sorted
