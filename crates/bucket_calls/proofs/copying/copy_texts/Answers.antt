use Rattle.std.proofs.Common.{ℕ, ◌≡◌, map, sym}
use Rattle.collections.proofs.Visits.{pairs_visited_from}
use Rattle.bucket_calls.specs.Copying.{text_piece}
use Rattle.bucket_calls.specs.Steps.{next_text}
use Rattle.bucket_calls.proofs.CopiedTexts.{texts_copied}
use Rattle.bucket_calls.proofs.Folds.{folds-map}
use Rattle.bucket_calls.proofs.copying.copy_texts.Goals as goal

pub returns : goal.returns
returns g c =
    let went = pairs_visited_from {A = ℕ × ℕ × ℕ} (λ s. (s.0.now, s.1.now, s.2.now))
    (λ s. (s.0.ghost_name, s.1.ghost_name, s.2.ghost_name)) _
    (λ before pair after. after ≡ next_text before (text_piece pair)) _ _ _ c.each.ensures
    (λ s own value t kept e. ((λ i. (e.met.0.0 i, e.met.0.1 i, e.met.0.2 i)), e.met.1)) in
    let pairs = (g.C.Bucketed.map c.args.table.now).entries in
    texts_copied c.args.start c.args.rows.now c.args.bytes.now (map text_piece pairs) _
    (folds-map next_text text_piece _ pairs _ went.1)
    (c.place-2-1.given.1 (λ i. (sym went.0 i).0)) (c.rows-1.given.1.1 (λ i. (sym went.0 i).1))
    (c.bytes-1.given.1.1 (λ i. (sym went.0 i).2))
