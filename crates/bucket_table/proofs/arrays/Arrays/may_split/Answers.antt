use Rattle.std.proofs.lemmas.Bool.{le-leb, leb-true}
use Rattle.bucket_table.proofs.Words.{ArraysView, ap, arith, length, pairs_in, ◌*◌, ◌∙◌}
use Rattle.bucket_table.proofs.Resize.Asked.{none_from}
use Rattle.bucket_table.proofs.arrays.Arrays.may_split.Goals as goal

pub returns-then-len-ne-BUCKET_LEN : goal.returns-then-len-ne-BUCKET_LEN
returns-then-len-ne-BUCKET_LEN g c =
    let long = c.len.ensures ∙ ap (λ b. length (pairs_in b)) c.bucket_of.ensures in (
      λ none. absurd cc,
      λ may.
          let one = c.home-index.ensures.the_one may.index may.home.own in
          let full = rw (one, ← long) at may.full in
          absurd (omega (arith, full, c.if-len-ne-BUCKET_LEN.true)),
    )

pub returns : goal.returns
returns g c =
    let long = c.len.ensures ∙ ap (λ b. length (pairs_in b)) c.bucket_of.ensures in
    let value = c.len-2.ensures.value in
    let maximum = ap (λ (a : ArraysView g.row.K.Denot g.row.V.Denot). a.maximum) c.self.view_is in
    let len = ap (λ (a : ArraysView g.row.K.Denot g.row.V.Denot). length a.current) c.self.view_is in (
      λ few.
          let bound = leb-true (c.len-2.result * 64) c.self.inside.maximum few in
          record {
            index = c.home-index.result;
            alone = none_from c.has_old.ensures c.if-has_old.false;
            home = c.home-index.ensures;
            full = rw (← long) (omega (arith, c.if-len-ne-BUCKET_LEN.false));
            may_grow = omega (arith, bound, value, maximum, len);
          },
      λ may.
          let most = may.may_grow in
          le-leb (c.len-2.result * 64) c.self.inside.maximum (omega (arith, most, value, maximum, len)),
    )
