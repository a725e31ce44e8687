use Rattle.std.proofs.Common.{ℕ, ◌∙◌, inl, inr, refl, subst, sym}
use Rattle.collections.specs.Changes.{Replaces}
use Rattle.collections.specs.Maps.{map_of}
use Rattle.bucket_calls.specs.Views.{has_bytes, text_eq}
use Rattle.bucket_calls.specs.Texts.{UpsertsTextInto}
use Rattle.bucket_calls.proofs.Lent.{touches_lent}
use Rattle.bucket_calls.proofs.texts.upsert.Goals as goal

pub returns-then-contains : goal.returns-then-contains
unfolding UpsertsTextInto
returns-then-contains c =
    let old = c.args.cache.now in
    let matches = has_bytes c.args.key.now in
    let lent = c.get_mut.follows in
    let last = c.replace.new.dest in
    let found = touches_lent text_eq old (lent.lender last) matches c.get_mut.result c.in-Some.held last c.args.value
    c.in-Some.is c.replace.ensures.after (lent.holds last) in
    let written : ℕ → Type 0 =
    λ earlier. Replaces text_eq (map_of old) matches (found.0.0, earlier) c.args.value (map_of (lent.lender last)) in
    inl (found.0.0, refl, subst written (sym c.replace.ensures.value) found.0.1, found.1, refl, refl)

pub returns-in-Ok : goal.returns-in-Ok
unfolding UpsertsTextInto
returns-in-Ok c = inr (sym c.contains.ensures ∙ c.if-contains.false, inl (c.in-Ok.own, c.in-Ok.ensures.copied, c.upsert_text.ensures))
