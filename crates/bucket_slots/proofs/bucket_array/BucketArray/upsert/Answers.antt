use Rattle.bucket_slots.proofs.Words.{Err, ap, bucket_with_value, place_matched, refl, rules, subst, sym, ◌%◌, ◌∙◌}
use Rattle.bucket_slots.specs.ArrayView.{bucket_at}
use Rattle.bucket_slots.specs.Digested.{AnswersInsertion}
use Rattle.bucket_slots.proofs.PairsAfter.{live_from_pair}
use Rattle.bucket_slots.proofs.SearchedPairs.{found_pair}
use Rattle.bucket_slots.proofs.bucket_array.BucketArray.upsert.Goals as goal

pub entry_mut-old-requires : goal.entry_mut-old-requires
entry_mut-old-requires g c =
    let b = bucket_at c.args.self.now c.args.index in
    let key = ap (λ key. place_matched (λ own. g.K.PartialEq.eq own key) (c.args.hash % 256) b) c.new.ensures.key in
    let found = rw c.heal.ensures at c.in-Some.ensures.place ∙ key in
    let (pair, is) = found_pair (λ own. g.K.PartialEq.eq own c.args.key) (c.args.hash % 256) b _ (sym found) in
    let live = live_from_pair _ pair is.slot in
    (search rules, (search rules, rw c.heal.ensures (c.requires, live)))

pub returns-in-Some : goal.returns-in-Some
returns-in-Some g c =
    let b = bucket_at c.args.self.now c.args.index in
    let key = ap (λ key. place_matched (λ own. g.K.PartialEq.eq own key) (c.args.hash % 256) b) c.new.ensures.key in
    let found = rw c.heal.ensures at c.in-Some.ensures.place ∙ key in (
      bucket_with_value b c.in-Some.at c.args.value,
      (
        c.in-Some.at,
        c.entry_mut-old.result.0.now,
        sym found,
        rw c.replace.ensures.value
            (rw c.heal.ensures at c.entry_mut-old.ensures.pair),
        refl,
      ),
      rw (c.heal.ensures, c.replace.ensures.after) refl,
    )

pub unreachable-requires : goal.unreachable-requires
unreachable-requires g c =
    let b = bucket_at c.heal.new.self c.args.index in
    let key = ap (λ key. place_matched (λ own. g.K.PartialEq.eq own key) (c.args.hash % 256) b) c.new.ensures.key in
    let none = c.in-None.ensures.place ∙ key in
    let answer = subst (λ why. AnswersInsertion {A = Unit {0}} g.K.PartialEq.eq c.args.key c.args.value (c.args.hash % 256) g.row.TYPE
    (g.G.Generation.keeps c.args.generation.now) b (Err why)) c.in-Err-Present.field-0-is c.in-Err-Present.ensures.answer in
    let there = none ∙ answer.2.1 in
    cc
