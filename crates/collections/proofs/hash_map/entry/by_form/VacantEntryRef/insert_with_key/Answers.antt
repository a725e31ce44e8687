use Rattle.std.proofs.Common.{◌∙◌, Result, Ok, Err, refl, sym}
use Rattle.std.specs.Prelude.{OnErr}
use Rattle.std.proofs.lemmas.Bool.{true≢false}
use Rattle.collections.proofs.Collecting.{stays_same}
use Rattle.collections.proofs.Slots.{keeps_grows, slots_same}
use Rattle.collections.proofs.hash_map.entry.by_form.VacantEntryRef.insert_with_key.Goals as goal

kept : {A E P Q : Type 0} (answer : Result A E) → (P → Q) → OnErr answer P → OnErr answer Q
kept (Ok x) f is = tt
kept (Err e) f is = f is

pub returns : goal.returns
returns g c =
    let lent = c.add.follows in
    let wanted = sym c.stands_for.ensures ∙ c.if-not-stands_for.false in (
      (
        refl,
        λ value is. (wanted, (lent.holds value is).0, (lent.holds value is).1),
        kept c.add.result (λ stays. (stays.0, (λ matches. stays.1), stays.2)) lent.holds-at-none,
      ),
      record { writes_back = tt; value = c.add.ensures.value; pair_returned = c.add.ensures.pair_returned },
    )

pub returns-then-not-stands_for : goal.returns-then-not-stands_for
returns-then-not-stands_for g c =
    let map = c.args.self.map.now in
    let other = sym c.stands_for.ensures ∙ c.if-not-stands_for.true in (
      (
        refl,
        λ value is. absurd cc,
        (
          stays_same g.K.PartialEq.eq map c.fact_sound.ensures,
          (λ matches. absurd (true≢false (sym matches ∙ other))),
          keeps_grows g.H.KeyHash.hash_of c.args.key map _ (slots_same map _ refl refl),
        ),
      ),
      record { writes_back = tt; value = tt; pair_returned = refl },
    )
