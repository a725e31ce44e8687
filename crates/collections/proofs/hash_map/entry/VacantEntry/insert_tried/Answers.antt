use Rattle.std.proofs.Common.{Ok, ap, inl, inr, refl, subst, sym}
use Rattle.collections.proofs.Collecting.{stays_same}
use Rattle.collections.proofs.Slots.{keeps_grows, slots_same}
use Rattle.collections.proofs.hash_map.entry.VacantEntry.insert_tried.Goals as goal

pub returns-in-Err-add : goal.returns-in-Err-add
returns-in-Err-add g c =
    let back = c.in-Err-add.ensures.pair_returned in
    let stays = rw c.in-Err-add.is at c.add.follows.holds-at-none in (
      (refl, λ value is. absurd cc, (stays.0, stays.2)),
      record {
        writes_back = tt;
        absent = c.args.self.absent;
        value = tt;
        refused = inr (record {
          lacks = stays.1;
          back = c.in-Err-add.back;
          same_key = ap (λ p. p.0) back;
          made = subst (λ value. goal.F-post g c.args.make (Ok value)) (sym (ap (λ p. p.1) back)) c.in-Ok.ensures;
          given = c.from.ensures;
        });
      },
    )

pub returns-in-Err : goal.returns-in-Err
returns-in-Err g c =
    let map = c.args.self.map.now in (
      (
        refl,
        λ value is. absurd cc,
        (
          stays_same g.K.PartialEq.eq map c.fact_sound.ensures,
          keeps_grows g.H.KeyHash.hash_of c.args.self.key map _ (slots_same map _ refl refl),
        ),
      ),
      record { writes_back = tt; absent = c.args.self.absent; value = tt; refused = inl c.in-Err.ensures },
    )
