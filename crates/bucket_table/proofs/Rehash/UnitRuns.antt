-- Steps that each may work a unit, one after another.
use Rattle.bucket_table.proofs.Words.{ArraysView, HasWorkedUnits, IsInRange, KillsOnly, Meets, RelocatesSome, SpendsSome, TicketState}
use Rattle.bucket_table.proofs.Words.{WorksUnits, ℕ, ap, arith, bucket_at, cases_lt, inl, inr, length, refl, true, ◌*◌, ◌+◌, ◌-◌, ◌<◌, ◌↔◌}
use Rattle.bucket_table.proofs.Words.{◌∙◌, ◌≡◌}
use Rattle.bucket_table.specs.Views.Keeping.{StayKilled}
use Rattle.bucket_table.proofs.Rehash.Killing.{due_before, due_wider, only_same}
use Rattle.bucket_table.proofs.Rehash.Spending.{spends_both, spends_few, spends_killed, spends_same}
use Rattle.bucket_table.proofs.Views.Keeping.{kept_none, stay_killed_same}

module _ {K V : Type 0} where
  -- no step: old buckets may move, and no ticket changes
  no_units : (old new : ArraysView K V) → RelocatesSome old new → SpendsSome old.linked new.linked → HasWorkedUnits 0 old new
  no_units old new some spends =
      let at : new.tickets.position ≡ old.tickets.position = ap (λ (t : TicketState). t.position) some.tickets_are in
      record {
        len = some.killed.len;
        spent = spends;
        open_len = ap (λ (t : TicketState). length t.open_units) some.tickets_are;
        least = omega (arith, at);
        most = omega (arith, at);
        worked = λ count few easy. record {
          position = inl (omega (arith, at, few));
          killed = λ i low high within. absurd (omega (arith, low, high, few));
        };
      }

  pub stands_still : (GetsReady : ℕ → Type 0) (old : ArraysView K V) → WorksUnits 0 GetsReady old old
  stands_still GetsReady old = record {
    stands = λ some. no_units old old (record { tickets_are = refl; killed = stay_killed_same old.linked; kept = kept_none old })
        (spends_same old.linked);
    only = λ i alive. inr alive;
  }

  -- one run after another
  runs_both : (first second : ℕ) (old mid last : ArraysView K V) → length mid.current ≡ length old.current
      → HasWorkedUnits first old mid → HasWorkedUnits second mid last → HasWorkedUnits (first + second) old last
  runs_both first second old mid last same_len a b =
      let p : ℕ = old.tickets.position in
      let q : ℕ = mid.tickets.position in
      let len_b = b.len in
      let least_b = b.least in
      let still : (i : ℕ) → (bucket_at mid.linked i).killed ≡ true → (bucket_at last.linked i).killed ≡ true = λ i. spends_killed mid.linked
      last.linked i b.spent in
      record {
        len = len_b ∙ a.len;
        spent = spends_both old.linked mid.linked last.linked a.spent b.spent;
        open_len = b.open_len ∙ a.open_len;
        least = omega (arith, a.least, least_b);
        most = omega (arith, a.most, b.most);
        worked = λ count few needs. elim (cases_lt first count) [
          | inr early ↦
              let done = a.worked count early needs in
              record {
                position = elim done.position [
                  | inl past ↦ inl (omega (arith, past, least_b))
                  | inr over ↦ inr (omega (arith, over, least_b, len_b))
                ];
                killed = λ i low high within. still i (done.killed i low high (omega (arith, within, len_b)));
              }
          | inl late ↦
              let shorter = needs.easy.no_shorter in
              let done = a.worked first (omega arith) (record {
                has_room = needs.has_room;
                easy = record { no_shorter = shorter; few = λ i low high. needs.easy.few i low (omega (arith, high, late)) };
              }) in
              elim done.position [
                | inl past ↦
                    let at : q ≡ p + first = omega (arith, past, a.most) in
                    let rest = b.worked (count - first) (omega (arith, few, late)) (record {
                      has_room = omega (arith, needs.has_room, a.open_len);
                      easy = record {
                        no_shorter = omega (arith, shorter, a.len, same_len);
                        few = λ i low high. spends_few old.linked mid.linked i 32 a.spent (needs.easy.few i (omega (arith, low, at))
                            (omega (arith, high, at, late)));
                      };
                    }) in
                    record {
                      position = elim rest.position [
                        | inl further ↦ inl (omega (arith, further, at, late))
                        | inr over ↦ inr over
                      ];
                      killed = λ i low high within. elim (cases_lt i (64 * (p + first))) [
                        | inl before ↦ still i (done.killed i low before (omega (arith, within, len_b)))
                        | inr behind ↦ rest.killed i (omega (arith, behind, at)) (omega (arith, high, at, late)) within
                      ];
                    }
                | inr over ↦
                    record {
                      position = inr (omega (arith, over, least_b, len_b));
                      killed = λ i low high within. still i (done.killed i low (omega (arith, over, a.most, within, len_b))
                          (omega (arith, within, len_b)));
                    }
              ]
        ];
      }

  pub units_both : {A B : ℕ → Type 0} (C : ℕ → Type 0) (first second : ℕ) (old mid last : ArraysView K V) → ((i : ℕ) → A i → C i)
      → ((i : ℕ) → B i → C i) → length mid.current ≡ length old.current
      → WorksUnits first A old mid → WorksUnits second B mid last → WorksUnits (first + second) C old last
  units_both {A} {B} C first second old mid last some others len a b = record {
    stands = λ stands.
        let run = b.stands stands in
        runs_both first second old mid last len (a.stands (omega (arith, stands, run.len))) run;
    only = λ i alive. elim (a.only i alive) [
      | inl due ↦ inl (due_wider A C first (first + second) old i (omega arith) some due)
      | inr still ↦ elim (b.only i still) [
        | inl due ↦ inl (due_before B C first second old mid i (a.stands (omega (arith, still.0))) len others due)
        | inr on ↦ inr on
      ]
    ];
  }

  -- a unit, and then the sources of a current bucket, which are a range
  pub units_prepared : (start end to from index : ℕ) (old mid new : ArraysView K V) → length mid.current ≡ length old.current
      → WorksUnits 1 (λ none. ⊥) old mid → RelocatesSome mid new → SpendsSome mid.linked new.linked
      → KillsOnly (IsInRange start end) mid.linked new.linked → to ≡ length mid.current → from ≡ length mid.linked
      → ((i : ℕ) → IsInRange start end i ↔ Meets to index from i) → WorksUnits 1 (λ home. home ≡ index) old new
  units_prepared start end to from index old mid new len unit some spends only to_is from_is range =
      units_both {B = λ home. home ≡ index} (λ home. home ≡ index) 1 0 old mid new (λ i none. absurd none) (λ i here. here) len unit
      (record {
        stands = λ on. no_units mid new some spends;
        only = λ i alive. elim (only i alive) [
          | inl one ↦ let meets = (range i).0 one in inl (inr (index, refl, rw (← to_is, ← from_is) (meets.0, meets.2, meets.1)))
          | inr still ↦ inr still
        ];
      })

  -- more current buckets
  pub units_wider : {A : ℕ → Type 0} (B : ℕ → Type 0) (steps : ℕ) (old new : ArraysView K V) → ((i : ℕ) → A i → B i)
      → WorksUnits steps A old new → WorksUnits steps B old new
  units_wider {A} B steps old new wider w = record {
    stands = w.stands;
    only = λ i alive. elim (w.only i alive) [
      | inl due ↦ inl (due_wider A B steps steps old i (omega arith) wider due)
      | inr on ↦ inr on
    ];
  }

  -- what is killed stays killed
  pub units_still : {A : ℕ → Type 0} (steps : ℕ) (old new : ArraysView K V) → WorksUnits steps A old new → 0 < length new.linked
      → StayKilled old.linked new.linked
  units_still steps old new w stands = let run = w.stands stands in record {
    len = run.len;
    still = λ j dead. spends_killed old.linked new.linked j
        run.spent dead;
  }

  -- and if there was no old array, there is none after
  pub units_alone : {A : ℕ → Type 0} (steps : ℕ) (old new : ArraysView K V) → WorksUnits steps A old new → length old.linked ≡ 0
      → length new.linked ≡ 0
  units_alone steps old new w alone = elim (cases_lt 0 (length new.linked)) [
    | inl stands ↦ let run = w.stands stands in let len = run.len in absurd (omega (arith, stands, len, alone))
    | inr none ↦ omega (arith, none)
  ]

  -- arrays with the same old one and the same tickets
  pub units_as : {A : ℕ → Type 0} (steps : ℕ) (old mid new : ArraysView K V) → WorksUnits steps A old mid → new.linked ≡ mid.linked
      → new.tickets ≡ mid.tickets → WorksUnits steps A old new
  units_as steps old mid new units linked tickets = record {
    stands = λ stands.
        let run = units.stands (rw linked at stands) in
        record {
          len = rw linked run.len;
          spent = rw linked run.spent;
          open_len = rw tickets run.open_len;
          least = rw tickets run.least;
          most = rw tickets run.most;
          worked = λ count few easy. let done = run.worked count few easy in record {
            position = rw (tickets, linked) done.position;
            killed = rw linked done.killed;
          };
        };
    only = only_same _ old.linked mid.linked new.linked units.only linked;
  }
