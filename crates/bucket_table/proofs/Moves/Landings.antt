-- Where the pairs of a bucket's own slots land while they move one after another to their homes.
use Rattle.bucket_table.proofs.Words.{BucketView, IsBucketOf, KeepsPlaces, List, None, Option, Place, Some, StandsInChain, ℕ, [], ap, arith}
use Rattle.bucket_table.proofs.Words.{bucket_at, cases_eq, cases_lt, eq-eqb, false, false≢true, first_place, get_or-set_same, homed_len}
use Rattle.bucket_table.proofs.Words.{inl, inr, is_free, is_live, landing_of, length, length-set, length_permutation, listed_pairs}
use Rattle.bucket_table.proofs.Words.{live_from_pair, live_not_free, live_pair, ne_eqb, pairs_in, pairs_in-slots_vacated, refl, replicate}
use Rattle.bucket_table.proofs.Words.{set, slot_at, slot_in, slots_vacated, subst, suc, sym, true, zero, ◌%◌, ◌<◌, ◌∙◌, ◌≡◌, ◌⊎◌}
use Rattle.bucket_slots.specs.Placing.{place_for_next, slots_with}
use Rattle.bucket_table.specs.Layout.Moving.{MovesHome}
use Rattle.bucket_table.specs.declared.arrays.relocate.Landing.{Landing}
use Rattle.std.proofs.lemmas.List.{get_or-set_other, set_past}
use Rattle.bucket_slots.proofs.PlacedSlots.{chain_kept, chain_put, free_unlisted, listed-slots_with, listed_pairs-slots_with}
use Rattle.bucket_slots.proofs.PlacedSlots.{own-slots_vacated, own_kept, own_put, own_vacated, was_free}
use Rattle.bucket_table.specs.Layout.Landings.{AreListable, HaveLanded, IsListable, landings_with}
use Rattle.bucket_table.proofs.Moves.Exchanges.{ChangesAt, changes_at, each_after}
use Rattle.bucket_table.proofs.Moves.Staying.{place_kept, stay_both, stay_same}

-- what is recorded of a pair that moved: the own slot in which it landed, or nothing
abbrev IsSaid : (landings : List (Option Landing)) (from : Place) (home : ℕ) (to : Place) (said : List (Option Landing)) → Type 0
IsSaid landings from home to said = (from.block ≡ 0 × to.block ≡ 0 × from.pos < length landings
    × said ≡ set landings from.pos (Some (record { home = home; slot = to.pos })))
    ⊎ ((from.block ≡ 0 → to.block ≡ 0 → from.pos < length landings → ⊥) × said ≡ landings)

is_said : (landings : List (Option Landing)) (from : Place) (home : ℕ) (to : Place)
    → IsSaid landings from home to (landings_with landings from home to)
is_said landings from home to = elim (cases_eq from.block 0) [
  | inr chained ↦ inr ((λ own _ _. chained own), rw (ne_eqb from.block 0 chained) refl)
  | inl own ↦ elim (cases_eq to.block 0) [
    | inr chained ↦ inr ((λ _ lands _. chained lands), rw (eq-eqb from.block 0 own, ne_eqb to.block 0 chained) refl)
    | inl lands ↦ elim (cases_lt from.pos (length landings)) [
      | inl within ↦ inl (own, lands, within, rw (eq-eqb from.block 0 own, eq-eqb to.block 0 lands) refl)
      | inr past ↦ inr (
        (λ _ _ within. absurd (omega (arith, within, past))),
        rw (eq-eqb from.block 0 own, eq-eqb to.block 0 lands) (set_past landings from.pos _ past),
      )
    ]
  ]
]

-- a new table records nothing
pub none_said : (n slot : ℕ) → landing_of (replicate n None) slot ≡ None
none_said zero slot = refl
none_said (suc n) zero = refl
none_said (suc n) (suc slot) = none_said n slot

module _ {K V : Type 0} where
  -- an own slot whose pair has moved: if the table has no record of it, its pair is in a chain
  pub record HasGone (s0 s : BucketView K V) (c : List (BucketView K V)) (landings : List (Option Landing)) (slot : ℕ) : Type 0 where
    pub gone : live_pair (slot_at s.own slot) ≡ None
    pub in_chain : (pair : K × V) → slot < length landings → live_pair (slot_at s0.own slot) ≡ Some pair
        → landing_of landings slot ≡ None → (j : ℕ) × StandsInChain (bucket_at c j) pair

  -- between two moves: what the table records, and that each own slot is as it was, or its pair has moved
  pub record AreLanding (hash : K → ℕ) (s0 : BucketView K V) (c0 : List (BucketView K V)) (s : BucketView K V) (c : List (BucketView K V))
      (landings : List (Option Landing)) : Type 0 where
    pub table : AreListable landings c
    pub same_pair : (slot : ℕ) (at : Landing) → landing_of landings slot ≡ Some at
        → live_pair (slot_at (bucket_at c at.home).own at.slot) ≡ live_pair (slot_at s0.own slot)
    pub homed : (slot : ℕ) (at : Landing) → landing_of landings slot ≡ Some at → homed_len hash (length c0) at.home (pairs_in s0) ≡ 0 → ⊥
    pub each : (slot : ℕ) → (slot_at s.own slot ≡ slot_at s0.own slot) ⊎ HasGone s0 s c landings slot
    pub stay : KeepsPlaces c0 c
    pub same_lists : (j : ℕ) → listed_pairs (bucket_at c j) ≡ listed_pairs (bucket_at c0 j)

  pub landing_first : (hash : K → ℕ) (s : BucketView K V) (c : List (BucketView K V)) (landings : List (Option Landing))
      → ((slot : ℕ) → landing_of landings slot ≡ None) → AreLanding hash s c s c landings
  landing_first hash s c landings unsaid =
      let never : (slot : ℕ) (at : Landing) → landing_of landings slot ≡ Some at → ⊥ = λ slot at said. let none = unsaid slot in cc in
      record {
        table = record {
          each = λ slot at said. absurd (never slot at said);
          once = λ one two at said also. absurd (never one at said);
        };
        same_pair = λ slot at said. absurd (never slot at said);
        homed = λ slot at said. absurd (never slot at said);
        each = λ slot. inl refl;
        stay = stay_same c;
        same_lists = λ j. refl;
      }

  pub own_slot_of : (s : BucketView K V) (at : Place) (p : K × V) → at.block ≡ 0 → live_pair (slot_in s at) ≡ Some p
      → live_pair (slot_at s.own at.pos) ≡ Some p
  own_slot_of s at p own here = rw own at here

  -- p is placed in bucket j of c, whose laws hold; d is the array after that
  module _ {kind j : ℕ} {c d : List (BucketView K V)} (p : K × V) (b : ℕ) (laws : IsBucketOf kind (bucket_at c j))
      (put : ChangesAt j (slots_with (bucket_at c j) p b) c d) where
    live_kept : (i slot : ℕ) → is_live (slot_at (bucket_at c i).own slot) ≡ true
        → slot_at (bucket_at d i).own slot ≡ slot_at (bucket_at c i).own slot
    live_kept i slot = each_after put
        (λ k x. is_live (slot_at (bucket_at c k).own slot) ≡ true → slot_at x.own slot ≡ slot_at (bucket_at c k).own slot)
        (λ alive. own_kept (bucket_at c j) p b slot (live_not_free (slot_at (bucket_at c j).own slot) alive)) (λ k apart alive. refl) i

    list_kept : (i : ℕ) → (bucket_at d i).listed ≡ (bucket_at c i).listed
    list_kept =
        each_after put (λ i x. x.listed ≡ (bucket_at c i).listed) (listed-slots_with (bucket_at c j) p b) (λ i apart. refl)

    pairs_kept : (i : ℕ) → listed_pairs (bucket_at d i) ≡ listed_pairs (bucket_at c i)
    pairs_kept = each_after put (λ i x. listed_pairs x ≡ listed_pairs (bucket_at c i))
        (listed_pairs-slots_with (bucket_at c j) p b kind laws) (λ i apart. refl)

    pub all_stay : (first_place is_free (bucket_at c j) ≡ None → ⊥) → KeepsPlaces c d
    all_stay room i at = each_after put
        (λ k x. is_free (slot_in (bucket_at c k) at) ≡ false → slot_in x at ≡ slot_in (bucket_at c k) at)
        (place_kept (bucket_at c j) p b at room) (λ k apart occupied. refl) i

    in_chain_kept : (q : K × V) → (i : ℕ) × StandsInChain (bucket_at c i) q → (i : ℕ) × StandsInChain (bucket_at d i) q
    in_chain_kept q (i, has) = (
      i,
      each_after put (λ k x. StandsInChain (bucket_at c k) q → StandsInChain x q)
          (chain_kept (bucket_at c j) p b q) (λ k apart was. was) i has,
    )

    listable_kept : (at : Landing) → IsListable c at → IsListable d at
    listable_kept at is = record {
      within = omega (arith, is.within, put.len);
      live = ap is_live (live_kept at.home at.slot is.live) ∙ is.live;
      unlisted = rw (list_kept at.home) is.unlisted;
    }

    -- the own slot in which it landed
    abbrev at_now : Landing
    at_now = record { home = j; slot = (place_for_next (bucket_at c j)).pos }

    listable_here : j < length c → (place_for_next (bucket_at c j)).block ≡ 0 → IsListable d at_now
    listable_here within own = record {
      within = omega (arith, within, put.len);
      live = rw put.here (ap is_live (own_put (bucket_at c j) p b own));
      unlisted = rw (list_kept j) (free_unlisted kind (bucket_at c j) at_now.slot laws (was_free (bucket_at c j) p b own));
    }

    -- it was free, so it wasn't listable before
    new_here : (place_for_next (bucket_at c j)).block ≡ 0 → IsListable c at_now → ⊥
    new_here own is = false≢true (ap is_live (sym (was_free (bucket_at c j) p b own)) ∙ is.live)

    -- p was in slot `from` of s
    module _ {hash : K → ℕ} {s0 s : BucketView K V} {c0 : List (BucketView K V)} {landings : List (Option Landing)} (from : Place)
        (landing : AreLanding hash s0 c0 s c landings) (here : live_pair (slot_in s from) ≡ Some p)
        (room : first_place is_free (bucket_at c j) ≡ None → ⊥) where
      -- a slot whose pair stays or has moved before
      each_other : (said : List (Option Landing)) (slot : ℕ) → length said ≡ length landings → (from.block ≡ 0 → slot ≡ from.pos → ⊥)
          → landing_of said slot ≡ landing_of landings slot
          → (slot_at (slots_vacated s from).own slot ≡ slot_at s0.own slot) ⊎ HasGone s0 (slots_vacated s from) d said slot
      each_other said slot long apart same =
          let still = own-slots_vacated s from.block from.pos slot apart in
          elim (landing.each slot) [
            | inl ahead ↦ inl (still ∙ ahead)
            | inr gone ↦ inr (record {
              gone = ap live_pair still ∙ gone.gone;
              in_chain = λ q within is none. in_chain_kept q (gone.in_chain q (omega (arith, within, long)) is (sym same ∙ none));
            })
          ]

      lists_still : (i : ℕ) → listed_pairs (bucket_at d i) ≡ listed_pairs (bucket_at c0 i)
      lists_still i = pairs_kept i ∙ landing.same_lists i

      pair_still : (slot : ℕ) (at : Landing) → landing_of landings slot ≡ Some at
          → live_pair (slot_at (bucket_at d at.home).own at.slot) ≡ live_pair (slot_at s0.own slot)
      pair_still slot at said = ap live_pair (live_kept at.home at.slot (landing.table.each slot at said).live) ∙ landing.same_pair slot at
          said

      -- what was in the own slot that is vacated was there from the start
      from_start : from.block ≡ 0 → live_pair (slot_at s0.own from.pos) ≡ Some p
      from_start own =
          let now = own_slot_of s from p own here in
          elim (landing.each from.pos) [
            | inl ahead ↦ ap live_pair (sym ahead) ∙ now
            | inr gone ↦ absurd (let none = gone.gone in cc)
          ]

      gone_now : from.block ≡ 0 → live_pair (slot_at (slots_vacated s from).own from.pos) ≡ None
      gone_now own =
          let alive = live_from_pair (slot_at s.own from.pos) p (own_slot_of s from p own here) in
          ap live_pair (own_vacated s from.block from.pos own alive)

      same_pair : (q : K × V) → from.block ≡ 0 → live_pair (slot_at s0.own from.pos) ≡ Some q → p ≡ q
      same_pair q own is = let first = from_start own in cc

      -- it leaves the chain, lands in one, or the table has no room: nothing is recorded
      landed_elsewhere : (from.block ≡ 0 → (place_for_next (bucket_at c j)).block ≡ 0 → from.pos < length landings → ⊥)
          → AreLanding hash s0 c0 (slots_vacated s from) d landings
      landed_elsewhere elsewhere = record {
        table = record {
          each = λ slot at said. listable_kept at (landing.table.each slot at said);
          once = landing.table.once;
        };
        same_pair = pair_still;
        homed = landing.homed;
        each = λ slot. elim (cases_eq from.block 0) [
          | inr chained ↦ each_other landings slot refl (λ own. absurd (chained own)) refl
          | inl own ↦ elim (cases_eq slot from.pos) [
            | inr apart ↦ each_other landings slot refl (λ _. apart) refl
            | inl same ↦ inr (record {
              gone = rw same (gone_now own);
              in_chain = λ q within is none.
                  let chained = λ (lands : (place_for_next (bucket_at c j)).block ≡ 0). elsewhere own lands (rw same at within) in
                  let stands : StandsInChain (bucket_at d j) p = rw put.here (chain_put (bucket_at c j) p b chained) in
                  (j, subst (StandsInChain (bucket_at d j)) (same_pair q own (rw same at is)) stands);
            })
          ]
        ];
        stay = stay_both c0 c d landing.stay (all_stay room);
        same_lists = lists_still;
      }

      -- it lands in an own slot, which the table records
      module _ (own : from.block ≡ 0) (lands : (place_for_next (bucket_at c j)).block ≡ 0) (asked : from.pos < length landings)
          (within : j < length c)
          (homed_here : homed_len hash (length c0) j (pairs_in s0) ≡ 0 → ⊥) where
        abbrev said : List (Option Landing)
        said = set landings from.pos (Some at_now)

        said_here : landing_of said from.pos ≡ Some at_now
        said_here = get_or-set_same landings from.pos (Some at_now) None asked

        said_other : (slot : ℕ) → (slot ≡ from.pos → ⊥) → landing_of said slot ≡ landing_of landings slot
        said_other slot apart = get_or-set_other landings from.pos slot (Some at_now) None apart

        -- what the table records of a slot is new, or was recorded before
        said_before : (slot : ℕ) (at : Landing) → landing_of said slot ≡ Some at
            → ((slot ≡ from.pos) × (at_now ≡ at)) ⊎ (landing_of landings slot ≡ Some at)
        said_before slot at is = elim (cases_eq slot from.pos) [
          | inl same ↦ let first : landing_of said slot ≡ Some at_now = rw same said_here in inl (same, cc)
          | inr apart ↦ inr (sym (said_other slot apart) ∙ is)
        ]

        not_before : (slot : ℕ) (at : Landing) → at_now ≡ at → landing_of landings slot ≡ Some at → ⊥
        not_before slot at same before = new_here lands (subst (IsListable c) (sym same) (landing.table.each slot at before))

        table_now : AreListable said d
        table_now = record {
          each = λ slot at is. elim (said_before slot at is) [
            | inl now ↦ subst (IsListable d) now.1 (listable_here within lands)
            | inr before ↦ listable_kept at (landing.table.each slot at before)
          ];
          once = λ one two at is also. elim (said_before one at is) [
            | inl now ↦ elim (said_before two at also) [
              | inl too ↦ now.0 ∙ sym too.0
              | inr before ↦ absurd (not_before two at now.1 before)
            ]
            | inr before ↦ elim (said_before two at also) [
              | inl now ↦ absurd (not_before one at now.1 before)
              | inr too ↦ landing.table.once one two at before too
            ]
          ];
        }

        pair_here : (at : Landing) → at_now ≡ at → live_pair (slot_at (bucket_at d at.home).own at.slot) ≡ Some p
        pair_here at same =
            let stands : live_pair (slot_at (bucket_at d j).own at_now.slot) ≡ Some p =
            rw put.here (ap live_pair (own_put (bucket_at c j) p b lands)) in
            subst (λ (x : Landing). live_pair (slot_at (bucket_at d x.home).own x.slot) ≡ Some p) same stands

        landed_own : AreLanding hash s0 c0 (slots_vacated s from) d said
        landed_own = record {
          table = table_now;
          same_pair = λ slot at is. elim (said_before slot at is) [
            | inl now ↦ pair_here at now.1 ∙ sym (rw now.0 (from_start own))
            | inr before ↦ pair_still slot at before
          ];
          homed = λ slot at is. elim (said_before slot at is) [
            | inl now ↦ subst (λ (x : Landing). homed_len hash (length c0) x.home (pairs_in s0) ≡ 0 → ⊥) now.1 homed_here
            | inr before ↦ landing.homed slot at before
          ];
          each = λ slot. elim (cases_eq slot from.pos) [
            | inr apart ↦ each_other said slot (length-set landings from.pos (Some at_now)) (λ _. apart) (said_other slot apart)
            | inl same ↦ inr (record {
              gone = rw same (gone_now own);
              in_chain = λ q within is none. absurd (let first : landing_of said slot ≡ Some at_now = rw same said_here in cc);
            })
          ];
          stay = stay_both c0 c d landing.stay (all_stay room);
          same_lists = lists_still;
        }

  -- a move
  pub landing_step : (hash : K → ℕ) {kind : ℕ} {s0 s t : BucketView K V} {c0 c d : List (BucketView K V)}
      {landings said : List (Option Landing)} {at : Place} → AreLanding hash s0 c0 s c landings
      → (one : MovesHome kind hash at s c landings t d said) → (homed_len hash (length c0) one.home (pairs_in s0) ≡ 0 → ⊥)
      → (first_place is_free (bucket_at c one.home) ≡ None → ⊥) → AreLanding hash s0 c0 t d said
  landing_step hash {c} {landings} {at} landing one homed room =
      let j = one.home in
      let put = changes_at j (slots_with (bucket_at c j) one.pair (one.number % 256)) c one.way.home.within in
      rw (one.vacated, one.placed) (elim (is_said landings at j (place_for_next (bucket_at c j))) [
        | inl (own, lands, asked, is) ↦ rw (one.landed ∙ is)
            (landed_own one.pair _ one.home_laws put at landing one.here room own lands asked one.way.home.within homed)
        | inr (elsewhere, is) ↦ rw (one.landed ∙ is)
            (landed_elsewhere one.pair _ one.home_laws put at landing one.here room elsewhere)
      ])

  -- the pairs of a bucket that is empty have all moved
  pub none_left : (s : BucketView K V) (slot : ℕ) (p : K × V) → pairs_in s ≡ [] → live_pair (slot_at s.own slot) ≡ Some p → ⊥
  none_left s slot p none here =
      let long = length_permutation _ _ (pairs_in-slots_vacated s (record { block = 0; pos = slot }) p here) in
      omega (arith, long, ap length none)

  pub landed_all : (hash : K → ℕ) (s0 : BucketView K V) (c0 : List (BucketView K V)) (s : BucketView K V) (c : List (BucketView K V))
      (landings : List (Option Landing)) → AreLanding hash s0 c0 s c landings → pairs_in s ≡ [] → HaveLanded hash s0 c0 c landings
  landed_all hash s0 c0 s c landings landing none = record {
    table = landing.table;
    same_pair = landing.same_pair;
    homed = landing.homed;
    in_chain = λ slot pair within here unsaid. elim (landing.each slot) [
      | inl ahead ↦ absurd (none_left s slot pair none (ap live_pair ahead ∙ here))
      | inr gone ↦ gone.in_chain pair within here unsaid
    ];
    stay = landing.stay;
    same_lists = landing.same_lists;
  }
