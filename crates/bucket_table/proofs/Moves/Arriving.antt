-- Slots that are listed one after another, after those that their buckets list.
use Rattle.bucket_table.proofs.Words.{Bool, BucketView, List, ListsArrivals, None, Option, Some, ℕ, [], ap, append-nil, arith, bucket_at}
use Rattle.bucket_table.proofs.Words.{cases_eq, eq-eqb, false, false≢true, get_or, inl, inr, is_listed, landing_of, length, ne_eqb, refl}
use Rattle.bucket_table.proofs.Words.{set, sym, take, take_more, true, ◌++◌, ◌+◌, ◌<◌, ◌==◌, ◌∙◌, ◌∷◌, ◌≡◌}
use Rattle.bucket_table.specs.declared.arrays.relocate.Landing.{Landing}
use Rattle.std.proofs.lemmas.List.Concat.{flat_map-append}
use Rattle.std.proofs.Common.{append_assoc}
use Rattle.std.proofs.lemmas.Bool.{or_from, or_parts}
use Rattle.std.proofs.lemmas.List.Folds.{list_any-append}
use Rattle.bucket_slots.proofs.PlacedSlots.{next_is_new}
use Rattle.bucket_slots.specs.Evicting.{slots_appended}
use Rattle.bucket_slots.specs.Recency.{IsRecencyOrder}
use Rattle.bucket_table.specs.Layout.Landings.{AreListable, IsListable, arrivals, slot_there}
use Rattle.bucket_table.proofs.Moves.Exchanges.{changes_at}

arrivals-append : (landings : List (Option Landing)) (j : ℕ) (order : List ℕ) (slot : ℕ)
    → arrivals landings j (order ++ slot ∷ []) ≡ arrivals landings j order ++ slot_there j (landing_of landings slot)
arrivals-append landings j order slot = flat_map-append (λ at. slot_there j (landing_of landings at)) order (slot ∷ [])
    ∙ ap (λ (those : List ℕ). arrivals landings j order ++ those) (append-nil (slot_there j (landing_of landings slot)))

unlisted-append : (one two : List ℕ) (slot : ℕ) → is_listed one slot ≡ false → is_listed two slot ≡ false
    → is_listed (one ++ two) slot ≡ false
unlisted-append one two slot first second =
    list_any-append (λ listed. slot == listed) one two ∙ or_from (is_listed one slot) (is_listed two slot) first second

both : (one two : Landing) → one.home ≡ two.home → one.slot ≡ two.slot → one ≡ two
both one two first second = ap (λ (x : ℕ). record one { home = x }) first ∙ ap (λ (y : ℕ). record two { slot = y }) second

not_there : (at : Landing) (found : Option Landing) → (found ≡ Some at → ⊥) → is_listed (slot_there at.home found) at.slot ≡ false
not_there at None other = refl
not_there at (Some there) other = elim (cases_eq there.home at.home) [
  | inr apart ↦ rw (ne_eqb there.home at.home apart) refl
  | inl same ↦
      let unlike = ne_eqb at.slot there.slot (λ also. other (ap Some (both there at same (sym also)))) in
      rw (eq-eqb there.home at.home same) (or_from (at.slot == there.slot) false unlike refl)
]

-- a slot in which only one pair landed isn't among the arrivals of the others
not_arrived : (landings : List (Option Landing)) (order : List ℕ) (slot : ℕ) (at : Landing) → is_listed order slot ≡ false
    → ((other : ℕ) → landing_of landings other ≡ Some at → other ≡ slot) → is_listed (arrivals landings at.home order) at.slot ≡ false
not_arrived landings [] slot at absent alone = refl
not_arrived landings (first ∷ order) slot at absent alone =
    let parts = or_parts (slot == first) (is_listed order slot) absent in
    let apart = λ (said : landing_of landings first ≡ Some at). false≢true (sym parts.0 ∙ eq-eqb slot first (sym (alone first said))) in
    unlisted-append (slot_there at.home (landing_of landings first)) (arrivals landings at.home order) at.slot
    (not_there at (landing_of landings first) apart) (not_arrived landings order slot at parts.1 alone)

module _ {K V : Type 0} where
  -- a bucket that lists slots after its own ones
  abbrev pub with_more : BucketView K V → List ℕ → BucketView K V
  with_more b more = record b { listed = b.listed ++ more }

  pub arriving_first : (landings : List (Option Landing)) (c : List (BucketView K V)) → ListsArrivals landings [] c c
  arriving_first landings c = record {
    len = refl;
    each = λ j. ap (λ (those : List ℕ). record (bucket_at c j) { listed = those }) (sym (append-nil (bucket_at c j).listed));
  }

  -- the slots of an order arrive; c is the array once the first k of them have
  module _ (landings : List (Option Landing)) (order : List ℕ) (k : ℕ) (c0 c : List (BucketView K V)) (once : IsRecencyOrder order)
      (arrived : ListsArrivals landings (take k order) c0 c) (slot : ℕ) (slot_is : slot ≡ get_or order k 0) (below : k < length order) where
    new : is_listed (take k order) slot ≡ false
    new = rw slot_is (next_is_new order k once below)

    arrivals_more : (j : ℕ) → arrivals landings j (take (k + 1) order)
        ≡ arrivals landings j (take k order) ++ slot_there j (landing_of landings slot)
    arrivals_more j =
        let more : take (k + 1) order ≡ take k order ++ slot ∷ [] = rw slot_is (take_more order k 0 below) in
        ap (λ (those : List ℕ). arrivals landings j those) more ∙ arrivals-append landings j (take k order) slot

    -- no slot more arrives in a bucket
    arrivals_same : (j : ℕ) → slot_there j (landing_of landings slot) ≡ []
        → arrivals landings j (take (k + 1) order) ≡ arrivals landings j (take k order)
    arrivals_same j none = arrivals_more j ∙ ap (λ (those : List ℕ). arrivals landings j (take k order) ++ those) none
        ∙ append-nil (arrivals landings j (take k order))

    -- its pair landed in a chain
    pub arriving_none : landing_of landings slot ≡ None → ListsArrivals landings (take (k + 1) order) c0 c
    arriving_none none = record {
      len = arrived.len;
      each = λ j.
          let same = arrivals_same j (ap (slot_there j) none) in
          arrived.each j ∙ ap (λ (those : List ℕ). with_more (bucket_at c0 j) those) (sym same);
    }

    module _ (at : Landing) (said : landing_of landings slot ≡ Some at) (table : AreListable landings c0) where
      -- its own slot isn't listed yet
      pub listable_now : IsListable c at
      listable_now =
          let was = table.each slot at said in
          let alone = λ (other : ℕ) (also : landing_of landings other ≡ Some at). table.once other slot at also said in
          let more = not_arrived landings (take k order) slot at new alone in
          record {
            within = omega (arith, arrived.len, was.within);
            live = rw (arrived.each at.home) was.live;
            unlisted = rw (arrived.each at.home)
                (unlisted-append (bucket_at c0 at.home).listed (arrivals landings at.home (take k order)) at.slot was.unlisted more);
          }

      here : slot_there at.home (landing_of landings slot) ≡ at.slot ∷ []
      here = ap (slot_there at.home) said ∙ rw (eq-eqb at.home at.home refl) refl

      elsewhere : (j : ℕ) → (j ≡ at.home → ⊥) → slot_there j (landing_of landings slot) ≡ []
      elsewhere j apart = ap (slot_there j) said ∙ rw (ne_eqb at.home j (λ same. apart (sym same))) refl

      grown : with_more (bucket_at c at.home) (at.slot ∷ []) ≡ with_more (bucket_at c0 at.home)
          (arrivals landings at.home (take (k + 1) order))
      grown =
          let before = arrivals landings at.home (take k order) in
          let longer = arrivals_more at.home ∙ ap (λ (those : List ℕ). before ++ those) here in
          ap (λ (x : BucketView K V). with_more x (at.slot ∷ [])) (arrived.each at.home)
          ∙ ap (λ (those : List ℕ). record (bucket_at c0 at.home) { listed = those })
          (append_assoc (bucket_at c0 at.home).listed before (at.slot ∷ []))
          ∙ ap (λ (those : List ℕ). with_more (bucket_at c0 at.home) those) (sym longer)

      pub arriving_some : (keeps : Bool) (b d : BucketView K V) → keeps ≡ true → b ≡ bucket_at c at.home
          → d ≡ slots_appended keeps b (record { block = 0; pos = at.slot }) → ListsArrivals landings (take (k + 1) order) c0
          (set c at.home d)
      arriving_some keeps b d keeps_is b_is d_is =
          let d_as : d ≡ with_more (bucket_at c at.home) (at.slot ∷ []) =
          d_is ∙ ap (λ (t : Bool). slots_appended t b (record { block = 0; pos = at.slot })) keeps_is
          ∙ ap (λ (x : BucketView K V). with_more x (at.slot ∷ [])) b_is in
          let put = changes_at at.home d c listable_now.within in
          record {
            len = put.len ∙ arrived.len;
            each = λ j. elim (cases_eq j at.home) [
              | inr apart ↦
                  put.other j apart ∙ arrived.each j
                  ∙ ap (λ (those : List ℕ). with_more (bucket_at c0 j) those) (sym (arrivals_same j (elsewhere j apart)))
              | inl same ↦ rw same (put.here ∙ d_as ∙ grown)
            ];
          }
