-- No tombstone is new: in lists of tombstones, in rows of slots, and when a slot, a row or a bucket changes, is added or is removed.
use Rattle.bucket_slots.proofs.Words.{Contains, Contains-append_cases, Contains-append_left, Contains-append_right, HasNoNewMark, List}
use Rattle.bucket_slots.proofs.Words.{MarksBy, Slot, [], ap, arith, flat_map, flattened, free, get_or, inl, inr, map, marked_entries}
use Rattle.bucket_slots.proofs.Words.{marked_entry, option_to_list, remove, rows_with, set, subst, suc, sym, take, zero, ℕ, ◌++◌, ◌∷◌, ◌≡◌}
use Rattle.bucket_slots.proofs.Entries.{filter_map-flattened, filter_map-is}

module _ {K V : Type 0} where
  pub no_new-refl : (marks : List ((K × V) × ℕ)) → HasNoNewMark marks marks
  no_new-refl marks = record { stood = λ mark there. there }

  pub no_new-trans : (old between new : List ((K × V) × ℕ)) → HasNoNewMark old between → HasNoNewMark between new → HasNoNewMark old new
  no_new-trans old between new first second = record { stood = λ mark there. first.stood mark (second.stood mark there) }

  -- the same tombstones
  pub no_new-same : (old new : List ((K × V) × ℕ)) → new ≡ old → HasNoNewMark old new
  no_new-same old new same = subst (λ marks. HasNoNewMark marks new) same (no_new-refl new)

  -- no tombstones
  pub no_new-none : (old : List ((K × V) × ℕ)) → HasNoNewMark old []
  no_new-none old = record { stood = λ mark there. Contains-append_left [] old mark there }

  -- a part of the tombstones
  pub no_new-front : (xs ys : List ((K × V) × ℕ)) → HasNoNewMark (xs ++ ys) xs
  no_new-front xs ys = record { stood = λ mark there. Contains-append_left xs ys mark there }

  pub no_new-rest : (xs ys : List ((K × V) × ℕ)) → HasNoNewMark (xs ++ ys) ys
  no_new-rest xs ys = record { stood = λ mark there. Contains-append_right xs ys mark there }

  -- two lists, neither of which has a new one
  pub no_new-both : (old xs ys : List ((K × V) × ℕ)) → HasNoNewMark old xs → HasNoNewMark old ys → HasNoNewMark old (xs ++ ys)
  no_new-both old xs ys first second = record {
    stood = λ mark there. elim (Contains-append_cases xs ys mark there) [
      | inl here ↦ first.stood mark here
      | inr behind ↦ second.stood mark behind
    ];
  }

  -- two lists, each beside its own
  pub no_new-append : (xs ys us vs : List ((K × V) × ℕ)) → HasNoNewMark xs us → HasNoNewMark ys vs → HasNoNewMark (xs ++ ys) (us ++ vs)
  no_new-append xs ys us vs first second =
      no_new-both (xs ++ ys) us vs (no_new-trans (xs ++ ys) xs us (no_new-front xs ys) first)
      (no_new-trans (xs ++ ys) ys vs (no_new-rest xs ys) second)

module _ {A K V : Type 0} (f : A → List ((K × V) × ℕ)) where
  -- another element adds no tombstone to those of all but the ones allowed, if it adds no others to its own
  pub no_new-set : (more : List ((K × V) × ℕ)) (items : List A) (i : ℕ) (a d : A) → HasNoNewMark (more ++ f (get_or items i d)) (f a)
      → HasNoNewMark (more ++ flat_map f items) (flat_map f (set items i a))
  no_new-set more [] i a d here = no_new-none (more ++ [])
  no_new-set more (c ∷ items) zero a d here =
      let rest = flat_map f items in
      let front = no_new-append more (f c ++ rest) more (f c) (no_new-refl more) (no_new-front (f c) rest) in
      let behind = no_new-trans _ _ _ (no_new-rest more (f c ++ rest)) (no_new-rest (f c) rest) in
      no_new-both (more ++ (f c ++ rest)) (f a) rest (no_new-trans _ _ _ front here) behind
  no_new-set more (c ∷ items) (suc i) a d here =
      let rest = flat_map f items in
      let front = no_new-trans _ _ _ (no_new-rest more (f c ++ rest)) (no_new-front (f c) rest) in
      let behind = no_new-append more (f c ++ rest) more rest (no_new-refl more) (no_new-rest (f c) rest) in
      no_new-both (more ++ (f c ++ rest)) (f c) (flat_map f (set items i a)) front
      (no_new-trans _ _ _ behind (no_new-set more items i a d here))

  -- an element's tombstones are among those of all
  pub no_new-at : (items : List A) (i : ℕ) (d : A) → f d ≡ [] → HasNoNewMark (flat_map f items) (f (get_or items i d))
  no_new-at [] i d none = no_new-same [] (f d) none
  no_new-at (c ∷ items) zero d none = no_new-front (f c) (flat_map f items)
  no_new-at (c ∷ items) (suc i) d none = no_new-trans _ _ _ (no_new-rest (f c) (flat_map f items)) (no_new-at items i d none)

  -- an element is removed, or those after a position
  pub no_new-remove : (items : List A) (i : ℕ) → HasNoNewMark (flat_map f items) (flat_map f (remove items i))
  no_new-remove [] zero = no_new-refl []
  no_new-remove [] (suc i) = no_new-refl []
  no_new-remove (c ∷ items) zero = no_new-rest (f c) (flat_map f items)
  no_new-remove (c ∷ items) (suc i) =
      no_new-append (f c) (flat_map f items) (f c) (flat_map f (remove items i)) (no_new-refl (f c)) (no_new-remove items i)

  pub no_new-take : (n : ℕ) (items : List A) → HasNoNewMark (flat_map f items) (flat_map f (take n items))
  no_new-take zero items = no_new-none (flat_map f items)
  no_new-take (suc n) [] = no_new-refl []
  no_new-take (suc n) (c ∷ items) =
      no_new-append (f c) (flat_map f items) (f c) (flat_map f (take n items)) (no_new-refl (f c)) (no_new-take n items)

  -- each element is replaced by one that adds no tombstone
  pub no_new-map : (g : A → A) → ((a : A) → HasNoNewMark (f a) (f (g a))) → (items : List A)
      → HasNoNewMark (flat_map f items) (flat_map f (map g items))
  no_new-map g each [] = no_new-refl []
  no_new-map g each (c ∷ items) =
      no_new-append (f c) (flat_map f items) (f (g c)) (flat_map f (map g items)) (each c) (no_new-map g each items)

module _ {K V : Type 0} where
  -- the pair of a tombstone with its epoch, or nothing
  abbrev pub mark_of : Slot K V → List ((K × V) × ℕ)
  mark_of slot = option_to_list (marked_entry slot)

  -- another slot adds no tombstone but its own: to a row, and to rows
  pub marked_entries-set : (slots : List (Slot K V)) (pos : ℕ) (x : Slot K V)
      → HasNoNewMark (mark_of x ++ marked_entries slots) (marked_entries (set slots pos x))
  marked_entries-set slots pos x =
      rw (filter_map-is marked_entry slots, filter_map-is marked_entry (set slots pos x))
      (no_new-set mark_of (mark_of x) slots pos x free (no_new-front (mark_of x) (mark_of (get_or slots pos free))))

  pub marked_entries-rows_with : (rows : List (List (Slot K V))) (i pos : ℕ) (x : Slot K V)
      → HasNoNewMark (mark_of x ++ marked_entries (flattened rows)) (marked_entries (flattened (rows_with rows i pos x)))
  marked_entries-rows_with rows i pos x =
      let row = set (get_or rows i []) pos x in
      rw (filter_map-flattened marked_entry rows, filter_map-flattened marked_entry (set rows i row))
      (no_new-set marked_entries (mark_of x) rows i row [] (marked_entries-set (get_or rows i []) pos x))

contains_one : {A : Type 0} (x y : A) → Contains (x ∷ []) y → x ≡ y
contains_one x y (zero, less, is) = is
contains_one x y (suc k, less, is) = absurd (omega (arith, less))

module _ {K V : Type 0} (epoch : ℕ) where
  -- no tombstone is new
  pub by-no_new : (old new : List ((K × V) × ℕ)) → HasNoNewMark old new → MarksBy epoch old new
  by-no_new old new none = record { stood = λ mark there. inl (none.stood mark there) }

  -- one pair became a tombstone
  pub by-one : (pair : K × V) (old new : List ((K × V) × ℕ)) → HasNoNewMark ((pair, epoch) ∷ old) new → MarksBy epoch old new
  by-one pair old new one = record {
    stood = λ mark there. elim (Contains-append_cases ((pair, epoch) ∷ []) old mark (one.stood mark there)) [
      | inl here ↦ let is : (pair, epoch) ≡ mark = contains_one (pair, epoch) mark here in inr (sym (ap (λ (m : (K × V) × ℕ). m.1) is))
      | inr behind ↦ inl behind
    ];
  }

  pub by-trans : (old between new : List ((K × V) × ℕ)) → MarksBy epoch old between → MarksBy epoch between new → MarksBy epoch old new
  by-trans old between new first second = record {
    stood = λ mark there. elim (second.stood mark there) [
      | inl was ↦ first.stood mark was
      | inr is ↦ inr is
    ];
  }

  pub by-append : (xs ys us vs : List ((K × V) × ℕ)) → MarksBy epoch xs us → MarksBy epoch ys vs → MarksBy epoch (xs ++ ys) (us ++ vs)
  by-append xs ys us vs first second = record {
    stood = λ mark there. elim (Contains-append_cases us vs mark there) [
      | inl here ↦ elim (first.stood mark here) [
        | inl was ↦ inl (Contains-append_left xs ys mark was)
        | inr is ↦ inr is
      ]
      | inr behind ↦ elim (second.stood mark behind) [
        | inl was ↦ inl (Contains-append_right xs ys mark was)
        | inr is ↦ inr is
      ]
    ];
  }

  -- an element is replaced
  pub by-set : {A : Type 0} (f : A → List ((K × V) × ℕ)) (items : List A) (i : ℕ) (a d : A) → f d ≡ []
      → MarksBy epoch (f (get_or items i d)) (f a) → MarksBy epoch (flat_map f items) (flat_map f (set items i a))
  by-set f items i a d none here =
      let placed = no_new-set f (f a) items i a d (no_new-front (f a) (f (get_or items i d))) in
      record {
        stood = λ mark there. elim (Contains-append_cases (f a) (flat_map f items) mark (placed.stood mark there)) [
          | inl new ↦ elim (here.stood mark new) [
            | inl was ↦ inl ((no_new-at f items i d none).stood mark was)
            | inr is ↦ inr is
          ]
          | inr other ↦ inl other
        ];
      }
