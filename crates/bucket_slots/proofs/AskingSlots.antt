-- A function that is lent the value of each live slot of a row, by the mask of the remaining ones.
use Rattle.bucket_slots.proofs.Words.{BucketView, CACHE, IsBucket, flattened, is_marked, marked_len, sum_by-append, ◌≢◌}
use Rattle.bucket_slots.proofs.Words.{Bool, Bor, IsLowest, IsMaskOf, List, MutBor, SetsBit, Slot, Some, [], ap, append-nil, append_assoc}
use Rattle.bucket_slots.proofs.Words.{arith, bit_at-zero}
use Rattle.bucket_slots.proofs.Words.{drop, drop_all, drop_more, false, free, get_or-set_same, if◌then◌else◌, is_live, length}
use Rattle.bucket_slots.proofs.Words.{length-take-le, live, live_pair, marked, refl, row_with_value, set, set-get_or, slot_at}
use Rattle.bucket_slots.proofs.Words.{slot_with_value, subst, suc, sym, take}
use Rattle.bucket_slots.proofs.Words.{take_all, true, zero, ℕ, ◌++◌, ◌+◌, ◌-◌, ◌<◌, ◌∙◌, ◌∷◌, ◌≡◌, ◌≤◌}
use Rattle.std.proofs.lemmas.List.Sums.{sum_by-cons}
use Rattle.bucket_slots.proofs.ChangedSlots.{live-value}
use Rattle.bucket_slots.proofs.Counting.{tally}
use Rattle.std.proofs.lemmas.List.{get_or-append_right, set-append_right, take_more}
use Rattle.bucket_slots.specs.Walking.{AsksSlot, AsksSlots}
use Rattle.bucket_slots.specs.OwnWalks.{NamesFrom}
use Rattle.bucket_slots.proofs.LiveMasks.{lowest_ahead, named_live, names_all, names_next}
use Rattle.bucket_slots.proofs.Masks.{bit_is_not, within}

-- a slot with another value is live if it was live before
pub revalued_live : {K V : Type 0} (slots : List (Slot K V)) (pos : ℕ) (value : V) → is_live (slot_at slots pos) ≡ true
    → is_live (slot_at (row_with_value slots pos value) pos) ≡ true
revalued_live slots pos value alive =
    rw (get_or-set_same slots pos (slot_with_value (slot_at slots pos) value) free (within is_live slots pos free refl alive))
    (live-value (slot_at slots pos) value alive).0

module _ {S K V : Type 0} (step : S → Bor K → MutBor V → Bool → MutBor V → S → Type 0) where
  -- some slots, and then others
  pub asked_both : (first between last : S) (xs left ys more : List (Slot K V)) → AsksSlots step first xs left between
      → AsksSlots step between ys more last → AsksSlots step first (xs ++ ys) (left ++ more) last
  asked_both first between last [] left ys more (none, same) others =
      subst (λ (s : S). AsksSlots step s ys (left ++ more) last) same
      (subst (λ (l : List (Slot K V)). AsksSlots step between ys (l ++ more) last) (sym none) others)
  asked_both first between last (x ∷ xs) left ys more (mid, here, rest, asked, is, later) others =
      (mid, here, rest ++ more, asked, ap (λ l. l ++ more) is, asked_both mid between last xs rest ys more later others)

  pub asked_len : (first last : S) (xs left : List (Slot K V)) → AsksSlots step first xs left last → length left ≡ length xs
  asked_len first last [] left (none, same) = ap length none
  asked_len first last (x ∷ xs) left (mid, here, rest, asked, is, later) = ap length is ∙ ap suc (asked_len mid last xs rest later)

  -- the function isn't called for a slot that isn't live
  not_asked : (state : S) (slot : Slot K V) → is_live slot ≡ false → AsksSlot step state slot slot state
  not_asked state free dead = (refl, refl)
  not_asked state (live pair byte) dead = cc
  not_asked state (marked pair byte) dead = (refl, refl)

  -- a live slot whose pair is kept, or dropped
  pub kept : (first last : S) (slot : Slot K V) (own : Bor K) (before after : MutBor V) → live_pair slot ≡ Some (own.now, before.now)
      → step first own before true after last → AsksSlot step first slot (slot_with_value slot after.now) last
  kept first last free own before after read call = cc
  kept first last (live pair byte) own before after read call =
      let same : (own.now, before.now) ≡ pair = (let is : Some pair ≡ Some (own.now, before.now) = read in cc) in
      (own, before, after, true, same, call, ap (λ (p : K × V). live (p.0, after.now) byte) (sym same))
  kept first last (marked pair byte) own before after read call = cc

  pub dropped : (first last : S) (slot : Slot K V) (own : Bor K) (before after : MutBor V) → live_pair slot ≡ Some (own.now, before.now)
      → step first own before false after last → AsksSlot step first slot free last
  dropped first last free own before after read call = cc
  dropped first last (live pair byte) own before after read call =
      let same : (own.now, before.now) ≡ pair = (let is : Some pair ≡ Some (own.now, before.now) = read in cc) in
      (own, before, after, false, same, call, refl)
  dropped first last (marked pair byte) own before after read call = cc

  -- the function was called for the slots up to a position
  pub record IsAskedTo (first : S) (old : List (Slot K V)) (state : S) (now : List (Slot K V)) (from : ℕ) : Type 0 where
    pub front : List (Slot K V)
    pub inside : from ≤ length old
    pub asked : AsksSlots step first (take from old) front state
    pub now_is : now ≡ front ++ drop from old

  -- one more
  one_more : (first state next : S) (old now : List (Slot K V)) (from : ℕ) (slot : Slot K V) → IsAskedTo first old state now from
      → from < length old → AsksSlot step state (slot_at old from) slot next → IsAskedTo first old next (set now from slot) (from + 1)
  one_more first state next old now from slot so_far below asked =
      let front_len : length so_far.front ≡ from =
      asked_len first state (take from old) so_far.front so_far.asked ∙ length-take-le from old so_far.inside in
      let left : from - from ≡ 0 = omega arith in
      let split : now ≡ so_far.front ++ (slot_at old from ∷ drop (from + 1) old) =
      so_far.now_is ∙ ap (λ l. so_far.front ++ l) (drop_more old from free below) in
      let put : set now from slot ≡ so_far.front ++ (slot ∷ drop (from + 1) old) =
      ap (λ l. set l from slot) split
      ∙ set-append_right so_far.front (slot_at old from ∷ drop (from + 1) old) from from slot front_len (omega arith)
      ∙ ap (λ k. so_far.front ++ set (slot_at old from ∷ drop (from + 1) old) k slot) left in
      record {
        front = so_far.front ++ slot ∷ [];
        inside = omega (arith, below);
        asked = rw (take_more old from free below)
            (asked_both first state next (take from old) so_far.front (slot_at old from ∷ []) (slot ∷ []) so_far.asked
            (next, slot, [], asked, refl, (refl, refl)));
        now_is = put ∙ sym (append_assoc so_far.front (slot ∷ []) (drop (from + 1) old));
      }

  -- the slot there is unchanged
  pub still_there : (first state : S) (old now : List (Slot K V)) (from : ℕ) → IsAskedTo first old state now from → from < length old
      → slot_at now from ≡ slot_at old from
  still_there first state old now from so_far below =
      let front_len : length so_far.front ≡ from =
      asked_len first state (take from old) so_far.front so_far.asked ∙ length-take-le from old so_far.inside in
      let left : from - from ≡ 0 = omega arith in
      ap (λ l. slot_at l from) (so_far.now_is ∙ ap (λ l. so_far.front ++ l) (drop_more old from free below))
      ∙ get_or-append_right so_far.front (slot_at old from ∷ drop (from + 1) old) from from free front_len (omega arith)
      ∙ ap (λ k. slot_at (slot_at old from ∷ drop (from + 1) old) k) left

  -- and some that aren't live are passed
  passed : (first state : S) (old now : List (Slot K V)) (from count : ℕ) → IsAskedTo first old state now from → from + count ≤ length old
      → ((i : ℕ) → from ≤ i → i < from + count → is_live (slot_at old i) ≡ false) → IsAskedTo first old state now (from + count)
  passed first state old now from zero so_far below dead =
      let same : from + 0 ≡ from = omega arith in rw same so_far
  passed first state old now from (suc count) so_far below dead =
      let at : ℕ = from + count in
      let rest = passed first state old now from count so_far (omega (arith, below))
      (λ i after before. dead i after (omega (arith, before))) in
      let here = not_asked state (slot_at old at) (dead at (omega arith) (omega arith)) in
      let there = still_there first state old now at rest (omega (arith, below)) in
      let stays : set now at (slot_at old at) ≡ now = rw (← there) (set-get_or now at free) in
      let next : at + 1 ≡ from + suc count = omega arith in
      let more = one_more first state state old now at (slot_at old at) rest (omega (arith, below)) here in
      subst (IsAskedTo first old state now) next (subst (λ l. IsAskedTo first old state l (at + 1)) stays more)

  -- the function has yet to be called for the slots whose bits are left
  pub record IsAsking (first : S) (old : List (Slot K V)) (state : S) (now : List (Slot K V)) (left : ℕ) : Type 0 where
    pub from : ℕ
    pub names : NamesFrom old left from
    pub so_far : IsAskedTo first old state now from

  pub asking_first : (first : S) (old : List (Slot K V)) (left : ℕ) → IsMaskOf is_live old left → IsAsking first old first old left
  asking_first first old left mask = record {
    from = 0;
    names = names_all old left mask;
    so_far = record { front = []; inside = omega arith; asked = (refl, refl); now_is = refl };
  }

  -- the next one
  pub asking_at : (first state : S) (old now : List (Slot K V)) (left pos : ℕ) → IsAsking first old state now left → IsLowest left pos
      → IsAskedTo first old state now pos × ((pos < length old) × (is_live (slot_at now pos) ≡ true))
  asking_at first state old now left pos asking low =
      let past = lowest_ahead old left asking.from pos asking.names low in
      let alive = named_live old left asking.from pos asking.names low in
      let below = within is_live old pos free refl alive in
      let there : asking.from + (pos - asking.from) ≡ pos = omega arith in
      let upto = subst (IsAskedTo first old state now) there
      (passed first state old now asking.from (pos - asking.from) asking.so_far (omega (arith, below))
      (λ i after before. bit_is_not (is_live (slot_at old i)) (sym (asking.names.ahead i after) ∙ low.lower i (omega (arith, before))))) in
      (upto, (below, rw (still_there first state old now pos upto below) alive))

  pub asking_next : (first state next : S) (old now : List (Slot K V)) (left pos after : ℕ) (slot : Slot K V)
      → IsAsking first old state now left → IsLowest left pos → SetsBit left pos 0 after → AsksSlot step state (slot_at now pos) slot next
      → IsAsking first old next (set now pos slot) after
  asking_next first state next old now left pos after slot asking low clears asked =
      let (upto, (below, alive)) = asking_at first state old now left pos asking low in
      record {
        from = pos + 1;
        names = names_next old left asking.from pos after asking.names low clears;
        so_far = one_more first state next old now pos slot upto below
            (subst (λ s. AsksSlot step state s slot next) (still_there first state old now pos upto below) asked);
      }

  -- none is left
  pub asking_done : (first state : S) (old now : List (Slot K V)) → IsAsking first old state now 0 → AsksSlots step first old now state
  asking_done first state old now asking =
      let long : ℕ = length old - asking.from in
      let all : asking.from + long ≡ length old = omega (arith, asking.so_far.inside) in
      let upto = subst (IsAskedTo first old state now) all
      (passed first state old now asking.from long asking.so_far (omega (arith, all))
      (λ i after before. bit_is_not (is_live (slot_at old i)) (sym (asking.names.ahead i after) ∙ bit_at-zero i))) in
      let whole : take (length old) old ≡ old = take_all (length old) old (omega arith) in
      let ends : now ≡ upto.front =
      upto.now_is ∙ ap (λ l. upto.front ++ l) (drop_all (length old) old (omega arith)) ∙ append-nil upto.front in
      rw ends (rw whole at upto.asked)

module _ {S K V : Type 0} (step : S → Bor K → MutBor V → Bool → MutBor V → S → Type 0) where
  mark_stays : (first last : S) (slot here : Slot K V) → AsksSlot step first slot here last → is_marked here ≡ is_marked slot
  mark_stays first last free here (is, same) = rw is refl
  mark_stays first last (live pair byte) here (own, before, after, answer, read, call, is) = rw is (by_answer answer)
    where
      by_answer : (b : Bool) → is_marked (if b then live (own.now, after.now) byte else free) ≡ false
      by_answer true = refl
      by_answer false = refl
  mark_stays first last (marked pair byte) here (is, same) = rw is refl

  -- the number of tombstones is the same
  asked_marks : (first last : S) (slots left : List (Slot K V)) → AsksSlots step first slots left last
      → marked_len left ≡ marked_len slots
  asked_marks first last [] left (none, same) = rw none refl
  asked_marks first last (slot ∷ slots) left (mid, here, rest, asked, is, later) =
      let marks : Slot K V → ℕ = λ x. tally (is_marked x) in
      let mark = ap tally (mark_stays first mid slot here asked) in
      rw is (omega (arith, asked_marks mid last slots rest later, sum_by-cons marks here rest, sum_by-cons marks slot slots, mark))

  -- what holds of the bucket
  pub bucket_asked : (kind : ℕ) (s : BucketView K V) (len : ℕ) (own : List (Slot K V)) (first last : S) → kind ≢ CACHE
      → IsBucket kind s len → AsksSlots step first s.own own last → IsBucket kind (record s { own = own }) len
  bucket_asked kind s len own first last other h asked =
      let marks = asked_marks first last s.own own asked in
      let long = asked_len step first last s.own own asked in
      record {
        counted = h.counted;
        own_long = long ∙ h.own_long;
        listed_live = rw (h.unlisted other) (λ k d below. absurd (omega arith));
        unlisted = h.unlisted;
        unmarked = λ index.
            let sum = sum_by-append (λ (x : Slot K V). tally (is_marked x)) s.own (flattened s.chain) in
            let sum_after = sum_by-append (λ (x : Slot K V). tally (is_marked x)) own (flattened s.chain) in
            omega (arith, h.unmarked index, marks, sum, sum_after);
      }
