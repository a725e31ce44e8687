-- A bucket with whose own slots a closure was called at once: what is removed, and what is ahead.
use Rattle.bucket_table.proofs.Words.{Bool, BucketView, CACHE, IsBucketOf, List, Place, Slot, [], ap, append_assoc, arith}
use Rattle.bucket_table.proofs.Words.{bucket_with_value, false, free, if◌then◌else◌, inl, inr, is_live, length, live, live_pair, marked}
use Rattle.bucket_table.proofs.Words.{pairs_ahead, pairs_in, refl, slot_in, slots_marked, slots_without, subst, sym, true, ℕ, ◌++◌, ◌==◌}
use Rattle.bucket_table.proofs.Words.{◌∙◌, ◌∷◌, ◌≡◌, ◌≢◌}
use Rattle.std.proofs.Math.Seq.{get_or-append_seam, set-append_seam}
use Rattle.std.proofs.lemmas.Bool.Decides.{nat_tests}
use Rattle.std.proofs.lemmas.List.{drop_all}
use Rattle.std.proofs.lemmas.List.Elements.{filter_map-append}
use Rattle.std.specs.Borrow.{Bor, MutBor}
use Rattle.bucket_slots.specs.BucketView.{flattened, with_slot}
use Rattle.bucket_slots.specs.Recency.{order_without}
use Rattle.bucket_slots.specs.declared.bucket.TheConstants.{INDEX}
use Rattle.bucket_slots.specs.Slots.{live_pairs, slot_with_value}
use Rattle.bucket_slots.specs.Walking.{AsksOwn, AsksSlot, AsksSlots}
use Rattle.bucket_slots.proofs.AskingSlots.{asked_len}
use Rattle.bucket_table.specs.Walking.Retains.{AsksFront, IsLeftOf, RetainsEach}
use Rattle.bucket_table.proofs.Walking.Leaving.{left_both, left_same, left_taken, left_written}
use Rattle.bucket_table.proofs.Walking.RetainingEach.{IsAsking, begins}

module _ {K V : Type 0} where
  -- what is ahead of the last own slot is the chain
  chain_ahead : (own : List (Slot K V)) (s : BucketView K V) (at : Place) → at ≡ record { block = 0; pos = 31 } → length own ≡ 32
      → pairs_ahead (record s { own = own }) at ≡ live_pairs (flattened s.chain)
  chain_ahead own s at is long =
      ap (λ p. pairs_ahead (record s { own = own }) p) is
      ∙ ap (λ l. live_pairs (l ++ flattened s.chain)) (drop_all 32 own (omega (arith, long)))

  pairs_split : (own : List (Slot K V)) (s : BucketView K V)
      → pairs_in (record s { own = own }) ≡ live_pairs own ++ live_pairs (flattened s.chain)
  pairs_split own s = filter_map-append live_pair own (flattened s.chain)

module _ {S K V : Type 0} (step : S → Bor K → MutBor V → Bool → MutBor V → S → Type 0) where
  pairs_by : (answer : Bool) (p : K × V) (byte : ℕ) (rest : List (Slot K V)) → live_pairs ((if answer then live p byte else free) ∷ rest)
      ≡ (if answer then p ∷ live_pairs rest else live_pairs rest)
  pairs_by true p byte rest = refl
  pairs_by false p byte rest = refl

  -- slot by slot is the same as pair by pair
  pub each_slot : (first last : S) (slots left : List (Slot K V)) → AsksSlots step first slots left last
      → RetainsEach step first (live_pairs slots) (live_pairs left) last
  each_slot first last [] left (none, same) = (ap live_pairs none, same)
  each_slot first last (free ∷ slots) left (mid, here, rest, (dead, same), is, later) =
      rw (is, dead) (subst (λ (s : S). RetainsEach step s (live_pairs slots) (live_pairs rest) last) same
      (each_slot mid last slots rest later))
  each_slot first last (marked pair byte ∷ slots) left (mid, here, rest, (dead, same), is, later) =
      rw (is, dead) (subst (λ (s : S). RetainsEach step s (live_pairs slots) (live_pairs rest) last) same
      (each_slot mid last slots rest later))
  each_slot first last (live pair byte ∷ slots) left (mid, here, rest, (own, before, after, answer, read, call, alive), is, later) = (
    own,
    before,
    after,
    answer,
    mid,
    live_pairs rest,
    read,
    call,
    ap live_pairs (is ∙ ap (λ h. h ∷ rest) alive) ∙ pairs_by answer (own.now, after.now) byte rest,
    each_slot mid last slots rest later,
  )

  -- a walk whose closure was called with the own slots continues in the chain
  pub asking_front : (first last : S) (old new : BucketView K V) (at : Place) → length old.own ≡ 32
      → AsksFront step first old at new last → IsAsking step first old last new at
  unfolding AsksFront
  asking_front first last old new at long (inl (null, same, still)) = rw (same, still) (begins step first old at null)
  asking_front first last old new at long (inr (stands, asks)) =
      let own = asks.own in
      let ahead = chain_ahead own old at stands (asked_len step first last old.own own asks.asked ∙ long) in
      rw asks.new_is (record {
        done = live_pairs old.own;
        left = live_pairs own;
        were = pairs_split old.own old ∙ ap (λ l. live_pairs old.own ++ l) (sym ahead);
        are = pairs_split own old ∙ ap (λ l. live_pairs own ++ l) (sym ahead);
        asked = each_slot first last old.own own asks.asked;
      })

module _ {S K V : Type 0} (step : S → Bor K → MutBor V → Bool → MutBor V → S → Type 0) (kind epoch : ℕ) where
  -- a slot that the closure was called for is changed at its place, or nothing is
  one_left : (s : BucketView K V) (front rest : List (Slot K V)) (slot here : Slot K V) (first last : S) → s.listed ≡ []
      → (kind == INDEX) ≡ false → AsksSlot step first slot here last
      → IsLeftOf kind epoch (record s { own = front ++ slot ∷ rest }) (record s { own = front ++ here ∷ rest })
  one_left s front rest free here first last none other (same, still) =
      rw same (left_same kind epoch (record s { own = front ++ free ∷ rest }))
  one_left s front rest (marked pair byte) here first last none other (same, still) =
      rw same (left_same kind epoch (record s { own = front ++ marked pair byte ∷ rest }))
  one_left s front rest (live pair byte) here first last none other (own, before, after, true, read, call, is) =
      let old : BucketView K V = record s { own = front ++ live pair byte ∷ rest } in
      let place : Place = record { block = 0; pos = length front } in
      let there : slot_in old place ≡ live pair byte = get_or-append_seam front (live pair byte) rest free in
      let put : bucket_with_value old place after.now ≡ record s { own = front ++ live (own.now, after.now) byte ∷ rest } =
      ap (λ (slot : Slot K V). with_slot old place (slot_with_value slot after.now)) there
      ∙ ap (λ (l : List (Slot K V)). record s { own = l }) (set-append_seam front (live pair byte) rest (live (pair.0, after.now) byte))
      ∙ ap (λ (key : K). record s { own = front ++ live (key, after.now) byte ∷ rest }) (sym (ap (λ (p : K × V). p.0) read)) in
      rw is (subst (IsLeftOf kind epoch old) put (left_written kind epoch old place pair after.now (ap live_pair there)))
  one_left s front rest (live pair byte) here first last none other (own, before, after, false, read, call, is) =
      let old : BucketView K V = record s { own = front ++ live pair byte ∷ rest } in
      let new : BucketView K V = record s { own = front ++ free ∷ rest } in
      let place : Place = record { block = 0; pos = length front } in
      let there : slot_in old place ≡ live pair byte = get_or-append_seam front (live pair byte) rest free in
      let unlisted : order_without s.listed (length front) ≡ s.listed =
      subst (λ (l : List ℕ). order_without l (length front) ≡ l) (sym none) refl in
      let gone : slots_without old place ≡ new =
      ap (λ (l : List (Slot K V)). record s { own = l; listed = order_without s.listed (length front) })
      (set-append_seam front (live pair byte) rest free)
      ∙ ap (λ (l : List ℕ). record s { own = front ++ free ∷ rest; listed = l }) unlisted in
      rw is (left_taken kind epoch old new place (ap is_live there)
      (subst (λ (b : Bool). new ≡ (if b then slots_marked old place epoch else slots_without old place)) (sym other) (sym gone)))

  -- slot by slot
  own_left : (s : BucketView K V) (front slots left : List (Slot K V)) (first last : S) → s.listed ≡ [] → (kind == INDEX) ≡ false
      → AsksSlots step first slots left last → IsLeftOf kind epoch (record s { own = front ++ slots }) (record s { own = front ++ left })
  own_left s front [] left first last none other (is, same) = rw is (left_same kind epoch (record s { own = front ++ [] }))
  own_left s front (slot ∷ slots) left first last none other (mid, here, rest, asked, is, later) =
      let more = own_left s (front ++ here ∷ []) slots rest mid last none other later in
      let behind = subst (λ (l : List (Slot K V)). IsLeftOf kind epoch (record s { own = l }) (record s { own = front ++ here ∷ rest }))
      (append_assoc front (here ∷ []) slots)
      (subst (λ (l : List (Slot K V)). IsLeftOf kind epoch (record s { own = (front ++ here ∷ []) ++ slots }) (record s { own = l }))
      (append_assoc front (here ∷ []) rest) more) in
      rw is (left_both kind epoch (record s { own = front ++ slot ∷ slots }) (record s { own = front ++ here ∷ slots })
      (record s { own = front ++ here ∷ rest }) (one_left s front slots slot here first mid none other asked) behind)

  -- what is left of a map's bucket whose own slots the closure was called with
  pub left_own : (first last : S) (old new : BucketView K V) → kind ≢ INDEX → kind ≢ CACHE → IsBucketOf kind old
      → AsksOwn step first old new last → IsLeftOf kind epoch old new
  left_own first last old new no_index no_cache laws asks =
      let other : (kind == INDEX) ≡ false = grind (arith, nat_tests) in
      rw asks.new_is (own_left old [] old.own asks.own first last (laws.unlisted no_cache) other asks.asked)
