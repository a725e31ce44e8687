-- A function is called with the pair in a live slot of a bucket, which stays with its value or is removed.
use Rattle.bucket_table.proofs.Words.{Bool, BucketView, IsBucketOf, List, None, Option, Place, Slot, Some, [], ap, bucket_with_value, false}
use Rattle.bucket_table.proofs.Words.{false≢true, if◌then◌else◌, inl, inr, is_live, live, live_pair, not, pairs_ahead, pairs_in, refl}
use Rattle.bucket_table.proofs.Words.{same_Some, slot_in, slots_marked, slots_without, sym, true, true≢false, ℕ, ◌++◌, ◌==◌, ◌∙◌, ◌∷◌, ◌≡◌}
use Rattle.bucket_table.proofs.Words.{◌≢◌}
use mathlib.Core.Bool.{beq}
use Rattle.std.specs.Borrow.{Bor, MutBor}
use Rattle.bucket_slots.proofs.ChangedSlots.{live_inside, slot_in-with_slot}
use Rattle.bucket_slots.proofs.SlotFronts.{pairs_in-slots_marked, pairs_in-slots_without}
use Rattle.bucket_slots.proofs.WrittenValues.{valued}
use Rattle.bucket_slots.specs.BucketView.{block_at}
use Rattle.bucket_slots.specs.Slots.{slot_with_value}
use Rattle.bucket_slots.specs.declared.bucket.TheConstants.{INDEX}
use Rattle.bucket_table.specs.Walking.Extracting.{AsksAt}
use Rattle.bucket_table.specs.Walking.Retains.{slots_taken}

live_with : {K V : Type 0} (slot : Slot K V) (value : V) → is_live (slot_with_value slot value) ≡ is_live slot
live_with (live pair byte) value = refl
live_with slot value = refl

-- a live slot with another value is live
pub stays_live : {K V : Type 0} (s : BucketView K V) (at : Place) (value : V) → is_live (slot_in s at) ≡ true
    → is_live (slot_in (bucket_with_value s at value) at) ≡ true
stays_live s at value alive =
    ap is_live (slot_in-with_slot s at (slot_with_value (slot_in s at) value) (live_inside (block_at s at.block) at.pos alive))
    ∙ live_with (slot_in s at) value ∙ alive

same_answer : (answer keeps : Bool) → beq answer keeps ≡ true → answer ≡ keeps
same_answer true true is = refl
same_answer false false is = refl
same_answer answer keeps is = absurd (false≢true is)

other_answer : (answer keeps : Bool) → beq answer keeps ≡ false → answer ≡ not keeps
other_answer true false is = refl
other_answer false true is = refl
other_answer answer keeps is = absurd (true≢false is)

-- a pair that is taken leaves those before it and those ahead
taken_order : {K V : Type 0} (index : Bool) (kind epoch : ℕ) (s : BucketView K V) (at : Place) (p : K × V) → IsBucketOf kind s
    → live_pair (slot_in s at) ≡ Some p → (front : List (K × V)) → pairs_in s ≡ front ++ p ∷ pairs_ahead s at
    → pairs_in (if index then slots_marked s at epoch else slots_without s at) ≡ front ++ pairs_ahead s at
taken_order true kind epoch s at p kept here front was = pairs_in-slots_marked kind s at p kept here epoch front was
taken_order false kind epoch s at p kept here front was = pairs_in-slots_without kind s at p kept here front was

module _ {S K V : Type 0} (step : S → Bor K → MutBor V → Bool → MutBor V → S → Type 0) (kind : ℕ) (keeps answer : Bool) (first last : S)
    (s : BucketView K V) (at : Place) (pair : K × V) (own : Bor K) (before after : MutBor V) (sound : IsBucketOf kind s)
    (here : live_pair (slot_in s at) ≡ Some pair) (read : live_pair (slot_in s at) ≡ Some (own.now, before.now))
    (call : step first own before answer after last)
  where
    abbrev changed : BucketView K V
    changed = bucket_with_value s at after.now

    same : (own.now, before.now) ≡ pair
    same = same_Some (own.now, before.now) pair (sym read ∙ here)

    key : pair.0 ≡ own.now
    key = ap (λ (p : K × V). p.0) (sym same)

    -- the pair stays
    pub stays_at : beq answer keeps ≡ true → AsksAt step kind keeps first pair s at None changed at last
    stays_at is =
        let v = valued kind s at pair after.now sound here in
        record {
          answer = answer;
          later = (own.now, after.now);
          stay = (own.now, after.now) ∷ [];
          asked = (own, before, after, same, call, refl);
          outcome = inl (same_answer answer keeps is, refl, refl);
          pairs = λ front was. v.pairs front was ∙ ap (λ (k : K). front ++ (k, after.now) ∷ pairs_ahead s at) key;
          ahead = v.ahead;
        }

    -- or it is removed
    pub goes_at : (epoch : ℕ) (picked : Option (K × V)) (new : BucketView K V) (to : Place) → beq answer keeps ≡ false
        → IsBucketOf kind changed
        → (kind ≢ INDEX → picked ≡ live_pair (slot_in changed at)) → new ≡ slots_taken kind epoch changed at
        → pairs_ahead new to ≡ pairs_ahead changed at → AsksAt step kind keeps first pair s at picked new to last
    goes_at epoch picked new to apart kept pair_is slots ahead =
        let v = valued kind s at pair after.now sound here in
        let p : K × V = (pair.0, after.now) in
        record {
          answer = answer;
          later = (own.now, after.now);
          stay = [];
          asked = (own, before, after, same, call, refl);
          outcome = inr (other_answer answer keeps apart, refl, λ free. pair_is free ∙ v.here ∙ ap (λ (k : K). Some (k, after.now)) key);
          pairs = λ front was.
              ap pairs_in slots
              ∙ taken_order (kind == INDEX) kind epoch changed at p kept v.here front
              (v.pairs front was ∙ ap (λ l. front ++ p ∷ l) (sym v.ahead))
              ∙ ap (λ l. front ++ l) v.ahead;
          ahead = ahead ∙ v.ahead;
        }
