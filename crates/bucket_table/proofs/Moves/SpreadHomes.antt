-- Pairs that an array has spread from a bucket's own slots are at home.
use Rattle.bucket_table.proofs.Words.{BucketView, IsHome, List, Place, ℕ, [], ap, arith, bucket_at, cases_Bool, inl, inr, length}
use Rattle.bucket_table.proofs.Words.{null_place, refl, subst, suc, sym, zero, ◌%◌, ◌+◌, ◌==◌, ◌≡◌}
use Rattle.bucket_slots.specs.Placing.{place_for_next}
use Rattle.bucket_table.specs.Layout.Moving.{CanMoveInto, MovesHome}
use Rattle.std.specs.Borrow.{Bor}
use Rattle.std.specs.Prelude.{◌&&◌}
use Rattle.bucket_slots.specs.Spreading.{Spreads, SpreadsOne, SpreadsSome}
use Rattle.bucket_table.specs.Layout.Landings.{landings_with}
use Rattle.bucket_table.proofs.Moves.MovingPairs.{IsMoving, moving_again, moving_first}

-- a table of no slots records nothing
said_nothing : (from : Place) (home : ℕ) (to : Place) → [] ≡ landings_with [] from home to
said_nothing from home to = elim (cases_Bool ((from.block == 0) && (to.block == 0))) [
  | inl both ↦ rw both refl
  | inr other ↦ rw other refl
]

module _ {K V : Type 0} (hash : K → ℕ) (kind start end : ℕ) (answers : Bor K → ℕ → Type 0)
    (means : (key : Bor K) (number : ℕ) → answers key number → number ≡ hash key.now) (s0 : BucketView K V) (c0 : List (BucketView K V))
    (ready : CanMoveInto hash start end s0 c0) where
  moves_home : (s t : BucketView K V) (c d : List (BucketView K V)) → length c ≡ length c0
      → (one : SpreadsOne kind answers (IsHome (length c0)) 0 s c t d) → MovesHome kind hash one.at s c [] t d []
  moves_home s t c d long one =
      let said = means one.key one.number one.answered in
      let here : 0 + one.index ≡ one.index = omega arith in
      let home : IsHome (length c) (hash one.key.now) one.index =
      subst (λ n. IsHome n (hash one.key.now) one.index) (sym long)
      (subst (λ h. IsHome (length c0) h one.index) said (subst (λ i. IsHome (length c0) one.number i) here one.named)) in
      record {
        pair = (one.key.now, one.value);
        here = one.here;
        home = one.index;
        number = one.number;
        way = record { home = home; own_byte = ap (λ n. n % 256) said };
        bucket_laws = one.laws;
        home_laws = one.home_laws;
        vacated = one.vacated;
        placed = one.placed;
        landed = said_nothing one.at one.index (place_for_next (bucket_at c one.index));
      }

  -- they move as if one by one, and the others can still move
  moved_each : (count : ℕ) (s : BucketView K V) (c : List (BucketView K V))
      → Spreads kind answers (IsHome (length c0)) 0 count s0 c0 s c → IsMoving hash start end s0 c0 s c [] null_place
  moved_each zero s c (same, kept) = rw (same, kept) (moving_first hash ready (λ slot. refl))
  moved_each (suc count) s c (t, d, rest, one) =
      let moving = moved_each count t d rest in
      (moving_again hash moving one.next (moves_home t s d c moving.moves.len one)).0

  pub spread_moving : (s : BucketView K V) (c : List (BucketView K V)) → SpreadsSome kind answers (IsHome (length c0)) 0 s0 c0 s c
      → IsMoving hash start end s0 c0 s c [] null_place
  spread_moving s c (count, spread) = moved_each count s c spread
