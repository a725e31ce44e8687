-- Pairs that spread one by one from a row that is the own slots of a bucket.
use Rattle.bucket_slots.proofs.Words.{Bor, BucketView, IsBucket, IsBucketOf, IsLowest, IsMaskOf, IsRecencyOrder, IsRow, List, None, Option}
use Rattle.bucket_slots.proofs.Words.{SetsBit, Slot, Some, arith, bit_at, bit_or, cond, flattened, free, get_or, is_live, is_marked}
use Rattle.bucket_slots.proofs.Words.{is_some, length, live, live_pairs, marked, order_without, pair_of, refl, row_slots, set}
use Rattle.bucket_slots.proofs.Words.{slot_at, slots_vacated_at, slots_with, suc, true, ℕ, ◌%◌, ◌+◌, ◌<◌, ◌∙◌, ◌≡◌, ◌≤◌}
use Rattle.std.proofs.lemmas.Nat.Bits.{bit_at_or}
use Rattle.bucket_slots.specs.ArrayView.{bucket_at}
use Rattle.bucket_slots.specs.Layout.OwnSpreading.{SpreadsOwn}
use Rattle.bucket_slots.proofs.ChangedSlots.{IsBucket-vacated}
use Rattle.bucket_slots.proofs.FirstPlaces.{live_occupied}
use Rattle.bucket_slots.proofs.Masks.{IsMaskOf-from, IsMaskOf-set, bit-mask, bit_already, lowest_passes, position-lowest, within}
use Rattle.bucket_slots.proofs.NextPlaces.{moves_first}
use Rattle.bucket_slots.proofs.RowFields.{row_freed}
use Rattle.bucket_slots.proofs.RowSlots.{HoldsLive, live_held, slot_held, within_row}

-- the union of two bitmaps when bit k is cleared in one and isn't set in the other
SetsBit-or : (marks left k after : ℕ) → bit_at marks k ≡ 0 → SetsBit left k 0 after → SetsBit (bit_or marks left) k 0 (bit_or marks after)
SetsBit-or marks left k after clear s = record {
  same = omega (arith, bit_at_or marks after k, s.same, clear);
  others = λ i other. omega (arith, bit_at_or marks after i, bit_at_or marks left i, s.others i other);
}

module _ {K V : Type 0} where
  -- a bucket of which the laws of buckets hold, and whose chain's pairs are counted
  pub IsBucket-counted : (kind : ℕ) (s : BucketView K V) (len : ℕ) → IsBucketOf kind s → len ≡ length (live_pairs (flattened s.chain))
      → IsBucket kind s len
  IsBucket-counted kind s len kept counted = record {
    counted = counted;
    own_long = kept.own_long;
    listed_live = kept.listed_live;
    unlisted = kept.unlisted;
    unmarked = kept.unmarked;
  }

  -- the laws still hold after a live own slot is vacated
  IsBucketOf-vacated : (kind : ℕ) (s : BucketView K V) (pos : ℕ) → IsBucketOf kind s → is_live (slot_at s.own pos) ≡ true
      → IsRecencyOrder (order_without s.listed pos) → IsBucketOf kind (slots_vacated_at s 0 pos)
  IsBucketOf-vacated kind s pos kept alive once =
      let after = IsBucket-vacated kind s _ 0 pos (IsBucket-counted kind s _ kept refl) alive in
      record {
        own_long = after.own_long;
        blocks_long = kept.blocks_long;
        few = kept.few;
        listed_once = once;
        listed_live = after.listed_live;
        unlisted = after.unlisted;
        unmarked = after.unmarked;
      }

  in_either : (slot : Slot K V) (mark alive both : ℕ) → mark ≡ cond (is_marked slot) 1 0 → alive ≡ cond (is_live slot) 1 0
      → (both ≤ mark + alive) × (mark ≤ both) × (alive ≤ both) → both ≡ cond (is_some (pair_of slot)) 1 0
  in_either free mark alive both is lives sum = omega arith
  in_either (live pair byte) mark alive both is lives sum = omega arith
  in_either (marked pair byte) mark alive both is lives sum = omega arith

  -- the occupied slots are the tombstones and the live ones
  IsRow-parted : (len : ℕ) (places : List (Option (K × V))) (bytes : List ℕ) (occupied marks left : ℕ) (slots : List (Slot K V))
      → IsRow len places bytes occupied marks → row_slots places bytes marks ≡ slots → IsMaskOf is_live slots left
      → IsRow len places bytes (bit_or marks left) marks
  IsRow-parted len places bytes occupied marks left slots row view mask = record {
    few = row.few;
    some = row.some;
    long = row.long;
    bytes_long = row.bytes_long;
    filled = IsMaskOf-from is_some places (bit_or marks left) None refl (λ i.
        let held = slot_held len places bytes occupied marks slots row view i in
        let here = bit-mask is_live slots left mask i free refl in
        rw held.place (in_either (slot_at slots i) _ _ _ held.marked here (omega (arith, bit_at_or marks left i))));
    marked = row.marked;
  }

  module _ (kind : ℕ) (answers : Bor K → ℕ → Type 0) (names : ℕ → ℕ → Type 0) (start len : ℕ) (own : List (Slot K V)) (listed : List ℕ)
      (buckets : List (BucketView K V)) (bytes : List ℕ) (marks : ℕ) where
    -- a row whose pairs spread: the remaining bits are its live slots, and with the tombstones they are the occupied ones
    pub record IsSpreading (places : List (Option (K × V))) (left : ℕ) (order : List ℕ) (between : List (BucketView K V)) : Type 0 where
      pub row : IsRow len places bytes (bit_or marks left) marks
      pub mask : IsMaskOf is_live (row_slots places bytes marks) left
      pub spread : SpreadsOwn kind answers names start own listed buckets (row_slots places bytes marks) order between

    pub spreading_first : (places : List (Option (K × V))) (occupied left : ℕ) → IsRow len places bytes occupied marks
        → row_slots places bytes marks ≡ own → IsMaskOf is_live own left → IsSpreading places left listed buckets
    spreading_first places occupied left row view mask = record {
      row = IsRow-parted len places bytes occupied marks left own row view mask;
      mask = rw view mask;
      spread = rw view (λ chain killed kept. ((0, (refl, refl)), kept));
    }

    module _ (places : List (Option (K × V))) (left : ℕ) (order : List ℕ) (between : List (BucketView K V))
        (amid : IsSpreading places left order between) (pos : ℕ) (low : IsLowest left pos) where
      abbrev slots : List (Slot K V)
      slots = row_slots places bytes marks

      here_live : is_live (slot_at slots pos) ≡ true
      here_live = lowest_passes is_live slots left pos free amid.mask low refl

      here_held : HoldsLive places marks pos (slot_at slots pos)
      here_held = live_held len places bytes (bit_or marks left) marks slots amid.row refl pos here_live

      -- the slot of the lowest bit has a pair
      pub spreading_filled : is_some (get_or places pos None) ≡ true
      spreading_filled = here_held.filled

      -- it moves
      pub spreading_next : (after : ℕ) → SetsBit left pos 0 after → IsRecencyOrder (order_without order pos) → (key : Bor K) (value : V)
          → get_or places pos None ≡ Some (key.now, value) → (number : ℕ) → answers key number → (index : ℕ) → index < length between
          → names number (start + index) → IsBucketOf kind (bucket_at between index)
          → IsSpreading (set places pos None) after (order_without order pos)
          (set between index (slots_with (bucket_at between index) (key.now, value) (number % 256)))
      spreading_next after clears once key value here number answered index within_buckets named home_laws =
          let inside = within is_live slots pos free refl here_live in
          let below = within_row len places bytes (bit_or marks left) marks slots amid.row refl pos (live_occupied _ here_live).0 in
          let freed = row_freed len places bytes (bit_or marks left) marks slots amid.row refl pos below _ _
          (SetsBit-or marks left pos after here_held.unmarked clears) (bit_already marks pos 0 here_held.unmarked) in
          record {
            row = freed.0;
            mask = rw freed.1 (IsMaskOf-set is_live slots left amid.mask pos after free inside clears);
            spread = rw freed.1 (λ chain killed kept.
                let (some, laws) = amid.spread chain killed kept in
                let s : BucketView K V = record { own = slots; chain = chain; listed = order; killed = killed } in (
                  (
                    suc some.0,
                    (
                      s,
                      between,
                      some.1,
                      record {
                        at = record { block = 0; pos = pos };
                        next = moves_first s pos laws.own_long (position-lowest is_live slots left amid.mask pos free low);
                        key = key;
                        value = value;
                        here = here_held.pair ∙ here;
                        number = number;
                        answered = answered;
                        index = index;
                        within = within_buckets;
                        named = named;
                        laws = laws;
                        home_laws = home_laws;
                        vacated = refl;
                        placed = refl;
                      },
                    ),
                  ),
                  IsBucketOf-vacated kind s pos laws here_live once,
                ));
          }
