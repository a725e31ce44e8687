-- When a writer tries a growth, by what the code reads; and what the growth leaves.
use Rattle.bucket_table.proofs.Words.{ArePlaced, ArraysView, Bool, BucketView, CACHE, Current, Err, IsHome, IsLocked, IsTrue, Keeps, List}
use Rattle.bucket_table.proofs.Words.{Ok, Old, Result, Side, ℕ, [], ap, arith, bucket_at, buckets_on, cases_lt, counted, entries_among}
use Rattle.bucket_table.proofs.Words.{entries_in, false, false≢true, inl, inr, length, length-append, length-entries_in, nil_from_length}
use Rattle.bucket_table.proofs.Words.{pairs_in, suc, sym, true, zero, ◌*◌, ◌<◌, ◌↔◌, ◌∙◌, ◌∷◌, ◌≡◌, ◌≤◌}
use Rattle.bucket_table.specs.Map.Preparing.{IsReady}
use Rattle.bucket_table.specs.Resize.Growing.{Grows, WriterAsksGrowth}
use Rattle.bucket_table.specs.Resize.Resizing.{MakesArray, TriesResize}
use Rattle.bucket_slots.specs.Sampling.{StartsSampling}
use Rattle.bucket_table.specs.Resize.Asking.{AsksGrowth}
use Rattle.bucket_table.proofs.Views.Keeping.{keeps_same}
use Rattle.bucket_table.proofs.Views.SideChanges.{locked_current}
use Rattle.bucket_table.proofs.Resize.Following.{made_keeps, made_placed, new_vacant}

module _ {K V : Type 0} (kind hash : ℕ) (arrays : ArraysView K V) (index : ℕ) (array : List (BucketView K V))
    (stands : array ≡ arrays.current) where
  pub not_full : (b : BucketView K V) (len : ℕ) → b ≡ bucket_at array index → len ≡ length (pairs_in b) → len < 31
      → WriterAsksGrowth kind hash arrays index → ⊥
  not_full b len here counted few asks =
      omega (arith, rw (← stands, ← here) at asks.full, few, counted)

  pub not_sampled : (tested : Bool) → (IsTrue tested ↔ StartsSampling (length array) hash) → tested ≡ false
      → WriterAsksGrowth kind hash arrays index → ⊥
  not_sampled tested means refused asks = false≢true (sym refused ∙ means.1 (rw (← stands) at asks.sampled))

  pub asks_by : (b : BucketView K V) (len : ℕ) (sampled asked : Bool) → b ≡ bucket_at array index → len ≡ length (pairs_in b) → 31 ≤ len
      → (IsTrue sampled ↔ StartsSampling (length array) hash) → sampled ≡ true → (IsTrue asked ↔ AsksGrowth arrays index)
      → (kind ≡ CACHE → 32 * length array ≡ arrays.maximum → ⊥) → IsTrue asked ↔ WriterAsksGrowth kind hash arrays index
  asks_by b len sampled asked here counted many means yes_sampled near may = (
    λ h. record {
      may_grow = rw (← stands) may;
      full = rw (← stands, ← here) (omega (arith, many, counted));
      sampled = rw (← stands) (means.0 yes_sampled);
      near = near.0 h;
    },
    λ asks. near.1 asks.near,
  )

-- the side of the array that was the current one, after a resize is tried
abbrev pub side_after : {E : Type 0} → Result Bool E → Side
side_after (Ok true) = Old
side_after (Ok false) = Current
side_after (Err refused) = Current

module _ {K V : Type 0} where
  no_live_here : (old : List (BucketView K V)) (index : ℕ) → entries_among old ≡ [] → index < length old
      → 0 < length (pairs_in (bucket_at old index)) → ⊥
  no_live_here [] index empty within some = absurd (omega (arith, within))
  no_live_here (b ∷ bs) zero empty within some =
      let none = ap (λ (es : List ((K × V) × ℕ)). length es) empty in
      absurd (omega (arith, length-append (entries_in b) (entries_among bs), length-entries_in b, none, some))
  no_live_here (b ∷ bs) (suc index) empty within some =
      let both = length-append (entries_in b) (entries_among bs) in
      let none = ap (λ (es : List ((K × V) × ℕ)). length es) empty in
      no_live_here bs index (nil_from_length (entries_among bs) (omega (arith, both, none))) (omega (arith, within)) some

  -- if a slot is live, a resize doesn't drop the array, so it is a growth
  pub grown : {E : Type 0} (old new : ArraysView K V) (answer : Result Bool E) (index : ℕ) → TriesResize old answer new
      → index < length old.current → 0 < length (pairs_in (bucket_at old.current index)) → Grows (side_after answer) old new
  grown old new (Ok false) index tries within some = tries.1
  grown old new (Ok true) index tries within some = elim tries [
    | inl given_up ↦ absurd (no_live_here old.current index given_up.1.empty within some)
    | inr pushed ↦ (pushed.0, pushed.2)
  ]
  grown old new (Err refused) index (capacity, is, same) within some = same

  -- the bucket that was found before a growth may be locked after it
  pub locked_grown : (side : Side) (index : ℕ) (old new : ArraysView K V) (hash : K → ℕ) → Grows side old new → ArePlaced hash old
      → IsLocked old Current index → IsLocked new side index
  locked_grown Old index old new hash (capacity, is) law locked = rw is.new_is (record {
    within = locked.within;
    killed = λ e. absurd cc;
    alive = λ e. law.homes.alive index locked.within;
    vacant = λ e j inside. new_vacant capacity is.fresh j is.fresh_is inside;
  })
  locked_grown Current index old new hash same law locked = rw same locked

  pub home_grown : (side : Side) (hash index : ℕ) (old new : ArraysView K V) → Grows side old new → IsHome (length old.current) hash index
      → IsHome (length (buckets_on new side)) hash index
  home_grown Old hash index old new (capacity, is) home = rw is.new_is home
  home_grown Current hash index old new same home = rw same home

  pub locked_ready : (hash index : ℕ) (arrays : ArraysView K V) → IsReady arrays hash → IsHome (length arrays.current) hash index
      → IsLocked arrays Current index
  locked_ready hash index arrays ready home = locked_current arrays index home.within (ready.killed index home)

  -- a first array, if there is none
  pub kept_made : (old new : ArraysView K V) → MakesArray old new → Keeps old new
  kept_made old new h = elim (cases_lt 0 (length old.current)) [
    | inl some ↦ rw (h.0 some) (keeps_same old)
    | inr none ↦ made_keeps old new (h.1 (omega (arith, none)))
  ]

  pub placed_made : (hash : K → ℕ) (old new : ArraysView K V) → MakesArray old new → ArePlaced hash old → ArePlaced hash new
  placed_made hash old new h law = elim (cases_lt 0 (length old.current)) [
    | inl some ↦ rw (h.0 some) law
    | inr none ↦ made_placed hash old new (h.1 (omega (arith, none))) law
  ]
