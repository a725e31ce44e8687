-- Lists of equally long parts, and parts of which some buckets are initialized.
use Rattle.bucket_slots.proofs.Words.{All, All-head, All-tail, AreParts, Bool, BucketView, IsLengthFor, List, [], add-mul, ap, append-nil}
use Rattle.bucket_slots.proofs.Words.{append_assoc, arith, cases_lt, div-add-mod, div_below, drop, empty_bucket, false, flat_map-append, le-mul_of_pos_right}
use Rattle.bucket_slots.proofs.Words.{flattened, get_or, get_or-set_other, get_or-set_same, inl, inr, length, length-append, length-set, length-take-le, mod-lt, mul_comm}
use Rattle.bucket_slots.proofs.Words.{one-mul, part_at, pow_pos, refl, replicate, set, set-get_or, set_split, subst, suc, sym, take, true}
use Rattle.bucket_slots.proofs.Words.{unmade_bucket, with_unmade, zero, ℕ, ◌%◌, ◌*◌, ◌++◌, ◌+◌, ◌-◌, ◌/◌, ◌<◌, ◌^◌, ◌∙◌, ◌∷◌, ◌≡◌, ◌≤◌}
use Rattle.std.proofs.lemmas.List.{get_or-append_right, get_or-replicate, get_or_append_left, get_or_read, length-replicate, length_push}
use Rattle.std.proofs.lemmas.List.{replicate-append-replicate, set-append_left, set-append_right}
use Rattle.std.proofs.lemmas.List.Elements.{All-get_or, All-replicate, All-same, All-set, All-take}
use Rattle.bucket_slots.specs.ArrayView.{IsNewArray}
use Rattle.bucket_slots.specs.Layout.ArrayParts.{AreBuckets, AreFew, buckets_of}

-- if n items fit in memory together, one does
pub one_fits : (n s : ℕ) → 0 < n → n * s < 2 ^ 63 → s < 2 ^ 63
one_fits n s some all =
    let least : s ≤ n * s = subst (λ (k : ℕ). s ≤ k) (mul_comm s n) (le-mul_of_pos_right s some) in
    omega (arith, least, all)

module _ {A : Type 0} where
  -- if an element and all after it are one value, so are all elements from its index on
  pub from_one_less : (xs : List A) (x d : A) (left : ℕ) → get_or xs left d ≡ x
      → ((i : ℕ) → suc left ≤ i → i < length xs → get_or xs i d ≡ x) → (i : ℕ) → left ≤ i → i < length xs → get_or xs i d ≡ x
  from_one_less xs x d left here behind i from below = elim (cases_lt left i) [
    | inl past ↦ behind i (omega (arith, past)) below
    | inr upto ↦ let same : i ≡ left = omega (arith, from, upto) in rw same here
  ]

  -- if the elements before an index are one value, so are they and the one there once it is set to that value
  pub set_one_more : (xs : List A) (x d : A) (index : ℕ) → index < length xs → ((i : ℕ) → i < index → get_or xs i d ≡ x) → (i : ℕ)
      → i < index + 1 → get_or (set xs index x) i d ≡ x
  set_one_more xs x d index there before i below = elim (cases_lt i index) [
    | inl less ↦ get_or-set_other xs index i x d (λ same. absurd (omega (arith, less, same))) ∙ before i less
    | inr from ↦ let same : i ≡ index = omega (arith, below, from) in rw same (get_or-set_same xs index x d there)
  ]

  pub flattened-replicate : (n m : ℕ) (x : A) → flattened (replicate n (replicate m x)) ≡ replicate (n * m) x
  flattened-replicate zero m x = let none : 0 ≡ 0 * m = omega arith in ap (λ k. replicate k x) none
  flattened-replicate (suc n) m x =
      let more : m + n * m ≡ suc n * m = omega (arith, add-mul 1 n m, one-mul m) in
      ap (λ l. replicate m x ++ l) (flattened-replicate n m x) ∙ replicate-append-replicate m (n * m) x ∙ ap (λ k. replicate k x) more

  pub length-flattened : (rows : List (List A)) (m : ℕ) → All (λ row. length row ≡ m) rows → length (flattened rows) ≡ length rows * m
  length-flattened [] m long = omega arith
  length-flattened (row ∷ rows) m long =
      let rest = length-flattened rows m (All-tail (λ r. length r ≡ m) row rows long) in
      let here = All-head (λ r. length r ≡ m) row rows long in
      omega (arith, length-append row (flattened rows), rest, here, add-mul 1 (length rows) m, one-mul m)

  module _ (rows : List (List A)) (m p o : ℕ) (long : All (λ row. length row ≡ m) rows) (within : p < length rows) (inside : o < m) where
    -- the elements of the rows before one and of those after it
    abbrev pub front : List A
    front = flattened (take p rows)

    abbrev pub back : List A
    back = flattened (drop (suc p) rows)

    pub length-front : length front ≡ p * m
    length-front =
        length-flattened (take p rows) m (All-take (λ r. length r ≡ m) p rows long) ∙ ap (λ n. n * m) (length-take-le p rows (omega arith))

    pub flattened-set : (row : List A) → flattened (set rows p row) ≡ front ++ (row ++ back)
    flattened-set row = ap flattened (set_split rows p row within) ∙ flat_map-append (λ r. r) (take p rows) (row ∷ drop (suc p) rows)

    pub flattened_split : flattened rows ≡ front ++ (get_or rows p [] ++ back)
    flattened_split = ap flattened (sym (set-get_or rows p [])) ∙ flattened-set (get_or rows p [])

    pub length_row : length (get_or rows p []) ≡ m
    length_row = All-get_or (λ r. length r ≡ m) rows p [] within long

    offset_left : p * m + o - p * m ≡ o
    offset_left = omega arith

    pub get_or-flattened : (d : A) → get_or (flattened rows) (p * m + o) d ≡ get_or (get_or rows p []) o d
    get_or-flattened d =
        ap (λ l. get_or l (p * m + o) d) flattened_split
        ∙ get_or-append_right front (get_or rows p [] ++ back) (p * m) (p * m + o) d length-front (omega arith)
        ∙ ap (λ k. get_or (get_or rows p [] ++ back) k d) offset_left
        ∙ get_or_append_left (get_or rows p []) back d o (omega (arith, length_row))

    pub set-flattened : (x : A) → flattened (set rows p (set (get_or rows p []) o x)) ≡ set (flattened rows) (p * m + o) x
    set-flattened x =
        flattened-set (set (get_or rows p []) o x)
        ∙ ap (λ l. front ++ l) (sym (set-append_left (get_or rows p []) back o x (omega (arith, length_row))))
        ∙ ap (λ k. front ++ set (get_or rows p [] ++ back) k x) (sym offset_left)
        ∙ sym (set-append_right front (get_or rows p [] ++ back) (p * m) (p * m + o) x length-front (omega arith))
        ∙ ap (λ l. set l (p * m + o) x) (sym flattened_split)

abbrev Buckets : Type 0 → Type 0 → Type 0
Buckets K V = List (BucketView K V)

module _ {K V : Type 0} where
  -- a bucket that is initialized is read
  pub get_or-made : (made : Buckets K V) (len i : ℕ) (released : Bool) → i < length made
      → get_or (with_unmade made len released) i empty_bucket ≡ get_or made i empty_bucket
  get_or-made made len i released there =
      get_or_append_left made (replicate (len - length made) (unmade_bucket released)) empty_bucket i there

  -- a bucket of a part is read, whose buckets are the initialized ones and more
  pub part_read : (made part : Buckets K V) (len i : ℕ) (released : Bool) (bucket : BucketView K V) → with_unmade made len released ≡ part
      → i < length made → bucket ≡ get_or made i bucket → bucket ≡ get_or part i empty_bucket
  part_read made part len i released bucket same there is =
      rw (← same) (get_or_read made i bucket there is empty_bucket ∙ sym (get_or-made made len i released there))

  pub length-part : (made part : Buckets K V) (len : ℕ) (released : Bool) → with_unmade made len released ≡ part
      → length part ≡ length made + (len - length made)
  length-part made part len released same =
      let behind = replicate (len - length made) (unmade_bucket released) in
      rw (← same)
      (length-append made behind ∙ ap (λ n. length made + n) (length-replicate (len - length made) (unmade_bucket released)))

  -- and one that isn't initialized
  pub part_unmade : (made part : Buckets K V) (len i : ℕ) (released : Bool) → with_unmade made len released ≡ part → length made ≤ i
      → i < length part → unmade_bucket released ≡ get_or part i empty_bucket
  part_unmade made part len i released same past below =
      let spare : BucketView K V = unmade_bucket released in
      let behind = replicate (len - length made) spare in
      let long = length-part made part len released same in
      rw (← same) (sym (get_or-append_right made behind (length made) i empty_bucket refl past
      ∙ get_or-replicate (len - length made) (i - length made) spare empty_bucket (omega arith)))

  -- one more bucket is initialized
  pub made_one : (made : Buckets K V) (len : ℕ) (released : Bool) → length made < len
      → with_unmade (made ++ unmade_bucket released ∷ []) len released ≡ with_unmade made len released
  made_one made len released less =
      let spare : BucketView K V = unmade_bucket released in
      let left : ℕ = len - length made - 1 in
      let count : len - length (made ++ spare ∷ []) ≡ left = omega (arith, length_push made spare) in
      let back : suc left ≡ len - length made = omega arith in
      ap (λ n. (made ++ spare ∷ []) ++ replicate n spare) count
      ∙ append_assoc made (spare ∷ []) (replicate left spare)
      ∙ ap (λ n. made ++ replicate n spare) back

  pub set-part : (made : Buckets K V) (len i : ℕ) (released : Bool) (bucket : BucketView K V) → i < length made
      → with_unmade (set made i bucket) len released ≡ set (with_unmade made len released) i bucket
  set-part made len i released bucket below =
      ap (λ n. set made i bucket ++ replicate (len - n) (unmade_bucket released)) (length-set made i bucket)
      ∙ sym (set-append_left made (replicate (len - length made) (unmade_bucket released)) i bucket below)

  -- a part whose buckets are all initialized and killed reads as one that is released
  pub released_part : (made new : Buckets K V) (len new_len : ℕ) (released : Bool) → length made ≡ len
      → made ≡ replicate (length made) (unmade_bucket true) → new ≡ [] → new_len ≡ len
      → with_unmade new new_len true ≡ with_unmade made len released
  released_part made new len new_len released all killed none same =
      let left : 0 ≡ len - length made = omega (arith, all) in
      let whole : new_len - 0 ≡ length made = omega (arith, all, same) in
      ap (λ l. with_unmade l new_len true) none ∙ ap (λ n. replicate n (unmade_bucket true)) whole ∙ sym killed ∙ sym (append-nil made)
      ∙ ap (λ n. made ++ replicate n (unmade_bucket released)) left

  -- the parts with one bucket of one of them replaced
  abbrev parts_with : List (Buckets K V) → ℕ → ℕ → BucketView K V → List (Buckets K V)
  parts_with parts part offset bucket = set parts part (set (part_at parts part) offset bucket)

  -- the place of the bucket at an index: reading or writing there is reading or writing that bucket of the array
  pub record IsPlace (parts : List (Buckets K V)) (spare : Buckets K V) (len bits part offset index : ℕ)
      (buckets : Buckets K V) : Type 0 where
    pub within : part < length parts
    pub inside : offset < length (part_at parts part)
    pub read : get_or (part_at parts part) offset empty_bucket ≡ get_or buckets index empty_bucket
    pub written : (bucket : BucketView K V) → flattened (parts_with parts part offset bucket) ≡ set buckets index bucket
    pub kept : (bucket : BucketView K V) → AreParts (parts_with parts part offset bucket) spare len bits

  module _ (parts : List (Buckets K V)) (spare : Buckets K V) (len bits : ℕ) (kept : AreParts parts spare len bits) where
    place_by_index : (index : ℕ) → index < length (flattened parts)
        → IsPlace parts spare len bits (index / 2 ^ bits) (index % 2 ^ bits) index (flattened parts)
    place_by_index index below =
        let m = 2 ^ bits in
        let p = index / m in
        let o = index % m in
        let some = pow_pos bits in
        let inside : o < m = mod-lt index some in
        let within : p < length parts = div_below index m (length parts) some (rw (← length-flattened parts m kept.long) below) in
        let at : p * m + o ≡ index = ap (λ n. n + o) (mul_comm p m) ∙ div-add-mod index m in
        let long : length (part_at parts p) ≡ m = All-get_or (λ part. length part ≡ m) parts p [] within kept.long in
        let written : (bucket : BucketView K V) → flattened (parts_with parts p o bucket) ≡ set (flattened parts) index bucket =
        λ bucket. set-flattened parts m p o kept.long within inside bucket ∙ ap (λ i. set (flattened parts) i bucket) at in
        record {
          within = within;
          inside = rw long inside;
          read = sym (get_or-flattened parts m p o kept.long within inside empty_bucket)
              ∙ ap (λ i. get_or (flattened parts) i empty_bucket) at;
          written = written;
          kept = λ bucket.
              let row = set (part_at parts p) o bucket in
              record {
                long = All-set (λ part. length part ≡ m) parts p row (length-set (part_at parts p) o bucket ∙ long) kept.long;
                few_bits = kept.few_bits;
                len_is = kept.len_is ∙ sym (ap length (written bucket) ∙ length-set (flattened parts) index bucket);
                spare_is = kept.spare_is;
              };
        }

    pub place_is : (part offset index : ℕ) (buckets : Buckets K V) → flattened parts ≡ buckets → index < length buckets
        → part ≡ index / 2 ^ bits → offset ≡ index % 2 ^ bits → IsPlace parts spare len bits part offset index buckets
    place_is part offset index buckets is below part_is offset_is = rw (part_is, offset_is, ← is) (place_by_index index (rw is below))

  -- if there are parts, the buckets are theirs
  pub of_parts : (parts : List (Buckets K V)) (beside : Buckets K V) → 0 < length parts → buckets_of parts beside ≡ flattened parts
  of_parts [] beside some = absurd (omega (arith, some))
  of_parts (part ∷ parts) beside some = refl

  some_parts : (parts : List (Buckets K V)) → 0 < length (flattened parts) → 0 < length parts
  some_parts [] some = absurd (omega (arith, some))
  some_parts (part ∷ parts) some = omega arith

  module _ {parts : List (Buckets K V)} {beside : Buckets K V} {len bits : ℕ} where
    pub long_view : AreParts parts beside len bits → 4 < len → buckets_of parts beside ≡ flattened parts
    long_view kept many = of_parts parts beside (some_parts parts (omega (arith, kept.len_is, many)))

    pub few_view : AreFew parts beside len bits → buckets_of parts beside ≡ beside
    few_view few = rw few.partless refl

    -- the stored length is that of the array
    pub len_of : AreBuckets parts beside len bits → len ≡ length (buckets_of parts beside)
    len_of (inl few) = few.len_is ∙ ap length (sym (few_view few))
    len_of (inr kept) = kept.0.len_is ∙ ap length (sym (long_view kept.0 kept.1))

    pub is_long : {buckets : Buckets K V} → AreBuckets parts beside len bits → buckets_of parts beside ≡ buckets → 4 < length buckets
        → 4 < len
    is_long all is many = omega (arith, len_of all, ap length is, many)

    -- an array whose parts are longer than one bucket has more than four buckets
    pub bits_long : AreBuckets parts beside len bits → 0 < bits → 4 < len
    bits_long (inl few) some = absurd (omega (arith, few.no_bits, some))
    bits_long (inr kept) some = kept.1

    -- there is a bucket beside the parts
    pub some_beside : AreBuckets parts beside len bits → 0 < length beside
    some_beside (inl few) = omega (arith, few.some, few.len_is)
    some_beside (inr kept) = rw kept.0.spare_is (omega arith)

    -- an array of more than four buckets has parts
    pub long_parts : AreBuckets parts beside len bits → 4 < len → AreParts parts beside len bits
    long_parts (inl few) many = absurd (omega (arith, few.few, many))
    long_parts (inr kept) many = kept.0

    -- and one of fewer has none
    pub few_parts : AreBuckets parts beside len bits → len ≤ 4 → AreFew parts beside len bits
    few_parts (inl few) most = few
    few_parts (inr kept) most = absurd (omega (arith, kept.1, most))

    -- a bucket of a short array is replaced
    pub few_with : (few : AreFew parts beside len bits) (index : ℕ) (bucket : BucketView K V)
        → AreFew parts (set beside index bucket) len bits
    few_with few index bucket = record {
      partless = few.partless;
      some = few.some;
      few = few.few;
      len_is = few.len_is ∙ sym (length-set beside index bucket);
      no_bits = few.no_bits;
    }

  -- a run of buckets of a short array is replaced by as many
  pub few_spread : (parts : List (Buckets K V)) (beside left : Buckets K V) (len bits : ℕ) → AreFew parts beside len bits
      → length left ≡ length beside → AreFew parts left len bits
  few_spread parts beside left len bits few same = record {
    partless = few.partless;
    some = few.some;
    few = few.few;
    len_is = few.len_is ∙ sym same;
    no_bits = few.no_bits;
  }

  -- the place of the bucket at an index in an array that isn't short: reading or writing there is reading or writing that bucket
  pub record IsLongPlace (parts : List (Buckets K V)) (beside : Buckets K V) (len bits part offset index : ℕ)
      (buckets : Buckets K V) : Type 0 where
    pub within : part < length parts
    pub inside : offset < length (part_at parts part)
    pub read : get_or (part_at parts part) offset empty_bucket ≡ get_or buckets index empty_bucket
    pub written : (bucket : BucketView K V) → buckets_of (parts_with parts part offset bucket) beside ≡ set buckets index bucket
    pub kept : (bucket : BucketView K V) → AreBuckets (parts_with parts part offset bucket) beside len bits

  module _ (parts : List (Buckets K V)) (beside : Buckets K V) (len bits : ℕ) (all : AreBuckets parts beside len bits)
      (many : 4 < len) where
    pub long_place : (part offset index : ℕ) (buckets : Buckets K V) → buckets_of parts beside ≡ buckets → index < length buckets
        → part ≡ index / 2 ^ bits → offset ≡ index % 2 ^ bits → IsLongPlace parts beside len bits part offset index buckets
    long_place part offset index buckets is below part_is offset_is =
        let kept = long_parts all many in
        let view = long_view kept many in
        let place = place_is parts beside len bits kept part offset index buckets (sym view ∙ is) below part_is offset_is in
        record {
          within = place.within;
          inside = place.inside;
          read = place.read;
          written = λ bucket. long_view (place.kept bucket) many ∙ place.written bucket;
          kept = λ bucket. inr (place.kept bucket, many);
        }

  -- the number of empty buckets that a capacity needs are a new array
  pub new_array : (capacity len : ℕ) (buckets : Buckets K V) → IsLengthFor capacity len → buckets ≡ replicate len empty_bucket
      → IsNewArray capacity buckets
  new_array capacity len buckets fits is =
      let long : length buckets ≡ len = ap length is ∙ length-replicate len empty_bucket in
      record {
        len = subst (λ n. IsLengthFor capacity n) (sym long) fits;
        empty = is ∙ ap (λ n. replicate n empty_bucket) (sym long);
      }

  -- buckets as they are allocated
  module _ (parts : List (Buckets K V)) (count part_len bits len : ℕ) (long : part_len ≡ 2 ^ bits) (whole : len ≡ count * 2 ^ bits)
      (is : parts ≡ replicate count (replicate part_len empty_bucket)) where
    pub new_view : flattened parts ≡ replicate len empty_bucket
    new_view =
        ap flattened is ∙ flattened-replicate count part_len empty_bucket ∙ ap (λ m. replicate (count * m) empty_bucket) long
        ∙ ap (λ n. replicate n empty_bucket) (sym whole)

    new_len : length (flattened parts) ≡ len
    new_len = ap length new_view ∙ length-replicate len empty_bucket

    pub new_parts : (spare : Buckets K V) → bits < 64 → spare ≡ unmade_bucket false ∷ unmade_bucket true ∷ []
        → AreParts parts spare len bits
    new_parts spare few empty =
        let part : Buckets K V = replicate part_len empty_bucket in
        let all_long = All-replicate (λ row. length row ≡ 2 ^ bits) count part (length-replicate part_len empty_bucket ∙ long) in
        record {
          long = All-same (λ row. length row ≡ 2 ^ bits) parts (replicate count part) is all_long;
          few_bits = few;
          len_is = sym new_len;
          spare_is = empty;
        }
