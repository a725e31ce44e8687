-- A hash's home as a quotient.
use Rattle.bucket_table.proofs.Words.{IsHome, IsInInterval, IsLength, ℕ, ap, arith, div-lt_iff_lt-mul, home_of, interval_width, ◌*◌, ◌+◌}
use Rattle.bucket_table.proofs.Words.{◌/◌, ◌<◌, ◌^◌, ◌∙◌, ◌≡◌, ◌≤◌}
use Rattle.std.proofs.Math.Nat.{add-mul, div-mul-le_self, le-div_iff_mul-le, lt-div-mul-add, one-mul}

-- the home of a hash is the index of its interval
pub home_of-interval : (len index hash : ℕ) → IsInInterval len index hash → home_of len hash ≡ index
home_of-interval len index hash (low, high) =
    let w : ℕ = interval_width len in
    let next : (index + 1) * w ≡ index * w + w = add-mul index 1 w ∙ ap (λ (x : ℕ). index * w + x) (one-mul w) in
    let some : 0 < w = omega arith in
    let ge : index ≤ hash / w = (le-div_iff_mul-le some).1 low in
    let lt : hash / w < index + 1 = (div-lt_iff_lt-mul some).1 high in
    omega arith

-- a hash is in the interval of its home
pub in_interval : (len hash : ℕ) → 0 < interval_width len → IsInInterval len (home_of len hash) hash
in_interval len hash some =
    let w : ℕ = interval_width len in
    let next : (hash / w + 1) * w ≡ hash / w * w + w = add-mul (hash / w) 1 w ∙ ap (λ (x : ℕ). hash / w * w + x) (one-mul w) in
    let below = lt-div-mul-add {a = hash} {b = w} some in
    (div-mul-le_self hash w, omega arith)

-- the intervals of an array have hashes
pub some_width : (len : ℕ) → IsLength len → 0 < interval_width len
some_width len long =
    let some : 0 < len = omega (arith, long.at_least) in
    let one : 1 ≤ 2 ^ 64 / len = (le-div_iff_mul-le some).1 (omega (arith, long.at_most)) in
    omega (arith, one)

-- if the quotient is an index below the length, it is the home
pub home_is : (len hash index : ℕ) → IsLength len → index < len → home_of len hash ≡ index → IsHome len hash index
home_is len hash index long within is = record {
  within = within;
  own = rw is at (in_interval len hash (some_width len long));
  the_one = λ other h. rw (home_of-interval len other hash h) at is;
}
