-- Bounds on how many keys are left.
use Rattle.std.proofs.Common.{Bool, IfSome, List, None, Option, Some, arith, length, not, refl, subst, ◌+◌, ◌≡◌, ◌≤◌, ℕ}
use Rattle.std.specs.Iterator.{UpTo, at_most}
use Rattle.std.specs.List.{filter}
use Rattle.std.specs.Option.{IsSomeAnd}
use Rattle.std.proofs.lemmas.List.Filters.{length-filter_both}

-- of some keys that pass a test there are no more than of them all
fewer_pass : {A : Type 0} (test : A → Bool) (all : List A) → length (filter test all) ≤ length all
fewer_pass test all = omega (arith, length-filter_both test (λ x. not (test x)) (λ x. refl) all)

-- so a bound on them all is one on those
pub bound_passing : {A : Type 0} (test : A → Bool) (all left : List A) → filter test all ≡ left → (most : Option ℕ)
    → IfSome most (UpTo (at_most (length all))) → IfSome most (UpTo (at_most (length left)))
bound_passing test all left is None bound = tt
bound_passing test all left is (Some most) bound =
    let fewer : length left ≤ length all = subst (λ l. length l ≤ length all) is (fewer_pass test all) in
    (tt, omega (arith, bound.1))

-- the sum of two bounds is one on both
pub bound_sum : (all first second : ℕ) → all ≡ first + second → (one other sum : Option ℕ) → IfSome one (UpTo (at_most first))
    → IfSome other (UpTo (at_most second)) → IfSome sum (λ n. IsSomeAnd one (λ x. IsSomeAnd other (λ y. n ≡ x + y)))
    → IfSome sum (UpTo (at_most all))
bound_sum all first second is one other None to_one to_other both = tt
bound_sum all first second is None other (Some n) to_one to_other both = absurd both
bound_sum all first second is (Some x) None (Some n) to_one to_other both = absurd both
bound_sum all first second is (Some x) (Some y) (Some n) to_one to_other both = (tt, omega (arith, to_one.1, to_other.1, both))
