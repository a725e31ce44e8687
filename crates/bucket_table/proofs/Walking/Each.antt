-- What holds of each element of a list.
use Rattle.bucket_table.proofs.Words.{All-from_recursion, All-permutation, AllByRecursion, Bool, IsPermutation, IsPermutation-append_left}
use Rattle.bucket_table.proofs.Words.{List, [], append_assoc, arith, cases_Bool, cond, false, filter, inl, inr, length, map}
use Rattle.bucket_table.proofs.Words.{recursion_from_All, refl, true, ◌++◌, ◌∷◌, ◌≡◌}
use Rattle.std.proofs.lemmas.List.Sorted.{IsPermutation-append_comm}

module _ {A : Type 0} where
  pub each : {P : A → Type 0} → ((x : A) → P x) → (xs : List A) → AllByRecursion P xs
  each f [] = tt
  each f (x ∷ xs) = (f x, each f xs)

  pub each_implies : {P Q : A → Type 0} (xs : List A) → ((x : A) → P x → Q x) → AllByRecursion P xs → AllByRecursion Q xs
  each_implies [] f h = tt
  each_implies (x ∷ xs) f h = (f x h.0, each_implies xs f h.1)

  pub each_both : {P Q R : A → Type 0} (xs : List A) → ((x : A) → P x → Q x → R x) → AllByRecursion P xs → AllByRecursion Q xs
      → AllByRecursion R xs
  each_both [] f h k = tt
  each_both (x ∷ xs) f h k = (f x h.0 k.0, each_both xs f h.1 k.1)

  pub each_append : (P : A → Type 0) (xs ys : List A) → AllByRecursion P xs → AllByRecursion P ys → AllByRecursion P (xs ++ ys)
  each_append P [] ys h k = k
  each_append P (x ∷ xs) ys h k = (h.0, each_append P xs ys h.1 k)

  pub each_front : (P : A → Type 0) (xs ys : List A) → AllByRecursion P (xs ++ ys) → AllByRecursion P xs
  each_front P [] ys h = tt
  each_front P (x ∷ xs) ys h = (h.0, each_front P xs ys h.1)

  pub each_back : (P : A → Type 0) (xs ys : List A) → AllByRecursion P (xs ++ ys) → AllByRecursion P ys
  each_back P [] ys h = h
  each_back P (x ∷ xs) ys h = each_back P xs ys h.1

  pub each_map : {B : Type 0} (P : B → Type 0) (f : A → B) (xs : List A) → AllByRecursion (λ x. P (f x)) xs → AllByRecursion P (map f xs)
  each_map P f [] h = tt
  each_map P f (x ∷ xs) h = (h.0, each_map P f xs h.1)

  pub each_filter : (P : A → Type 0) (p : A → Bool) (xs : List A) → AllByRecursion P xs → AllByRecursion P (filter p xs)
  each_filter P p [] h = tt
  each_filter P p (x ∷ xs) h = elim (cases_Bool (p x)) [
    | inl passes ↦ rw passes (h.0, each_filter P p xs h.1)
    | inr fails ↦ rw fails (each_filter P p xs h.1)
  ]

  pub all_permuted : (P : A → Type 0) {xs ys : List A} → IsPermutation xs ys → AllByRecursion P xs → AllByRecursion P ys
  all_permuted P {xs} {ys} moved h = recursion_from_All P ys (All-permutation P xs ys moved (All-from_recursion P xs h))

  pub none_in : {P : A → Type 0} {xs : List A} → ((x : A) → P x → ⊥) → AllByRecursion P xs → xs ≡ []
  none_in {xs = []} never h = refl
  none_in {xs = x ∷ xs} never h = absurd (never x h.0)

  first_fails : (b : Bool) (x : A) (us : List A) → cond b (x ∷ us) us ≡ [] → (b ≡ false) × (us ≡ [])
  first_fails true x us e = absurd cc
  first_fails false x us e = (refl, e)

  pub none_pass : (p : A → Bool) (xs : List A) → filter p xs ≡ [] → AllByRecursion (λ x. p x ≡ false) xs
  none_pass p [] e = tt
  none_pass p (x ∷ xs) e = let h = first_fails (p x) x (filter p xs) e in (h.0, none_pass p xs h.1)

  pub nothing : (xs : List A) → length xs ≡ 0 → xs ≡ []
  nothing [] e = refl
  nothing (x ∷ xs) e = let no : ⊥ = omega (arith, e) in absurd no

  pub to_front : (xs ys zs : List A) → IsPermutation (xs ++ (ys ++ zs)) (ys ++ (xs ++ zs))
  to_front xs ys zs =
      rw (← append_assoc xs ys zs, ← append_assoc ys xs zs)
      (IsPermutation-append_left zs (xs ++ ys) (ys ++ xs) (IsPermutation-append_comm xs ys))

  pub each_unmap : {B : Type 0} (P : B → Type 0) (f : A → B) (xs : List A) → AllByRecursion P (map f xs) → AllByRecursion (λ x. P (f x)) xs
  each_unmap P f [] h = tt
  each_unmap P f (x ∷ xs) h = (h.0, each_unmap P f xs h.1)
