-- What the calls of a table by key do to the map that it is.
use Rattle.std.proofs.Common.{ℕ, ◌≡◌, ◌-◌, if◌then◌else◌, Bool, true, cond, Option, Some, None, Result, Ok, Err, List, ◌∷◌}
use Rattle.std.proofs.Common.{refl, subst, ap, ◌∙◌, arith}
use Rattle.std.specs.Borrow.{Bor, MutBor}
use Rattle.std.specs.Cmp.{IsEquivalence}
use Rattle.std.specs.List.{Contains, IsDistinct}
use Rattle.std.specs.List.Sorted.{IsPermutation}
use Rattle.std.specs.Map.{keys_of}
use Rattle.std.specs.declared.alloc.AllocFailed.{AllocFailed}
use Rattle.std.proofs.lemmas.Bool.{le-leb}
use Rattle.std.proofs.lemmas.List.Sorted.{Contains-permutation, IsPermutation-sym, length_permutation}
use Rattle.bucket_table.specs.Views.ArraysView.{TableView, pairs_of}
use Rattle.bucket_table.specs.Map.LookingUp.{IsAbsent}
use Rattle.bucket_table.specs.Map.MapState.{AddsPair, Becomes, ChangesValue, KeepsPairs, LowersMinimum, TakesPair, state_of}
use Rattle.bucket_table.specs.Map.ByKey as by_key
use Rattle.bucket_table.specs.Map.Putting as putting
use Rattle.bucket_slots.specs.declared.not_inserted.NotInserted.{NotInserted}
use Rattle.bucket_slots.specs.declared.not_inserted.NotInserted.TheVariants.{Present, Memory}
use Rattle.collections.specs.Maps.{get, map_of}
use Rattle.collections.specs.Changes.{Adds, Displaces, ReturnsPair, Inserts, Keeps, Puts, Removes, Replaces, Rewrites, Stays, Takes, Upserts}
use Rattle.collections.proofs.Lookups.{IsForm, form_absent, form_changed, form_taken, form_there, get_absent, get_there, lookup_added}
use Rattle.collections.proofs.Lookups.{lookup_permuted, lookup_taken}

-- a table's result, with the returned pair in std's error
abbrev pub as_failed : {A E : Type 0} → Result A E → Result A (AllocFailed E)
as_failed (Ok x) = Ok x
as_failed (Err back) = Err (record { value = back })

module _ {K V H : Type 0} (eq : K → K → Bool) (laws : IsEquivalence eq) where
  module _ (kind : ℕ) (t s : TableView K V H) (distinct : IsDistinct eq (keys_of (pairs_of t.arrays)))
      (after : IsDistinct eq (keys_of (pairs_of s.arrays))) where
    kept : {those : List (K × V)} → Becomes (state_of kind t) those (state_of kind s) → Keeps eq (map_of t) (map_of s)
    kept becomes = record {
      unique = after;
      hasher = ap (λ z. z.hasher) becomes.others;
      minimum = ap (λ z. z.minimum) becomes.others;
      maximum = ap (λ z. z.maximum) becomes.others;
    }

    pub stays : KeepsPairs (state_of kind t) (state_of kind s) → Stays eq (map_of t) (map_of s)
    stays keeps = record {
      entries = keeps.pairs;
      len = length_permutation (pairs_of t.arrays) (pairs_of s.arrays) keeps.pairs;
      gets = λ q. lookup_permuted eq laws q (pairs_of t.arrays) (pairs_of s.arrays) distinct keeps.pairs;
      kept = kept keeps;
    }

    pub adds : (k : K) (v : V) → IsAbsent (λ own. eq own k) (pairs_of t.arrays) → AddsPair (state_of kind t) (k, v) (state_of kind s)
        → Adds eq (map_of t) k v (map_of s)
    adds k v none added = record {
      absent = get_absent eq laws k (pairs_of t.arrays) none;
      entries = added.pairs;
      len = let more = length_permutation ((k, v) ∷ pairs_of t.arrays) (pairs_of s.arrays) added.pairs in omega (arith, more);
      updates = λ q. lookup_added eq laws q (k, v) (pairs_of t.arrays) (pairs_of s.arrays) after added.pairs;
      kept = kept added;
    }

    first_there : (p : K × V) (rest : List (K × V)) → IsPermutation (pairs_of t.arrays) (p ∷ rest) → Contains (pairs_of t.arrays) p
    first_there p rest moved = Contains-permutation (p ∷ rest) (pairs_of t.arrays) p
        (IsPermutation-sym (pairs_of t.arrays) (p ∷ rest) moved) (0, omega arith, refl)

    pub takes : (matches : K → Bool) (alike : IsForm eq matches) (p : K × V) → matches p.0 ≡ true
        → TakesPair (state_of kind t) p (state_of kind s) → Takes eq (map_of t) matches p (map_of s)
    takes matches alike p same taken = record {
      same = same;
      value = form_there eq laws matches alike (pairs_of t.arrays) p distinct (first_there p (pairs_of s.arrays) taken.pairs) same;
      entries = taken.pairs;
      len = let less = length_permutation (pairs_of t.arrays) (p ∷ pairs_of s.arrays) taken.pairs in omega (arith, less);
      updates = λ q. form_taken eq laws matches alike q p (pairs_of t.arrays) (pairs_of s.arrays) distinct taken.pairs same;
      kept = record {
        unique = after;
        hasher = ap (λ z. z.hasher) taken.others;
        minimum = ap (λ z. z.minimum) taken.others;
        maximum = ap (λ z. z.maximum) taken.others;
      };
    }

    pub replaces : (matches : K → Bool) (alike : IsForm eq matches) (p : K × V) (v : V) → matches p.0 ≡ true
        → ChangesValue (state_of kind t) p v (state_of kind s) → Replaces eq (map_of t) matches p v (map_of s)
    replaces matches alike p v same changed =
        let before = length_permutation (pairs_of t.arrays) (p ∷ changed.rest) changed.before in
        let later = length_permutation ((p.0, v) ∷ changed.rest) (pairs_of s.arrays) changed.after.pairs in
        record {
          same = same;
          value = form_there eq laws matches alike (pairs_of t.arrays) p distinct (first_there p changed.rest changed.before) same;
          rest = changed.rest;
          before = changed.before;
          after = changed.after.pairs;
          len = omega (arith, before, later);
          updates = λ q. form_changed eq laws matches alike q p v changed.rest (pairs_of t.arrays) (pairs_of s.arrays) distinct
              changed.before changed.after.pairs same;
          kept = kept changed.after;
        }

    pub absent : (k : K) → IsAbsent (λ own. eq own k) (pairs_of t.arrays) → get eq (map_of t) k ≡ None
    absent k none = get_absent eq laws k (pairs_of t.arrays) none

    handed_back : (k : K) (v : V) (why : NotInserted K V) → by_key.ReturnsPair eq k v (pairs_of t.arrays) why
        → ReturnsPair eq k v (map_of t) why
    handed_back k v (Present a b) x = (x.0, x.1, rw (get_there eq laws k (pairs_of t.arrays) x.2.0 distinct x.2.1) refl)
    handed_back k v (Memory a b) x = (x.0, x.1, absent k x.2)

    pub inserts : {A : Type 0} (k : K) (v : V) (r : Result A (NotInserted K V))
        → by_key.Inserts eq k v (state_of kind t) r (state_of kind s) → Inserts eq k v (map_of t) r (map_of s)
    inserts k v (Ok x) done = adds k v done.0 done.1
    inserts k v (Err why) done = (handed_back k v why done.0, stays done.1)

    displaces : (gone : K × V) (k : K) (v : V) → IsAbsent (λ own. eq own k) (pairs_of t.arrays)
        → putting.ReplacesPair (state_of kind t) gone (k, v) (state_of kind s) → Displaces eq (map_of t) gone k v (map_of s)
    displaces gone k v none replaced =
        let before = length_permutation (pairs_of t.arrays) (gone ∷ replaced.rest) replaced.before in
        let later = length_permutation ((k, v) ∷ replaced.rest) (pairs_of s.arrays) replaced.after.pairs in
        record {
          absent = absent k none;
          went = get_there eq laws gone.0 (pairs_of t.arrays) gone distinct
              (first_there gone replaced.rest replaced.before, laws.refl gone.0);
          rest = replaced.rest;
          before = replaced.before;
          after = replaced.after.pairs;
          len = omega (arith, before, later);
          gets = λ q. lookup_added eq laws q (k, v) replaced.rest (pairs_of s.arrays) after replaced.after.pairs
              ∙ ap (λ (o : Option V). cond (eq k q) (Some v) o) (lookup_taken eq laws gone.0 q gone (pairs_of t.arrays) replaced.rest
              distinct replaced.before (laws.refl gone.0));
          kept = kept replaced.after;
        }

    pub puts : (k : K) (v : V) (r : Result (Option (K × V)) (NotInserted K V))
        → putting.Puts eq k v (state_of kind t) r (state_of kind s) → Puts eq k v (map_of t) r (map_of s)
    puts k v (Ok None) done = adds k v done.0 done.1
    puts k v (Ok (Some gone)) done = displaces gone k v done.0 done.1
    puts k v (Err why) done = (handed_back k v why done.0, stays done.1)

    pub removes : (matches : K → Bool) (alike : IsForm eq matches) (r : Option (K × V))
        → by_key.Takes matches (state_of kind t) r (state_of kind s) → Removes eq matches (map_of t) r (map_of s)
    removes matches alike (Some p) done = takes matches alike p done.0 done.1
    removes matches alike None done = (form_absent matches (pairs_of t.arrays) done.0, stays done.1)

    pub upserts : (k : K) (v : V) (r : Result (Option V) (K × V)) → by_key.Upserts eq k v (state_of kind t) r (state_of kind s)
        → Upserts eq k v (map_of t) (as_failed r) (map_of s)
    upserts k v (Ok None) done = adds k v done.0 done.1
    upserts k v (Ok (Some earlier)) done =
        (done.0, replaces (eq k) (laws.congr k) (done.0, earlier) v (laws.symm k done.0 ∙ done.1) done.2)
    upserts k v (Err back) done = (done.0, absent k done.1, stays done.2)

    pub rewrites : {R : Type 0} (changes : Bor K → MutBor V → R → MutBor V → Type 0) (matches : K → Bool) (alike : IsForm eq matches)
        (r : Option R) → by_key.Rewrites matches changes (state_of kind t) r (state_of kind s)
        → Rewrites eq matches changes (map_of t) r (map_of s)
    rewrites changes matches alike (Some answer) done =
        (done.0, done.1, done.2, done.3, replaces matches alike (done.0.now, done.1.now) done.2.now done.4 done.5)
    rewrites changes matches alike None done = (form_absent matches (pairs_of t.arrays) done.0, stays done.1)

  -- with another minimum
  pub stays_by : (kind : ℕ) (t s : TableView K V H) → IsDistinct eq (keys_of (pairs_of t.arrays))
      → IsDistinct eq (keys_of (pairs_of s.arrays))
      → (minimum : ℕ) → KeepsPairs (record (state_of kind t) { minimum = minimum }) (state_of kind s)
      → Stays eq (record (map_of t) { minimum = minimum }) (map_of s)
  stays_by kind t s distinct after minimum keeps = record {
    entries = keeps.pairs;
    len = length_permutation (pairs_of t.arrays) (pairs_of s.arrays) keeps.pairs;
    gets = λ q. lookup_permuted eq laws q (pairs_of t.arrays) (pairs_of s.arrays) distinct keeps.pairs;
    kept = record {
      unique = after;
      hasher = ap (λ z. z.hasher) keeps.others;
      minimum = ap (λ z. z.minimum) keeps.others;
      maximum = ap (λ z. z.maximum) keeps.others;
    };
  }

  -- the minimum is lowered by all of it
  pub released : (kind : ℕ) (t s : TableView K V H) → IsDistinct eq (keys_of (pairs_of t.arrays))
      → IsDistinct eq (keys_of (pairs_of s.arrays))
      → (m answer : ℕ) → m ≡ t.arrays.minimum → LowersMinimum m (state_of kind t) answer (state_of kind s)
      → Stays eq (record (map_of t) { minimum = 0 }) (map_of s)
  released kind t s distinct after m answer is lowers =
      let all : answer ≡ m = lowers.granted ∙ ap (λ b. if b then m else 0) (le-leb m t.arrays.minimum (omega (arith, is))) in
      let none : t.arrays.minimum - answer ≡ 0 = omega (arith, all, is) in
      stays_by kind t s distinct after 0
      (subst (λ (n : ℕ). KeepsPairs (record (state_of kind t) { minimum = n }) (state_of kind s)) none lowers.kept)
