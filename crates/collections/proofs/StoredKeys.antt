-- Look-ups of a map's own keys.
use Rattle.std.proofs.Common.{zero, suc, ◌≡◌, inl, inr, Bool, true, false, cond, Option, Some, None, List, [], ◌∷◌, map}
use Rattle.std.proofs.Common.{refl, sym, ap, ◌∙◌, arith}
use Rattle.std.specs.Cmp.{IsEquivalence}
use Rattle.std.specs.List.{All, Contains, IsDistinct}
use Rattle.std.specs.Map.{keys_of, lookup, lookup_key}
use Rattle.std.proofs.lemmas.Bool.{cases_Bool}
use Rattle.std.proofs.lemmas.List.Sorted.{Contains-permutation}
use Rattle.std.proofs.lemmas.List.Sorted.{IsPermutation-sym}
use Rattle.bucket_table.specs.Map.LookingUp.{IsThere}
use Rattle.collections.specs.Changes.{Adds, Takes}
use Rattle.collections.specs.Maps.{IsUnique, MapView}
use Rattle.collections.specs.StoredKeys.{ReplacesKey}
use Rattle.collections.proofs.Lookups.{IsForm, form_there, lookup_same}

module _ {K V : Type 0} where
  -- each key, paired with itself
  abbrev doubled : List (K × V) → List (K × K)
  doubled ps = map (λ p. (p.0, p.0)) ps

  lookup-doubled : (test : K → Bool) (ps : List (K × V)) → lookup test (doubled ps) ≡ lookup_key test ps
  lookup-doubled test [] = refl
  lookup-doubled test (p ∷ ps) = ap (λ (o : Option K). cond (test p.0) (Some p.0) o) (lookup-doubled test ps)

  keys_of-doubled : (ps : List (K × V)) → keys_of (doubled ps) ≡ keys_of ps
  keys_of-doubled [] = refl
  keys_of-doubled (p ∷ ps) = ap (λ ks. p.0 ∷ ks) (keys_of-doubled ps)

  Contains-doubled : (ps : List (K × V)) (p : K × V) → Contains ps p → Contains (doubled ps) (p.0, p.0)
  Contains-doubled [] p there = absurd (omega (arith, there.1))
  Contains-doubled (q ∷ ps) p (zero, below, is) = (zero, omega arith, ap (λ x. (x.0, x.0)) is)
  Contains-doubled (q ∷ ps) p (suc i, below, is) =
      let rest = Contains-doubled ps p (i, omega (arith, below), is) in
      (suc rest.0, omega (arith, rest.1), rest.2)

  -- a test that passes the keys equal to one key finds its key
  pub key_there : (eq : K → K → Bool) → IsEquivalence eq → (test : K → Bool) → IsForm eq test → (ps : List (K × V)) (p : K × V)
      → IsDistinct eq (keys_of ps) → Contains ps p → test p.0 ≡ true → lookup_key test ps ≡ Some p.0
  key_there eq laws test alike ps p distinct there passes = sym (lookup-doubled test ps)
      ∙ form_there eq laws test alike (doubled ps) (p.0, p.0) (rw (keys_of-doubled ps) distinct) (Contains-doubled ps p there) passes

  -- no key passes: none is found
  pub key_absent : (test : K → Bool) (ps : List (K × V)) → All (λ o. test o.0 ≡ false) ps → lookup_key test ps ≡ None
  key_absent test [] none = refl
  key_absent test (p ∷ ps) none =
      ap (λ b. cond b (Some p.0) (lookup_key test ps)) (none 0 p (omega arith))
      ∙ key_absent test ps (λ i d below. none (suc i) d (omega arith))

module _ {K V : Type 0} (eq : K → K → Bool) (laws : IsEquivalence eq) (matches : K → Bool) (alike : IsForm eq matches) where
  -- matching pairs of distinct keys are one pair
  pub same_pair : (ps : List (K × V)) (p q : K × V) → IsDistinct eq (keys_of ps) → Contains ps p → Contains ps q → matches p.0 ≡ true
      → matches q.0 ≡ true → p ≡ q
  same_pair ps p q distinct has_p has_q at_p at_q =
      let found = key_there eq laws matches alike ps in
      let keys : Some p.0 ≡ Some q.0 = sym (found p distinct has_p at_p) ∙ found q distinct has_q at_q in
      let shows = form_there eq laws matches alike ps in
      let values : Some p.1 ≡ Some q.1 = sym (shows p distinct has_p at_p) ∙ shows q distinct has_q at_q in
      let own : p.0 ≡ q.0 = cc in
      let value : p.1 ≡ q.1 = cc in
      λ i. (own i, value i)

  -- the pair that is removed is the one that was present
  pub taken_there : {H : Type 0} (old new : MapView K V H) (pair : K × V) → Takes eq old matches pair new → (p : K × V) → IsUnique eq old
      → IsThere matches old.entries p → p ≡ pair
  taken_there old new pair taken p unique there =
      let has = Contains-permutation (pair ∷ new.entries) old.entries pair
      (IsPermutation-sym old.entries (pair ∷ new.entries) taken.entries) (0, omega arith, refl) in
      same_pair old.entries p pair unique there.0 has there.1 taken.same

module _ {K V H : Type 0} (eq : K → K → Bool) (laws : IsEquivalence eq) (key : K) (old new : MapView K V H) (pair : K × V)
    (taken : Takes eq old (eq key) pair new) where
  -- a pair is removed, and then another is in its place, with an equal key and the same value
  pub replaced_key : (later : MapView K V H) → Adds eq new key pair.1 later → ReplacesKey eq old pair key later
  replaced_key later added = record {
    same = laws.symm pair.0 key ∙ taken.same;
    value = taken.value;
    rest = new.entries;
    before = taken.entries;
    after = added.entries;
    len = omega (arith, added.len, taken.len);
    gets = λ q. elim (cases_Bool (eq key q)) [
      | inl hit ↦
          let now = rw hit at (added.updates q) in
          let was = sym (lookup_same eq laws key q old.entries hit) ∙ taken.value in
          now ∙ sym was
      | inr miss ↦
          let now = rw miss at (added.updates q) in
          let was = rw miss at (taken.updates q) in
          now ∙ was
    ];
    kept = record {
      unique = added.kept.unique;
      hasher = added.kept.hasher ∙ taken.kept.hasher;
      minimum = added.kept.minimum ∙ taken.kept.minimum;
      maximum = added.kept.maximum ∙ taken.kept.maximum;
    };
  }
