-- Clones of keys inserted into a set in turn, and the contents of a set of clones of the keys of two others.
use Rattle.std.proofs.Common.{◌≡◌, ◌∙◌, ◌&&◌, ◌||◌, Bool, true, false, Some, Option, Result, Ok, Err, IfOk, cond, List, [], ◌∷◌, ◌++◌}
use Rattle.std.proofs.Common.{map, is_some, not, ap, refl, subst, sym}
use Rattle.std.specs.Borrow.{Bor}
use Rattle.std.specs.Cmp.{IsEquivalence}
use Rattle.std.specs.Iterator.{Drains, YieldsFirstRef}
use Rattle.std.specs.List.{AllZip, list_any}
use Rattle.std.specs.Map.{keys_of, lookup}
use Rattle.std.proofs.lemmas.Iterator.{items_from_drains}
use Rattle.std.proofs.lemmas.Iterator.Consumers.{YieldsList-from_first}
use Rattle.std.proofs.lemmas.List.{map-append}
use Rattle.std.proofs.lemmas.List.Elements.{AllZip-push}
use Rattle.std.proofs.lemmas.List.Folds.{list_any-append}
use Rattle.std.proofs.lemmas.Map.Views.{any-filter_same}
use Rattle.collections.specs.Clones.{IsClonedKey, JoinsClones, PutsClones, PutsClonesFrom, PutsKeyClone}
use Rattle.collections.specs.Changes.{Stays}
use Rattle.collections.specs.Collecting.{PutsKeys, empty_map}
use Rattle.collections.specs.Keys.{keys_of_either, keys_of_one, keys_outside, keys_within}
use Rattle.collections.specs.Maps.{IsUnique, MapView, contains}
use Rattle.collections.proofs.Lookups.{lookup_same}
use Rattle.collections.proofs.SetCollecting.{no_key_put, one_more_key, stays_then_keys}

-- what an iterator over the lent items of a list returned, all of it
drained : {S A : Type 0} (rest : S → List A) (s : S) (lent : List (Bor A)) → Drains (YieldsFirstRef rest) s lent
    → map (λ x. x.now) lent ≡ rest s
drained rest s lent (u, (t, yields, step)) =
    items_from_drains lent (t, yields, λ w. (u, step)) (YieldsList-from_first (λ x. x.now) rest (rest s) refl)

and_turned : (a b : Bool) → (a && b) ≡ (b && a)
and_turned true true = refl
and_turned true false = refl
and_turned false true = refl
and_turned false false = refl

or_rest : (a b : Bool) → (a || (b && not a)) ≡ (a || b)
or_rest true b = refl
or_rest false true = refl
or_rest false false = refl

module _ {K : Type 0} (eq : K → K → Bool) where
  -- a key is equal to clones exactly as to their originals
  any_clone : (laws : IsEquivalence eq) (IsKey : K → K → Type 0) (q : K) (keys clones : List K) → AllZip (IsClonedKey eq IsKey) keys clones
      → list_any (eq q) clones ≡ list_any (eq q) keys
  any_clone laws IsKey q [] [] same = refl
  any_clone laws IsKey q [] (c ∷ clones) same = absurd same
  any_clone laws IsKey q (k ∷ keys) [] same = absurd same
  any_clone laws IsKey q (k ∷ keys) (c ∷ clones) same =
      let first : eq q c ≡ eq q k = laws.symm q c ∙ sym (laws.congr k c q same.0.1) ∙ laws.symm k q in
      ap (λ b. b || list_any (eq q) clones) first ∙ ap (λ b. eq q k || b) (any_clone laws IsKey q keys clones same.1)

  -- the keys of a list of pairs are those that a look-up finds
  any_key : (q : K) (es : List (K × Unit {0})) → list_any (eq q) (keys_of es) ≡ is_some (lookup (eq q) es)
  any_key q [] = refl
  any_key q (e ∷ es) = from (eq q e.0) (any_key q es)
    where
      from : (b : Bool) → list_any (eq q) (keys_of es) ≡ is_some (lookup (eq q) es)
          → (b || list_any (eq q) (keys_of es)) ≡ is_some (cond b (Some e.1) (lookup (eq q) es))
      from true rest = refl
      from false rest = rest

module _ {K H : Type 0} (eq : K → K → Bool) (laws : IsEquivalence eq) (IsKey : K → K → Type 0) where
  pub no_clone_put : (m : MapView K (Unit {0}) H) → IsUnique eq m → PutsClones eq IsKey m [] m
  no_clone_put m unique = record { clones = []; one_each = tt; puts = no_key_put eq laws m unique }

  pub one_more_clone : (old mid new : MapView K (Unit {0}) H) (lent : List (Bor K)) (key : Bor K)
      → PutsClones eq IsKey old (map (λ k. k.now) lent) mid → PutsKeyClone eq IsKey mid key.now new
      → PutsClones eq IsKey old (map (λ k. k.now) (lent ++ key ∷ [])) new
  one_more_clone old mid new lent key so_far put = record {
    clones = so_far.clones ++ put.clone ∷ [];
    one_each = rw (map-append (λ (k : Bor K). k.now) lent (key ∷ []))
        (AllZip-push (IsClonedKey eq IsKey) (map (λ k. k.now) lent) so_far.clones key.now put.clone so_far.one_each put.is_clone);
    puts = one_more_key eq laws old mid new so_far.clones put.clone so_far.puts put.puts;
  }

  same_asked : (q : K) (other : MapView K (Unit {0}) H) (k : K) → eq q k ≡ true → contains eq other k ≡ contains eq other q
  same_asked q other k same = sym (ap is_some (lookup_same eq laws q k other.entries same))

  pub any_within : (q : K) (own other : MapView K (Unit {0}) H)
      → list_any (eq q) (keys_within eq own other) ≡ (contains eq own q && contains eq other q)
  any_within q own other =
      any-filter_same (eq q) (contains eq other) (contains eq other q) (same_asked q other) (keys_of own.entries)
      ∙ ap (λ b. contains eq other q && b) (any_key eq q own.entries) ∙ and_turned (contains eq other q) (contains eq own q)

  pub any_outside : (q : K) (own other : MapView K (Unit {0}) H)
      → list_any (eq q) (keys_outside eq own other) ≡ (contains eq own q && not (contains eq other q))
  any_outside q own other =
      any-filter_same (eq q) (λ k. not (contains eq other k)) (not (contains eq other q)) (λ k same. ap not (same_asked q other k same))
      (keys_of own.entries)
      ∙ ap (λ b. not (contains eq other q) && b) (any_key eq q own.entries) ∙ and_turned (not (contains eq other q)) (contains eq own q)

  pub any_of_either : (q : K) (own other : MapView K (Unit {0}) H)
      → list_any (eq q) (keys_of_either eq own other) ≡ (contains eq own q || contains eq other q)
  any_of_either q own other =
      list_any-append (eq q) (keys_of own.entries) (keys_outside eq other own)
      ∙ ap (λ b. b || list_any (eq q) (keys_outside eq other own)) (any_key eq q own.entries)
      ∙ ap (λ b. contains eq own q || b) (any_outside q other own) ∙ or_rest (contains eq own q) (contains eq other q)

  pub any_of_one : (q : K) (own other : MapView K (Unit {0}) H) → list_any (eq q) (keys_of_one eq own other)
      ≡ ((contains eq own q && not (contains eq other q)) || (contains eq other q && not (contains eq own q)))
  any_of_one q own other =
      list_any-append (eq q) (keys_outside eq own other) (keys_outside eq other own)
      ∙ ap (λ b. b || list_any (eq q) (keys_outside eq other own)) (any_outside q own other)
      ∙ ap (λ b. (contains eq own q && not (contains eq other q)) || b) (any_outside q other own)

  -- clones inserted into a set that was made empty, and in which room was made
  pub puts_into_new : {S : Type 0} (steps : S → Option (Bor K) → S → Type 0) (s : S) (first ready made : MapView K (Unit {0}) H)
      → first ≡ empty_map first.hasher → Stays eq first ready → PutsClonesFrom eq IsKey steps s ready made
      → PutsClonesFrom eq IsKey steps s (empty_map made.hasher) made
  puts_into_new steps s first ready made empty stays (lent, drains, put) =
      let puts = stays_then_keys eq laws first ready made put.clones stays put.puts in (
        lent,
        drains,
        record {
          clones = put.clones;
          one_each = put.one_each;
          puts = subst (λ m. PutsKeys eq m put.clones made) (empty ∙ ap (λ h. empty_map h) (sym puts.kept.hasher)) puts;
        },
      )

  -- a new set into which clones of all keys of an iterator were put, if it was made
  pub joined : {E S : Type 0} (IsHasher : H → H → Type 0) (own other : MapView K (Unit {0}) H) (result : Result (MapView K (Unit {0}) H) E)
      (rest : S → List K) (s : S) (keys : List K) (joins : Bool → Bool → Bool) → rest s ≡ keys
      → ((q : K) → list_any (eq q) keys ≡ joins (contains eq own q) (contains eq other q))
      → IfOk result (λ made. PutsClonesFrom eq IsKey (YieldsFirstRef rest) s (empty_map made.hasher) made)
      → IfOk result (λ made. IsHasher own.hasher made.hasher)
      → IfOk result (λ made. JoinsClones eq IsKey IsHasher own other keys joins made)
  joined IsHasher own other (Err e) rest s keys joins is any puts hasher = tt
  joined IsHasher own other (Ok made) rest s keys joins is any (lent, drains, put) hasher =
      let all : map (λ (k : Bor K). k.now) lent ≡ keys = drained rest s lent drains ∙ is in
      let one_each = subst (λ l. AllZip (IsClonedKey eq IsKey) l put.clones) all put.one_each in
      record {
        puts = record { clones = put.clones; one_each = one_each; puts = put.puts };
        has = λ q. put.puts.has q ∙ any_clone eq laws IsKey q keys put.clones one_each ∙ any q;
        hasher = hasher;
      }
