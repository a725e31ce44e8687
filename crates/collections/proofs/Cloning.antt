-- A map that was empty, and into which clones of the pairs of another are inserted one after the other.
use Rattle.std.proofs.Common.{ℕ, ◌≡◌, ◌∙◌, Bool, true, Option, Some, None, List, [], ◌∷◌, ◌++◌, ap, sym, subst, refl}
use Rattle.std.specs.Prelude.{◌^◌, min}
use Rattle.std.specs.Borrow.{Bor}
use Rattle.std.specs.Cmp.{IsEquivalence}
use Rattle.std.specs.List.{AllZip, FoldsTo, IsDistinct}
use Rattle.std.specs.List.Sorted.{IsPermutation}
use Rattle.std.specs.Map.{keys_of}
use Rattle.std.specs.Option.{IsSomeAnd, MatchOption}
use Rattle.std.proofs.lemmas.List.{append-nil, append_assoc}
use Rattle.std.proofs.lemmas.List.Elements.{AllZip-push, length_all_zip}
use Rattle.std.proofs.lemmas.Map.Entries.{lookup_clone}
use Rattle.std.proofs.lemmas.List.Sorted.{length_permutation}
use Rattle.bucket_table.proofs.CallerLemmas.{distinct_made}
use Rattle.bucket_table.specs.Map.Cloning.{AreMadeOf, IsMadeOf}
use Rattle.bucket_table.specs.Resize.Resizing.{with_minimum}
use Rattle.bucket_table.specs.Views.ArraysView.{TableView}
use Rattle.collections.specs.Changes.{Adds, Replaces}
use Rattle.collections.specs.Clones.{IsClone, IsClonedPair}
use Rattle.collections.specs.Collecting.{PutsAll}
use Rattle.collections.specs.Loans.{Puts}
use Rattle.collections.specs.Maps.{IsEmpty, IsUnique, MapView, get, map_of}
use Rattle.collections.proofs.Collecting.{none_put, one_more_put}
use Rattle.collections.proofs.Copying.{PutsOn, stays_filled}
use Rattle.collections.proofs.Lookups.{distinct_permuted, lookup_permuted}
use Rattle.collections.proofs.Staying.{stays_after}

-- of no keys none are equal
none_equal : {K : Type 0} (eq : K → K → Bool) → IsDistinct eq []
unfolding IsDistinct
none_equal eq = tt

-- a list with an item in it isn't empty
has_pair : {A : Type 0} (front rest : List A) (x : A) → front ++ x ∷ rest ≡ [] → ⊥
has_pair [] rest x e = absurd cc
has_pair (y ∷ front) rest x e = absurd cc

-- if the keys are absent, the pairs that are put are added
puts_on : {K V H : Type 0} (eq : K → K → Bool) (pairs : List (K × V)) (first last : MapView K V H)
    → FoldsTo (λ before pair after. Puts eq before pair.0 pair.1 after) first pairs last
    → FoldsTo (PutsOn eq) (Some first) pairs (Some last)
puts_on eq [] first last is = ap (λ m. Some m) is
puts_on {K = K} {V = V} eq (pair ∷ pairs) first last went = (
  Some went.0,
  λ absent. subst (λ (o : Option V). MatchOption o (Adds eq first pair.0 pair.1 went.0)
      (λ before. (own : K) × Replaces eq first (eq pair.0) (own, before) pair.1 went.0)) absent went.1,
  puts_on eq pairs went.0 last went.2,
)

module _ {K V : Type 0} (eq : K → K → Bool) (IsKey : K → K → Type 0) (IsValue : V → V → Type 0) where
  -- pairs that are made are clones if what makes them returns clones
  all_clones : (post : Bor K → Bor V → Option (K × V) → Type 0)
      → ((key : Bor K) (value : Bor V) (pair : K × V) → post key value (Some pair)
      → IsClonedPair eq IsKey IsValue (key.now, value.now) pair)
      → (es fs : List (K × V)) → AllZip (IsMadeOf post) es fs → AllZip (IsClonedPair eq IsKey IsValue) es fs
  all_clones post is [] [] made = tt
  all_clones post is [] (f ∷ fs) made = absurd made
  all_clones post is (e ∷ es) [] made = absurd made
  all_clones post is (e ∷ es) (f ∷ fs) made = (
    subst (λ (p : K × V). IsClonedPair eq IsKey IsValue p f) made.0.2 (is made.0.0 made.0.1 f made.0.3),
    all_clones post is es fs made.1,
  )

module _ {K V H : Type 0} (eq : K → K → Bool) (IsKey : K → K → Type 0) (IsValue : V → V → Type 0) where
  -- some pairs of a map are left, and clones of the others were put into another map in turn
  pub record IsCloning (own first now : MapView K V H) (left : List (K × V)) : Type 0 where
    pub seen : List (K × V)
    pub pairs : List (K × V)
    pub all : own.entries ≡ seen ++ left
    pub clones : AllZip (IsClonedPair eq IsKey IsValue) seen pairs
    pub puts : PutsAll eq first pairs now

  pub none_cloned : (own first : MapView K V H) → IsEmpty first → IsCloning own first first own.entries
  none_cloned own first empty =
      let unique : IsUnique eq first = subst (λ (es : List (K × V)). IsDistinct eq (keys_of es)) (sym empty) (none_equal eq) in
      record { seen = []; pairs = []; all = refl; clones = tt; puts = none_put eq first unique }

  -- a map with a pair left isn't empty
  pub some_left : (own first now : MapView K V H) (left rest : List (K × V)) (pair : K × V) → IsCloning own first now left
      → left ≡ pair ∷ rest → IsEmpty own → ⊥
  some_left own first now left rest pair so_far is empty =
      has_pair so_far.seen rest pair (sym (so_far.all ∙ ap (λ (l : List (K × V)). so_far.seen ++ l) is) ∙ empty)

  pub one_more_cloned : (own first mid new : MapView K V H) (left rest : List (K × V)) (pair clone : K × V)
      → IsCloning own first mid left → left ≡ pair ∷ rest → IsClonedPair eq IsKey IsValue pair clone
      → Puts eq mid clone.0 clone.1 new → IsCloning own first new rest
  one_more_cloned own first mid new left rest pair clone so_far is cloned put = record {
    seen = so_far.seen ++ pair ∷ [];
    pairs = so_far.pairs ++ clone ∷ [];
    all = so_far.all ∙ ap (λ (l : List (K × V)). so_far.seen ++ l) is ∙ sym (append_assoc so_far.seen (pair ∷ []) rest);
    clones = AllZip-push (IsClonedPair eq IsKey IsValue) so_far.seen so_far.pairs pair clone so_far.clones cloned;
    puts = one_more_put eq first mid new so_far.pairs clone so_far.puts put;
  }

  -- a map with clones of all pairs, in some order
  cloned_as : IsEquivalence eq → (IsHasher : H → H → Type 0) (own now : MapView K V H) (pairs : List (K × V))
      → AllZip (IsClonedPair eq IsKey IsValue) own.entries pairs → IsUnique eq own → IsPermutation pairs now.entries
      → IsHasher own.hasher now.hasher → now.minimum ≡ min own.minimum (2 ^ 63) → now.maximum ≡ 2 ^ 63
      → IsClone eq IsKey IsValue IsHasher own now
  cloned_as laws IsHasher own now pairs clones unique moved copied minimum maximum =
      let IsPair = IsClonedPair eq IsKey IsValue in
      let distinct = distinct_made eq laws IsPair (λ x y clone. clone.0.1) own.entries pairs clones unique in
      let IsSame : K → K → Type 0 = λ x y. IsKey x y × (eq x y ≡ true) in
      record {
        pairs = pairs;
        clones = clones;
        entries = moved;
        len = length_permutation pairs now.entries moved ∙ sym (length_all_zip IsPair own.entries pairs clones);
        gets = λ key. subst (λ (o : Option V). MatchOption (get eq own key) (o ≡ None) (λ value. IsSomeAnd o (IsValue value)))
            (sym (lookup_permuted eq laws key pairs now.entries distinct moved)) (lookup_clone IsSame IsValue (eq key)
            (λ x y same. laws.symm key y ∙ sym (laws.congr x y key same.1) ∙ laws.symm x key) own.entries pairs clones);
        unique = distinct_permuted eq laws pairs now.entries moved distinct;
        hasher = copied;
        minimum = minimum;
        maximum = maximum;
      }

  -- if none is left, the other map has clones of all
  pub cloned : IsEquivalence eq → (IsHasher : H → H → Type 0) (own first now : MapView K V H) (left : List (K × V)) (clone : H)
      → IsCloning own first now left → left ≡ [] → IsUnique eq own → IsEmpty first → IsHasher own.hasher clone
      → first.hasher ≡ clone → first.minimum ≡ min own.minimum (2 ^ 63) → first.maximum ≡ 2 ^ 63
      → IsClone eq IsKey IsValue IsHasher own now
  cloned laws IsHasher own first now left clone so_far over unique empty copied made minimum maximum =
      let pairs = so_far.pairs in
      let whole : so_far.seen ≡ own.entries =
      sym (so_far.all ∙ ap (λ (l : List (K × V)). so_far.seen ++ l) over ∙ append-nil so_far.seen) in
      let clones : AllZip (IsClonedPair eq IsKey IsValue) own.entries pairs =
      subst (λ (l : List (K × V)). AllZip (IsClonedPair eq IsKey IsValue) l pairs) whole so_far.clones in
      let distinct =
      distinct_made eq laws (IsClonedPair eq IsKey IsValue) (λ x y clone. clone.0.1) own.entries pairs clones unique in
      let filled = stays_filled eq laws pairs first so_far.puts.between distinct empty
      (puts_on eq pairs first so_far.puts.between so_far.puts.in_turn) in
      let stays = stays_after eq (record first { entries = pairs }) so_far.puts.between now filled so_far.puts.stays in
      cloned_as laws IsHasher own now pairs clones unique stays.entries
      (subst (λ (h : H). IsHasher own.hasher h) (sym (stays.kept.hasher ∙ made)) copied) (stays.kept.minimum ∙ minimum)
      (stays.kept.maximum ∙ maximum)

  -- a map whose pairs are clones
  pub cloned_slots : IsEquivalence eq → (IsHasher : H → H → Type 0) (post : Bor K → Bor V → Option (K × V) → Type 0)
      (own now : MapView K V H) (hasher : H)
      → ((key : Bor K) (value : Bor V) (pair : K × V) → post key value (Some pair)
      → IsClonedPair eq IsKey IsValue (key.now, value.now) pair)
      → AreMadeOf post own.entries now.entries → IsUnique eq own → IsHasher own.hasher hasher → now.hasher ≡ hasher
      → now.minimum ≡ min own.minimum (2 ^ 63) → now.maximum ≡ 2 ^ 63 → IsClone eq IsKey IsValue IsHasher own now
  cloned_slots laws IsHasher post own now hasher is made unique copied same minimum maximum =
      cloned_as laws IsHasher own now made.pairs (all_clones eq IsKey IsValue post is own.entries made.pairs made.made) unique made.all
      (rw same copied) minimum maximum

  -- in a table with another minimum
  pub lowered : (IsHasher : H → H → Type 0) (own : MapView K V H) (t s : TableView K V H) (first left : ℕ)
      → IsClone eq IsKey IsValue IsHasher (record own { minimum = first }) (map_of t)
      → s ≡ record t { arrays = with_minimum t.arrays (min left t.arrays.maximum) } → left ≡ own.minimum
      → IsClone eq IsKey IsValue IsHasher own (map_of s)
  lowered IsHasher own t s first left copy is same = rw is (record {
    pairs = copy.pairs;
    clones = copy.clones;
    entries = copy.entries;
    len = copy.len;
    gets = copy.gets;
    unique = copy.unique;
    hasher = copy.hasher;
    minimum = λ i. min (same i) (copy.maximum i);
    maximum = copy.maximum;
  })
