-- Many keys inserted into a set in turn: one more of them.
use Rattle.std.proofs.Common.{◌≡◌, ◌||◌, Bool, true, false, cond, Option, Some, List, [], ◌∷◌, ◌++◌, is_some}
use Rattle.std.proofs.Common.{refl, sym, ap, subst, ◌∙◌}
use Rattle.std.specs.Prelude.{MatchBool, Ok, ◌^◌}
use Rattle.std.specs.Cmp.{IsEquivalence}
use Rattle.std.specs.List.{FoldsTo, list_any}
use Rattle.std.proofs.lemmas.List.Folds.{list_any-append}
use Rattle.std.proofs.slice.Lists.{chained_more}
use Rattle.collections.specs.Changes.{Adds, Keeps, Stays}
use Rattle.collections.specs.Collecting.{PutsKey, PutsKeys, empty_map}
use Rattle.collections.specs.Maps.{IsEmpty, IsUnique, MapView, contains, get}
use Rattle.collections.specs.SetChanges.{SetAdds}
use Rattle.collections.proofs.Collecting.{keeps_then, new_is, stays_same}
use Rattle.collections.proofs.Lookups.{lookup_same}
use Rattle.collections.proofs.Staying.{adds_after, stays_after}

or_false : (a : Bool) → (a || false) ≡ a
or_false true = refl
or_false false = refl

or_true : (a : Bool) → (a || true) ≡ true
or_true true = refl
or_true false = refl

or_assoc : (a b c : Bool) → ((a || b) || c) ≡ (a || (b || c))
or_assoc true b c = refl
or_assoc false b c = refl

-- what holds if another statement does equals the disjunction of both
same_or : (a b : Bool) → (b ≡ true → a ≡ true) → a ≡ (a || b)
same_or a true so = so refl ∙ sym (or_true a)
same_or a false so = sym (or_false a)

some_or : (b : Bool) (o : Option (Unit {0})) → is_some (cond b (Some tt) o) ≡ (is_some o || b)
some_or true o = sym (or_true (is_some o))
some_or false o = sym (or_false (is_some o))

module _ {K H : Type 0} (eq : K → K → Bool) (laws : IsEquivalence eq) where
  module _ (old new : MapView K (Unit {0}) H) (key : K) where
    -- what an insertion with a truth value as its result did
    pub added_put : (answer : Bool) → SetAdds eq key old (Ok answer) new → PutsKey eq old key new
    added_put true added =
        subst (λ (o : Option (Unit {0})). MatchBool (is_some o) (Stays eq old new) (Adds eq old key tt new)) (sym added.absent) added
    added_put false kept =
        subst (λ (b : Bool). MatchBool b (Stays eq old new) (Adds eq old key tt new)) (sym kept.0) kept.1

    put_cases : {A : Type 0} (there : Bool) → contains eq old key ≡ there → (contains eq old key ≡ true → Stays eq old new → A)
        → (Adds eq old key tt new → A) → MatchBool there (Stays eq old new) (Adds eq old key tt new) → A
    put_cases true is stays adds put = stays is put
    put_cases false is stays adds put = adds put

    put_keeps : PutsKey eq old key new → Keeps eq old new
    put_keeps put = put_cases (contains eq old key) refl (λ is s. s.kept) (λ a. a.kept) put

    -- then the set contains the key, and its earlier keys
    put_contains : (q : K) → PutsKey eq old key new → contains eq new q ≡ (contains eq old q || eq q key)
    put_contains q put = put_cases (contains eq old key) refl
        (λ is s.
        let there : eq q key ≡ true → contains eq old q ≡ true =
        λ hit. ap (λ (o : Option (Unit {0})). is_some o) (lookup_same eq laws q key old.entries hit) ∙ is in
        ap (λ (o : Option (Unit {0})). is_some o) (s.gets q) ∙ same_or (contains eq old q) (eq q key) there)
        (λ a. ap (λ (o : Option (Unit {0})). is_some o) (a.updates q)
        ∙ ap (λ (b : Bool). is_some (cond b (Some tt) (get eq old q))) (laws.symm key q)
        ∙ some_or (eq q key) (get eq old q))
        put

  -- the same after a set moved its keys
  put_after : (old between new : MapView K (Unit {0}) H) → Stays eq old between → (key : K) → PutsKey eq between key new
      → PutsKey eq old key new
  put_after old between new stays key put =
      let same : contains eq between key ≡ contains eq old key = ap (λ (o : Option (Unit {0})). is_some o) (stays.gets key) in
      from (contains eq between key) same put
    where
      from : (there : Bool) → there ≡ contains eq old key → MatchBool there (Stays eq between new) (Adds eq between key tt new)
          → PutsKey eq old key new
      from true is next = subst (λ (b : Bool). MatchBool b (Stays eq old new) (Adds eq old key tt new)) is
          (stays_after eq old between new stays next)
      from false is next = subst (λ (b : Bool). MatchBool b (Stays eq old new) (Adds eq old key tt new)) is
          (adds_after eq old between new stays key tt next)

  -- none is put yet
  pub no_key_put : (m : MapView K (Unit {0}) H) → IsUnique eq m → PutsKeys eq m [] m
  no_key_put m unique = record {
    between = m;
    in_turn = refl;
    stays = stays_same eq m unique;
    has = λ q. sym (or_false (contains eq m q));
    kept = (stays_same eq m unique).kept;
  }

  -- one more is put
  pub one_more_key : (old mid new : MapView K (Unit {0}) H) (keys : List K) (key : K) → PutsKeys eq old keys mid → PutsKey eq mid key new
      → PutsKeys eq old (keys ++ key ∷ []) new
  one_more_key old mid new keys key puts put =
      let kept = put_keeps mid new key put in
      record {
        between = new;
        in_turn = chained_more (λ before k after. PutsKey eq before k after) old keys puts.between key new puts.in_turn
            (put_after puts.between mid new puts.stays key put);
        stays = stays_same eq new kept.unique;
        has = λ q. put_contains mid new key q put ∙ ap (λ b. b || eq q key) (puts.has q)
            ∙ or_assoc (contains eq old q) (list_any (eq q) keys) (eq q key)
            ∙ ap (λ b. contains eq old q || b) (ap (λ b. list_any (eq q) keys || b) (sym (or_false (eq q key)))
            ∙ sym (list_any-append (eq q) keys (key ∷ [])));
        kept = keeps_then eq old mid new puts.kept kept;
      }

  -- and the set may move its keys afterwards
  pub keys_then_stay : (old mid new : MapView K (Unit {0}) H) (keys : List K) → PutsKeys eq old keys mid → Stays eq mid new
      → PutsKeys eq old keys new
  keys_then_stay old mid new keys puts stays = record {
    between = puts.between;
    in_turn = puts.in_turn;
    stays = stays_after eq puts.between mid new puts.stays stays;
    has = λ q. ap (λ (o : Option (Unit {0})). is_some o) (stays.gets q) ∙ puts.has q;
    kept = keeps_then eq old mid new puts.kept stays.kept;
  }

  -- a set moved its keys, and then some were inserted
  pub stays_then_keys : (old mid new : MapView K (Unit {0}) H) (keys : List K) → Stays eq old mid → PutsKeys eq mid keys new
      → PutsKeys eq old keys new
  stays_then_keys old mid new keys stays puts =
      let turn = from_before keys puts.between puts.stays puts.in_turn in
      record {
        between = turn.0;
        in_turn = turn.1;
        stays = turn.2;
        has = λ q. puts.has q ∙ ap (λ (o : Option (Unit {0})). is_some o || list_any (eq q) keys) (stays.gets q);
        kept = keeps_then eq old mid new stays.kept puts.kept;
      }
    where
      from_before : (keys : List K) (between : MapView K (Unit {0}) H) → Stays eq between new → FoldsTo (PutsKey eq) mid keys between
          → (b : MapView K (Unit {0}) H) × FoldsTo (PutsKey eq) old keys b × Stays eq b new
      from_before [] between last is = (old, refl, stays_after eq old mid new stays (subst (λ m. Stays eq m new) (sym is) last))
      from_before (k ∷ ks) between last went = (between, (went.0, put_after old mid went.0 stays k went.1, went.2), last)

  -- a set that was made empty; nothing else is known of it
  pub keys_into_new : (first made : MapView K (Unit {0}) H) (keys : List K) → IsEmpty first → first.minimum ≡ 64
      → first.maximum ≡ 2 ^ 63 → (first.slots ≡ 0) × (first.old_slots ≡ 0) → first.bucket_lens ≡ []
      → PutsKeys eq first keys made → PutsKeys eq (empty_map made.hasher) keys made
  keys_into_new first made keys empty minimum maximum slots buckets puts =
      subst (λ (h : H). PutsKeys eq (empty_map h) keys made) (sym puts.kept.hasher)
      (subst (λ m. PutsKeys eq m keys made) (new_is first empty minimum maximum slots buckets) puts)
