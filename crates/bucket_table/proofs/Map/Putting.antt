-- A pair put into a locked bucket of a cache, after an eviction for it, and what that makes of the table in which the bucket was found.
use Rattle.bucket_table.proofs.Words.{AddsPair, All-permutation, All-tail, ArraysView, Bool, BucketView, CACHE, Err, IsAbsent}
use Rattle.bucket_table.proofs.Words.{IsEquivalence, IsHome, IsLocked, IsOneMap, IsPermutation-refl, IsPermutation-trans, KeepsPairs}
use Rattle.bucket_table.proofs.Words.{MapState, None, Ok, Option, Result, Side, Some, TableView, ℕ, ap, arrays_with, bucket_at, bucket_on}
use Rattle.bucket_table.proofs.Words.{buckets_on, false, length, length-set, pairs_of, refl, slots_after_insertion, slots_evicted}
use Rattle.bucket_table.proofs.Words.{slots_touched, subst, true, with_bucket, ◌%◌, ◌<◌, ◌∙◌, ◌∷◌, ◌≡◌}
use Rattle.bucket_slots.specs.Placing.{place_for_next, slots_with}
use Rattle.bucket_table.specs.Map.Finding.{FindsBucket, FindsThen}
use Rattle.bucket_table.specs.Map.Putting.{Goes, Puts, PutsAt, PutsIn, slots_left, slots_put}
use Rattle.bucket_table.specs.declared.hash_table.ResizeRule.TheVariants.{Sampled}
use Rattle.bucket_slots.specs.declared.not_inserted.NotInserted.{NotInserted}
use Rattle.bucket_slots.specs.declared.not_inserted.NotInserted.TheVariants.{Memory, Present}
use Rattle.bucket_table.specs.Map.ByKey.{Evicts}
use Rattle.bucket_table.specs.Map.MapState.{state_of}
use Rattle.bucket_table.specs.Map.Refusing.{IsRefused}
use Rattle.bucket_table.proofs.Map.Inserting.{handed_back}
use Rattle.bucket_table.proofs.Map.LockedSteps.{put_there, with_own}
use Rattle.bucket_table.proofs.Map.LookUps.{searched_absent, searched_found}
use Rattle.bucket_table.proofs.Map.MapSteps.{Leaves, evicted, inserted, set_again, touched, unchanged}
use Rattle.bucket_table.proofs.Map.TakeSteps.{absent_before}
use Rattle.bucket_table.proofs.Scripts.CallSteps.{then_added, then_kept}
use Rattle.bucket_table.proofs.Views.SideChanges.{buckets_on-arrays_with, changeable_locked}
use Rattle.bucket_table.proofs.Map.PutSlots.{after_insertion-cache, touched_own}

module _ {K V H : Type 0} where
  others_after : (a b d : MapState K V H) → b ≡ record a { pairs = b.pairs } → d ≡ record b { pairs = d.pairs }
      → d ≡ record a { pairs = d.pairs }
  others_after a b d first then = then ∙ ap (λ (m : MapState K V H). record m { pairs = d.pairs }) first

  -- a key that is absent stays absent after a pair is removed
  absent_left : (eq : K → K → Bool) (key : K) (old left : MapState K V H) (gone : Option (K × V)) → Evicts {E = ℕ} old (Ok gone) left
      → IsAbsent (λ own. eq own key) old.pairs → IsAbsent (λ own. eq own key) left.pairs
  absent_left eq key old left None keeps absent =
      All-permutation (λ (p : K × V). eq p.0 key ≡ false) old.pairs left.pairs keeps.pairs absent
  absent_left eq key old left (Some pair) takes absent =
      let P : K × V → Type 0 = λ p. eq p.0 key ≡ false in
      All-tail P pair left.pairs (All-permutation P old.pairs (pair ∷ left.pairs) takes.pairs absent)

  -- the eviction, then one more pair, then another order
  put_over : (eq : K → K → Bool) (key : K) (value : V) (old left added new : MapState K V H) (gone : Option (K × V))
      → Evicts {E = ℕ} old (Ok gone) left → AddsPair left (key, value) added → KeepsPairs added new → IsAbsent (λ own. eq own key) old.pairs
      → Puts eq key value old (Ok gone) new
  put_over eq key value old left added new None keeps adds moved absent =
      let more = then_added old left added (key, value) keeps adds in (
        absent,
        record {
          pairs = IsPermutation-trans ((key, value) ∷ old.pairs) added.pairs new.pairs more.pairs moved.pairs;
          others = others_after old added new more.others moved.others;
        },
      )
  put_over eq key value old left added new (Some pair) takes adds moved absent = (
    absent,
    record {
      rest = left.pairs;
      before = takes.pairs;
      after = record {
        pairs = IsPermutation-trans ((key, value) ∷ left.pairs) added.pairs new.pairs adds.pairs moved.pairs;
        others = others_after old added new (others_after old left added takes.others adds.others) moved.others;
      };
    },
  )

module _ {K V H : Type 0} {eq : K → K → Bool} (laws : IsEquivalence eq) (hash : H → K → ℕ) (kind : ℕ) {hasher : H} {a : ArraysView K V}
    (side : Side) (i : ℕ) (one : IsOneMap eq (hash hasher) a) (locked : IsLocked a side i) where
  abbrev state : ArraysView K V → MapState K V H
  state b = state_of kind (record { hasher = hasher; arrays = b })

  abbrev was : BucketView K V
  was = bucket_at (buckets_on a side) i

  abbrev LeavesWith : (MapState K V H → Type 0) → BucketView K V → Type 0
  LeavesWith Changes b = Leaves laws hash kind side i one (changeable_locked a side i locked) Changes b

  -- a bucket that changes once more
  then_leaves : (First Then : MapState K V H → Type 0) (b : BucketView K V) (change : BucketView K V → BucketView K V)
      (x : LeavesWith First b)
      → Leaves laws hash kind {hasher = hasher} {a = arrays_with a side i b} side i x.one_map
      (changeable_locked (arrays_with a side i b) side i (x.locked locked)) Then
      (change (bucket_at (buckets_on (arrays_with a side i b) side) i))
      → LeavesWith Then (change b)
  then_leaves First Then b change x y =
      let z = rw (put_there a side i b locked.within) at y in
      let again = set_again a side i b (change b) in
      record {
        one_map = subst (λ (c : ArraysView K V). IsOneMap eq (hash hasher) c) again z.one_map;
        map = subst (λ (c : ArraysView K V). Then (state c)) again z.map;
        within = subst (λ (c : ArraysView K V). i < length (buckets_on c side)) again z.within;
        locked = λ held. subst (λ (c : ArraysView K V). IsLocked c side i) again (z.locked (x.locked held));
      }

  leaves_left : (gone : Option (K × V)) → Goes was gone → LeavesWith (Evicts {E = ℕ} (state a) (Ok gone)) (slots_left was gone)
  leaves_left None went = unchanged laws hash kind side i one (changeable_locked a side i locked) _
      (record { pairs = IsPermutation-refl (pairs_of a); others = refl })
  leaves_left (Some pair) went =
      evicted laws hash kind side i one (changeable_locked a side i locked) (Some pair) (slots_evicted was) went.1 refl tt

  puts : (gone : Option (K × V)) (keeps : Bool) (key : K) (value : V) (h : ℕ) → h ≡ hash hasher key
      → IsHome (length (buckets_on a side)) h i → IsAbsent (λ own. eq own key) (pairs_of a) → kind ≡ CACHE → Goes was gone
      → LeavesWith (Puts eq key value (state a) (Ok gone)) (slots_put keeps (slots_left was gone) (key, value) (h % 256))
  puts gone keeps key value h own home absent cache went =
      let b = slots_left was gone in
      let left = arrays_with a side i b in
      let x = leaves_left gone went in
      let at_home : IsHome (length (buckets_on left side)) h i = rw (buckets_on-arrays_with a side i b, length-set) home in
      let y = then_leaves _ (AddsPair (state left) (key, value)) b
      (λ s. slots_after_insertion kind (λ _. true) s (key, value) (h % 256)) x
      (inserted laws hash kind side i x.one_map (changeable_locked left side i (x.locked locked)) (λ _. true) (key, value) h own at_home
      (absent_left eq key (state a) (state left) gone x.map absent)) in
      let d = slots_after_insertion kind (λ _. true) b (key, value) (h % 256) in
      let added = arrays_with a side i d in
      let at = place_for_next b in
      let z = then_leaves _ (KeepsPairs (state added)) d (λ s. slots_touched keeps s at) y
      (touched laws hash kind side i y.one_map (changeable_locked added side i (y.locked locked)) keeps at) in
      let is : d ≡ slots_with b (key, value) (h % 256) = after_insertion-cache kind (λ _. true) b (key, value) (h % 256) cache in
      let all : LeavesWith (Puts eq key value (state a) (Ok gone)) (slots_touched keeps d at) = record {
        one_map = z.one_map;
        map = put_over eq key value (state a) (state left) (state added) _ gone x.map y.map z.map absent;
        within = z.within;
        locked = z.locked;
      } in
      subst (λ (s : BucketView K V). LeavesWith (Puts eq key value (state a) (Ok gone)) s)
      (touched_own keeps was gone (key, value) (h % 256) went)
      (subst (λ (s : BucketView K V). LeavesWith (Puts eq key value (state a) (Ok gone)) (slots_touched keeps s at)) is all)

  -- the pair is inserted, if its key was absent
  pub absent_put : (gone : Option (K × V)) (b : BucketView K V) (keeps : Bool) (key : K) (value : V) (h : ℕ) → h ≡ hash hasher key
      → IsHome (length (buckets_on a side)) h i → IsAbsent (λ own. eq own key) (pairs_of a) → kind ≡ CACHE → Goes was gone
      → b ≡ slots_put keeps (slots_left was gone) (key, value) (h % 256) → LeavesWith (Puts eq key value (state a) (Ok gone)) b
  absent_put gone b keeps key value h own home absent cache went is = rw is (puts gone keeps key value h own home absent cache went)

  pub put_leaves : (r : Result (Option (K × V)) (NotInserted K V)) (b : BucketView K V) (keeps : Bool) (key : K) (value : V) (h : ℕ)
      → ((own : K) → eq own key ≡ true → hash hasher own ≡ h) → h ≡ hash hasher key → IsHome (length (buckets_on a side)) h i
      → kind ≡ CACHE → PutsIn eq keeps key value (h % 256) was r b → LeavesWith (Puts eq key value (state a) r) b
  put_leaves (Ok gone) b keeps key value h alike own home cache x =
      let absent = searched_absent (λ k. eq k key) h (hash hasher) alike a side _ i one.placed locked home refl x.0 in
      rw x.2 (puts gone keeps key value h own home absent cache x.1)
  put_leaves (Err (Present k v)) b keeps key value h alike own home cache x =
      let found = searched_found (λ k. eq k key) a side _ (h % 256) i x.2.0 refl x.2.1 in
      rw x.3 (unchanged laws hash kind side i one (changeable_locked a side i locked) _
      ((x.0, x.1, (found.0, found.2)), record { pairs = IsPermutation-refl (pairs_of a); others = refl }))
  put_leaves (Err (Memory k v)) b keeps key value h alike own home cache x = absurd x

module _ {K V H : Type 0} where
  -- the same, if the map was the same before
  pub then_put : (eq : K → K → Bool) (key : K) (value : V) (old between new : MapState K V H)
      (r : Result (Option (K × V)) (NotInserted K V)) → KeepsPairs old between → Puts eq key value between r new
      → Puts eq key value old r new
  then_put eq key value old between new (Ok None) keeps x =
      (absent_before (λ own. eq own key) old between keeps x.0, then_added old between new (key, value) keeps x.1)
  then_put eq key value old between new (Ok (Some gone)) keeps x = (
    absent_before (λ own. eq own key) old between keeps x.0,
    record {
      rest = x.1.rest;
      before = IsPermutation-trans old.pairs between.pairs (gone ∷ x.1.rest) keeps.pairs x.1.before;
      after = record { pairs = x.1.after.pairs; others = others_after old between new keeps.others x.1.after.others };
    },
  )
  then_put eq key value old between new (Err why) keeps x =
      (handed_back eq key value old between why keeps x.0, then_kept old between new keeps x.1)

  -- a bucket found for the hash of a key, and the pair put there
  pub found_put : (eq : K → K → Bool) (kind h n : ℕ) (keeps : Bool) (key : K) (value : V) (old between new : TableView K V H)
      (side : Side) (i : ℕ) (r : Result (Option (K × V)) (NotInserted K V)) (left : BucketView K V) → h ≡ n
      → FindsBucket Sampled kind h old side i between → PutsIn eq keeps key value (h % 256) (bucket_on between.arrays side i) r left
      → new ≡ with_bucket between side i left
      → FindsThen Sampled kind n old (λ answer table. PutsAt keeps (key, value) (n % 256) table r answer new)
  found_put eq kind h n keeps key value old between new side i (Ok out) left own found x is =
      let put = is ∙ ap (λ (b : BucketView K V). with_bucket between side i b) x.2 in
      rw (← own) (record { answer = Ok (side, i); between = between; found = found; done = (x.1, put) })
  found_put eq kind h n keeps key value old between new side i (Err (Present k v)) left own found x is =
      let same : new ≡ between = is ∙ with_own between.hasher between.arrays side i left x.3 in
      rw (← own) (record { answer = Ok (side, i); between = between; found = found; done = same })
  found_put eq kind h n keeps key value old between new side i (Err (Memory k v)) left own found x is = absurd x

  -- no bucket found, and so no pair put
  pub refused_put : (kind n : ℕ) (keeps : Bool) (pair : K × V) (old new : TableView K V H) (why : NotInserted K V)
      → IsRefused kind n old new → FindsThen Sampled kind n old (λ answer table. PutsAt keeps pair (n % 256) table (Err why) answer new)
  refused_put kind n keeps pair old new (Present k v) refused =
      record { answer = Err tt; between = new; found = refused; done = refl }
  refused_put kind n keeps pair old new (Memory k v) refused = record { answer = Err tt; between = new; found = refused; done = refl }
