-- Calls of a function with each pair, one after another.
use Rattle.bucket_slots.proofs.Words.{Bor, BucketView, CallsEach, List, MovesToNext, Place, Some, [], ap, append-nil, append_assoc}
use Rattle.bucket_slots.proofs.Words.{arith, drop_all, filter_map-append, flattened, length, live_pairs}
use Rattle.bucket_slots.proofs.Words.{live_pair, null_place, pairs_ahead, pairs_in, refl, slot_in, Slot, subst, sym, ◌++◌, ◌∙◌, ◌∷◌, ◌≡◌}

module _ {S K V : Type 0} (step : S → Bor K → Bor V → S → Type 0) where
  -- it was called with some pairs so far, and these and the remaining ones are all
  pub record IsAmid (first : S) (all : List (K × V)) (now : S) (rest : List (K × V)) : Type 0 where
    pub done : List (K × V)
    pub parts : all ≡ done ++ rest
    pub calls : CallsEach step first done now

  -- none yet
  pub sets_out : (first : S) (bucket : BucketView K V) (at : Place) → at ≡ null_place
      → IsAmid first (pairs_in bucket) first (pairs_ahead bucket at)
  sets_out first bucket at is = record { done = []; parts = ap (λ p. pairs_ahead bucket p) (sym is); calls = refl }

  -- some pairs, and then others
  pub calls_joined : (first between last : S) (pairs others : List (K × V)) → CallsEach step first pairs between
      → CallsEach step between others last → CallsEach step first (pairs ++ others) last
  calls_joined first between last [] others calls more = subst (λ (s : S). CallsEach step s others last) calls more
  calls_joined first between last (pair ∷ pairs) others (o, v, is, (next, call, calls)) more =
      (o, v, is, (next, call, calls_joined next between last pairs others calls more))

  -- the same pairs
  pub calls_same : (first last : S) (pairs others : List (K × V)) → pairs ≡ others → CallsEach step first pairs last
      → CallsEach step first others last
  calls_same first last pairs others same calls = subst (λ (ps : List (K × V)). CallsEach step first ps last) same calls

  -- one more
  pub one_more : (first now next : S) (all rest later : List (K × V)) (own : Bor K) (value : Bor V) → IsAmid first all now rest
      → rest ≡ (own.now, value.now) ∷ later → step now own value next → IsAmid first all next later
  one_more first now next all rest later own value amid ahead call = record {
    done = amid.done ++ (own.now, value.now) ∷ [];
    parts = amid.parts ∙ ap (λ l. amid.done ++ l) ahead ∙ sym (append_assoc amid.done ((own.now, value.now) ∷ []) later);
    calls = calls_joined first now next amid.done ((own.now, value.now) ∷ []) amid.calls (own, value, refl, (next, call, refl));
  }

  pub goes_on : (first now next : S) (all : List (K × V)) (bucket : BucketView K V) (at to : Place) (own : Bor K) (value : Bor V)
      → IsAmid first all now (pairs_ahead bucket at) → MovesToNext bucket at to → live_pair (slot_in bucket to) ≡ Some (own.now, value.now)
      → step now own value next → IsAmid first all next (pairs_ahead bucket to)
  goes_on first now next all bucket at to own value amid moves read call =
      let same : moves.pair ≡ (own.now, value.now) = (let is : Some moves.pair ≡ Some (own.now, value.now) = sym moves.here ∙ read in cc) in
      one_more first now next all (pairs_ahead bucket at) (pairs_ahead bucket to) own value amid
      (moves.ahead ∙ ap (λ p. p ∷ pairs_ahead bucket to) same) call

  -- it was called with the own slots' pairs, and those of the chain are ahead
  pub own_called : (first now : S) (bucket : BucketView K V) (at : Place) (own : List (Slot K V)) → own ≡ bucket.own → length own ≡ 32
      → at ≡ record { block = 0; pos = 31 } → CallsEach step first (live_pairs own) now
      → IsAmid first (pairs_in bucket) now (pairs_ahead bucket at)
  own_called first now bucket at own is long stands calls = record {
    done = live_pairs own;
    parts = filter_map-append live_pair bucket.own (flattened bucket.chain)
        ∙ rw (is, stands, drop_all 32 bucket.own (omega (arith, rw is at long))) refl;
    calls = calls;
  }

  -- and if there is no chain, these are all
  pub own_alone : (first now : S) (bucket : BucketView K V) (own : List (Slot K V)) → own ≡ bucket.own → bucket.chain ≡ []
      → CallsEach step first (live_pairs own) now → CallsEach step first (pairs_in bucket) now
  own_alone first now bucket own is none calls = rw (none, append-nil bucket.own, ← is) calls

  -- all
  pub done : (first now : S) (all rest : List (K × V)) → IsAmid first all now rest → rest ≡ [] → CallsEach step first all now
  done first now all rest amid none =
      subst (λ (l : List (K × V)). CallsEach step first l now)
      (sym (amid.parts ∙ ap (λ l. amid.done ++ l) none ∙ append-nil amid.done)) amid.calls
