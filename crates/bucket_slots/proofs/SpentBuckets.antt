-- A bucket that is killed and holds nothing.
use Rattle.bucket_slots.proofs.Words.{All, All-head, BucketView, IsBucket, IsTrue, List, Slot, [], all_free, ap, empty_bucket, free}
use Rattle.bucket_slots.proofs.Words.{is_live, length, refl, replicate, slot_at, sym, true, ℕ, ◌∙◌, ◌∷◌, ◌≡◌}
use Rattle.bucket_slots.proofs.FreeEnds.{no_live}

module _ {K V : Type 0} where
  free_slots : (slots : List (Slot K V)) → all_free slots ≡ true → slots ≡ replicate (length slots) free
  free_slots [] vacant = refl
  free_slots (free ∷ slots) vacant = ap (λ l. free ∷ l) (free_slots slots vacant)
  free_slots (slot ∷ slots) vacant = cc

  none_listed : (own : List (Slot K V)) (listed : List ℕ) → all_free own ≡ true
      → All (λ slot. IsTrue (is_live (slot_at own slot))) listed → listed ≡ []
  none_listed own [] vacant live = refl
  none_listed own (slot ∷ listed) vacant live =
      absurd (no_live own slot vacant (All-head (λ at. IsTrue (is_live (slot_at own at))) slot listed live))

  pub spent_is : (kind chained : ℕ) (s t : BucketView K V) → s ≡ t → IsBucket kind s chained → s.killed ≡ true → all_free s.own ≡ true
      → s.chain ≡ [] → t ≡ record empty_bucket { killed = true }
  spent_is kind chained s t is kept killed vacant none =
      let own : s.own ≡ replicate 32 free = free_slots s.own vacant ∙ ap (λ n. replicate n free) kept.own_long in
      let listed = none_listed s.own s.listed vacant kept.listed_live in
      sym is ∙ ap (λ x. record s { own = x }) own ∙ ap (λ x. record s { own = replicate 32 free; chain = x }) none
      ∙ ap (λ x. record s { own = replicate 32 free; chain = []; listed = x }) listed
      ∙ ap (λ x. record empty_bucket { killed = x }) killed
