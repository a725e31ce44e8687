-- A walk that vacates each slot it visits.
use Rattle.bucket_table.proofs.Words.{BucketView, IsBucketOf, Place, Some, [], ap, live_from_pair, live_pair, pairs_ahead, pairs_in}
use Rattle.bucket_table.proofs.Words.{slot_in, slots_vacated, sym, ℕ, ◌∙◌, ◌∷◌, ◌≡◌}
use Rattle.bucket_slots.proofs.RoomAfter.{pairs_ahead-slots_vacated}
use Rattle.bucket_slots.proofs.SlotFronts.{pairs_vacated}

-- if all pairs are ahead of the pointer: its step, and its slot vacated
pub walked : {K V : Type 0} (kind : ℕ) (s : BucketView K V) (old new : Place) (p : K × V) → IsBucketOf kind s
    → pairs_in s ≡ pairs_ahead s old → live_pair (slot_in s new) ≡ Some p → pairs_ahead s old ≡ p ∷ pairs_ahead s new
    → (pairs_in s ≡ p ∷ pairs_in (slots_vacated s new))
    × (pairs_in (slots_vacated s new) ≡ pairs_ahead (slots_vacated s new) new)
walked kind s old new p laws all here ahead =
    let left = pairs_vacated kind s new p laws here [] (all ∙ ahead) in
    let same = pairs_ahead-slots_vacated kind s new laws (live_from_pair (slot_in s new) p here) in
    (all ∙ ahead ∙ ap (λ ps. p ∷ ps) (sym left), left ∙ sym same)
