-- What a step of an iterator over pairs in LRU order leaves.
use Rattle.bucket_table.proofs.Words.{BucketView, List, Place, ap, arith, flattened, length, live_pair, live_pairs, map, pairs_ahead}
use Rattle.bucket_table.proofs.Words.{slot_at, sym, ℕ, ◌++◌, ◌∙◌, ◌≡◌}
use Rattle.std.proofs.lemmas.List.{drop_all}
use Rattle.std.proofs.lemmas.List.Elements.{filter_map-append}
use Rattle.bucket_slots.specs.ByUse.{pairs_by_use, slots_by_use}
use Rattle.bucket_table.specs.Walking.ByUse.{own_left}

-- at first all pairs of the bucket are left
pub left_at_first : {K V : Type 0} (bucket : BucketView K V) (slots : List ℕ) (at : Place) → length bucket.own ≡ 32
    → slots ≡ slots_by_use 32 bucket.listed → at ≡ record { block = 0; pos = 31 }
    → own_left bucket slots ++ pairs_ahead bucket at ≡ pairs_by_use bucket
left_at_first bucket slots at long slots_are at_is =
    let own = map (slot_at bucket.own) (slots_by_use 32 bucket.listed) in
    let chain = ap (λ ahead. live_pairs (ahead ++ flattened bucket.chain)) (drop_all 32 bucket.own (omega (arith, long))) in
    rw (slots_are, at_is, long)
    (ap (λ pairs. live_pairs own ++ pairs) chain ∙ sym (filter_map-append live_pair own (flattened bucket.chain)))
