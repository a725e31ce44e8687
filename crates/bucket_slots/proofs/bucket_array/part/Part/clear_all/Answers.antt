use Rattle.bucket_slots.proofs.Words.{All, [], ap, arith, empty_bucket, get_or_read, length, length-set, replicate, ℕ}
use Rattle.bucket_slots.proofs.Words.{◌<◌, ◌∙◌, ◌≡◌}
use Rattle.bucket_slots.proofs.ArrayParts.{set_one_more}
use Rattle.bucket_slots.proofs.EmptyPlaces.{all_one}
use Rattle.std.proofs.lemmas.List.{length-replicate}
use Rattle.std.proofs.lemmas.List.Elements.{All-get_or, All-set}
use Rattle.bucket_slots.proofs.bucket_array.part.Part.clear_all.Goals as goal

pub loop-index-preserved : goal.loop-index-preserved
loop-index-preserved g c =
    let items = c.loop-index.parts.items in
    let i = c.loop-index.index in
    let kept = c.loop-index.invariant in
    let there : i < length items =
    omega (arith, kept.len, c.loop-index-test.true, c.len-index-end.ensures, c.args.parts.now.ok.0) in
    let here = get_or_read items i c.index_mut.result.now there c.index_mut.ensures.value [] in
    let is : (n : ℕ) → All (λ part. length part ≡ n) c.args.parts.now.items → c.clear.new.self ≡ replicate n empty_bucket =
    λ n all. c.clear.ensures
    ∙ ap (λ m. replicate m empty_bucket) (ap length here ∙ All-get_or (λ part. length part ≡ n) items i [] there (kept.all n all)) in
    record {
      len = length-set items i c.clear.new.self ∙ kept.len;
      all = λ n all. All-set (λ part. length part ≡ n) items i c.clear.new.self
          (ap length (is n all) ∙ length-replicate n empty_bucket) (kept.all n all);
      empty = λ n all. rw (is n all) (set_one_more items (replicate n empty_bucket) [] i there (kept.empty n all));
    }

pub returns : goal.returns
returns g c = λ n all.
    let kept = c.loop-index.invariant in
    all_one c.loop-index.parts.items (replicate n empty_bucket) []
    (λ i below. kept.empty n all i (omega
    (arith, below, kept.len, c.loop-index-test.false, c.len-index-end.ensures, c.args.parts.now.ok.0)))
    ∙ ap (λ m. replicate m (replicate n empty_bucket)) kept.len
