use Rattle.bucket_slots.proofs.Words.{ap, place_matched, refl, set, slots_with, sym, ◌%◌, ◌∙◌}
use Rattle.bucket_slots.specs.ArrayView.{bucket_at}
use Rattle.bucket_slots.proofs.Digests.{IsDigest-put, after_put, set_at}
use Rattle.bucket_slots.proofs.bucket_array.BucketArray.insert_absent.Goals as goal

pub invariant_of-self : goal.invariant_of-self
invariant_of-self g c =
    let b = bucket_at c.self.inside.buckets c.args.index in
    let left = slots_with b (c.args.key, c.args.value) (c.args.hash % 256) in
    let is = c.self.invariant.1 c.args.index c.in-Some.ensures.said in
    rw c.fill-pos.ensures.slots (set_at _ _ c.self.inside.buckets c.args.index _ _ c.self.invariant (rw c.self.view_is c.requires)
    c.fill.ensures.others left
    (λ said. (
      is.0,
      IsDigest-put _ _ b _ (c.args.key, c.args.value) (c.args.hash % 256) is.1 c.fill-pos.ensures.place
          c.fill-pos.ensures.short c.fill.ensures.live c.fill.ensures.bytes,
    )))

pub returns-clause-put : goal.returns-clause-put
returns-clause-put g c =
    rw (← c.self.view_is) (c.fill-pos.ensures.slots
    ∙ ap (set c.self.inside.buckets c.args.index) (sym (after_put g.row.TYPE (g.G.Generation.keeps c.args.generation.now)
    (bucket_at c.self.inside.buckets c.args.index) (c.args.key, c.args.value) (c.args.hash % 256)
    (rw (← c.get.ensures) (sym c.has_marks.ensures ∙ c.if-has_marks.false)))))

pub returns-in-Some-find_among-clause-answer : goal.returns-in-Some-find_among-clause-answer
returns-in-Some-find_among-clause-answer g c =
    let b = bucket_at c.self.inside.buckets c.args.index in
    let key = ap (λ key. place_matched (λ own. g.K.PartialEq.eq own key) (c.args.hash % 256) b) c.new.ensures.key in
    rw (← c.self.view_is) (refl, refl, (c.in-Some-find_among._found.0, sym key ∙ sym c.in-Some-find_among.ensures.place))

pub returns-clause-answer : goal.returns-clause-answer
returns-clause-answer g c =
    let b = bucket_at c.self.inside.buckets c.args.index in
    let key = ap (λ key. place_matched (λ own. g.K.PartialEq.eq own key) (c.args.hash % 256) b) c.new.ensures.key in
    rw (← c.self.view_is) (sym key ∙ sym c.in_default-find_among.ensures.place)
