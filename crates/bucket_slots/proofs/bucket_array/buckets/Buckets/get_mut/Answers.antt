use Rattle.bucket_slots.proofs.Words.{ap, arith, empty_bucket, get_or, get_or_read, inl, length, refl, set, sym, ◌<◌, ◌∙◌}
use Rattle.bucket_slots.proofs.ArrayParts.{few_parts, few_view, few_with, len_of}
use Rattle.bucket_slots.proofs.bucket_array.buckets.Buckets.get_mut.Goals as goal

pub invariant_of-self-lent : goal.invariant_of-self-lent
invariant_of-self-lent g c w =
    let short = c.is_short.ensures.0 c.if-is_short.true in
    let few = few_parts c.self.invariant.0 (rw (len_of c.self.invariant.0 ∙ ap length c.self.view_is) short) in
    (inl (few_with few c.args.index w), c.self.invariant.1)

pub returns-then-is_short : goal.returns-then-is_short
returns-then-is_short g c =
    let short = c.is_short.ensures.0 c.if-is_short.true in
    let few = few_parts c.self.invariant.0 (rw (len_of c.self.invariant.0 ∙ ap length c.self.view_is) short) in
    let held = sym (few_view few) ∙ c.self.view_is in
    let within : c.args.index < length c.self.inside.beside.items = rw held c.requires in (
      (refl, λ w. few_view (few_with few c.args.index w) ∙ ap (λ buckets. set buckets c.args.index w) held),
      record {
        writes_back = tt;
        bucket = get_or_read c.self.inside.beside.items c.args.index c.index_mut.result.now within c.index_mut.ensures.value empty_bucket
            ∙ ap (λ buckets. get_or buckets c.args.index empty_bucket) held;
      },
    )

pub index_mut-requires : goal.index_mut-requires
index_mut-requires g c =
    let short = c.is_short.ensures.0 c.if-is_short.true in
    let few = few_parts c.self.invariant.0 (rw (len_of c.self.invariant.0 ∙ ap length c.self.view_is) short) in
    omega (arith, c.self.inside.beside.ok.0, ap length (sym (few_view few) ∙ c.self.view_is), c.requires)
