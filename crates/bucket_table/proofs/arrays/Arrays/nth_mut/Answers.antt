use Rattle.bucket_table.proofs.Words.{ap, arith, bucket_at, empty_bucket, length, refl, sym, ◌-◌, ◌<◌, ◌∙◌, ◌≡◌, ◌≤◌}
use Rattle.bucket_table.proofs.Walking.Row.{with_current, with_old}
use Rattle.std.proofs.lemmas.List.{get_or-append_right, get_or_append_left}
use Rattle.bucket_table.proofs.arrays.Arrays.nth_mut.Goals as goal

pub returns-then-index-len : goal.returns-then-index-len
returns-then-index-len g c =
    let a = c.args.self.now in
    let below : c.args.index < length a.current = omega (arith, c.if-index-len.true, c.len-len.ensures.value) in (
      (refl, λ w. rw (with_current a c.args.index w below) refl),
      record {
        writes_back = tt;
        bucket = c.bucket_of_mut.ensures.bucket ∙ sym (get_or_append_left a.current a.linked empty_bucket c.args.index below);
      },
    )

pub returns : goal.returns
returns g c =
    let a = c.args.self.now in
    let past : length a.current ≤ c.args.index = omega (arith, c.if-index-len.false, c.len-len.ensures.value) in
    let own : c.args.index - c.len-len.result ≡ c.args.index - length a.current = omega (arith, c.len-len.ensures.value) in (
      (refl, λ w. rw (with_old a c.args.index w past, own) refl),
      record {
        writes_back = tt;
        bucket = c.bucket_of_mut-2.ensures.bucket ∙ ap (λ n. bucket_at a.linked n) own
            ∙ sym (get_or-append_right a.current a.linked (length a.current) c.args.index empty_bucket refl past);
      },
    )
