use Rattle.bucket_table.proofs.Words.{BucketView, ap, arith, bucket_at, length, length-set, rules, subst, sym, ◌+◌, ◌∙◌}
use Rattle.std.proofs.Common.{drop}
use Rattle.std.proofs.lemmas.List.{drop_all}
use Rattle.bucket_table.specs.Resize.Renewing.{Awaits, Pours, all_by_age, arrays_by_age, pairs_by_age}
use Rattle.bucket_table.specs.Walking.Row.{row_of, row_with}
use Rattle.bucket_table.proofs.Resize.ByAge.{age_in_row, next_bucket}
use Rattle.bucket_table.proofs.Resize.Pouring.{pour_awaits, pour_begins, pour_ends, pour_goes_on}
use Rattle.bucket_table.proofs.Walking.Row.{row_of-row_with}
use Rattle.bucket_table.proofs.hash_table.renew.HashTable+K+V+H+DoublyLinkedList+TYPE.pour_all.Goals as goal

pub buckets-init : goal.buckets-init
buckets-init g c =
    pour_begins g.met.K.Eq.laws g.H.KeyHash.hash_of c.args.self.now (arrays_by_age c.args.source.now)
    (all_by_age (row_of c.args.source.now))
    (sym (age_in_row c.args.source.now)) c.requires.awaits

pub pour_bucket-requires : goal.pour_bucket-requires
pour_bucket-requires g c =
    let source = c.buckets.source in
    let index = c.buckets.index in
    let bucket = c.nth_mut.result.now in
    let parts = next_bucket source index bucket c.in-Some.ensures.bucket.0 in (
      search rules,
      (
        c.fact_row_room.ensures,
        (
          c.requires.cache,
          subst (λ (b : BucketView g.row.K.Denot g.row.V.Denot). Awaits g.K.PartialEq.eq c.buckets.self (pairs_by_age b))
              (sym c.nth_mut.ensures.bucket)
              (pour_awaits g.met.K.Eq.laws g.H.KeyHash.hash_of c.args.self.now (arrays_by_age c.args.source.now) c.buckets.self
              (all_by_age (drop index (row_of source))) (pairs_by_age (bucket_at (row_of source) index))
              (all_by_age (drop (index + 1) (row_of (row_with source index bucket)))) parts c.buckets.invariant),
        ),
      ),
    )

pub buckets-preserved : goal.buckets-preserved
buckets-preserved g c =
    let source = c.buckets.source in
    let index = c.buckets.index in
    let bucket = c.pour_bucket.new.bucket in
    let parts = next_bucket source index bucket c.in-Some.ensures.bucket.0 in
    pour_goes_on g.met.K.Eq.laws g.H.KeyHash.hash_of c.args.self.now (arrays_by_age c.args.source.now) c.buckets.self
    c.pour_bucket.new.self (all_by_age (drop index (row_of source))) (pairs_by_age (bucket_at (row_of source) index))
    (all_by_age (drop (index + 1) (row_of (row_with source index bucket)))) parts c.buckets.invariant
    (subst (λ (b : BucketView g.row.K.Denot g.row.V.Denot). Pours g.H.KeyHash.hash_of c.buckets.self (pairs_by_age b)
    c.pour_bucket.new.self)
    c.nth_mut.ensures.bucket c.pour_bucket.ensures)

pub buckets-smaller : goal.buckets-smaller
buckets-smaller g c =
    let source = c.buckets.source in
    let bucket = c.pour_bucket.new.bucket in
    let same = ap length (row_of-row_with source c.buckets.index bucket) ∙ length-set (row_of source) c.buckets.index bucket in
    omega (arith, c.in-Some.ensures.bucket.0, same)

pub returns : goal.returns
returns g c =
    let row = row_of c.buckets.source in
    pour_ends g.met.K.Eq.laws g.H.KeyHash.hash_of c.args.self.now (arrays_by_age c.args.source.now) c.buckets.self
    (all_by_age (drop c.buckets.index row)) (ap all_by_age (drop_all c.buckets.index row c.in_default.ensures.bucket))
    c.buckets.invariant
