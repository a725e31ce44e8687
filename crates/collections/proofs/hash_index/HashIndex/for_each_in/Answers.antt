use Rattle.std.proofs.Common.{sym}
use Rattle.bucket_table.proofs.CallerLemmas.{calls_same}
use Rattle.collections.proofs.Buckets.{bucket_pairs, buckets_len}
use Rattle.collections.proofs.hash_index.HashIndex.for_each_in.Goals as goal

pub returns-clause-there : goal.returns-clause-there
returns-clause-there g c = rw (← c.self.view_is, buckets_len c.self.inside.table) c.for_each_in.ensures.there

pub returns-clause-calls : goal.returns-clause-calls
returns-clause-calls g c =
    rw (← c.self.view_is) (calls_same _ c.args.f.now c.for_each_in.new.f _ _ (sym (bucket_pairs c.self.inside.table c.args.bucket))
    c.for_each_in.ensures.calls)
