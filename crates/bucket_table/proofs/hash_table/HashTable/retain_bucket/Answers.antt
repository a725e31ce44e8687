use Rattle.bucket_table.proofs.Walking.TableCursor.{left_of}
use Rattle.bucket_table.proofs.Words.{Current}
use Rattle.bucket_table.proofs.Map.Counted.{counted_after, len_left}
use Rattle.bucket_table.proofs.hash_table.HashTable.retain_bucket.Goals as goal

pub invariant_of-self : goal.invariant_of-self
invariant_of-self g c =
    let locked = rw (← c.self.view_is) at c.requires.locked in
    let r = c.retain_bucket-gone.ensures.retained in
    counted_after c.self.invariant
    (left_of g.K.PartialEq.eq g.met.K.Eq.laws _ _ c.args.index _ _ c.retain_bucket-gone.new.self c.self.invariant.one_map locked r)
    c.len_at-before.result c.len_at-after.result
    (len_left c.self.inside.arrays Current c.args.index r.left c.retain_bucket-gone.new.self _ _ locked.within r.new_is
    c.len_at-before.ensures c.len_at-after.ensures) c.count_after-self-inside.ensures
