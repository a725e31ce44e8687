use Rattle.bucket_table.proofs.Words.{◌∙◌}
use Rattle.bucket_table.proofs.Map.Cloning.{counted_made, made_of, one_made}
use Rattle.bucket_table.proofs.hash_table.HashTable.cloned_by.Goals as goal

pub invariant_of-result : goal.invariant_of-result
invariant_of-result g c =
    let made = c.in-Some.ensures in
    record {
      one_map = one_made (g.H.KeyHash.hash_of c.args.hasher) _ g.K.PartialEq.eq g.met.K.Eq.laws c.self.inside.arrays c.in-Some.arrays
          c.requires.equal made.alone made.made made.others c.self.invariant.one_map.distinct;
      counted = counted_made (g.H.KeyHash.hash_of c.args.hasher) _ c.self.inside.arrays c.in-Some.arrays _ made.alone made.made made.others
          (c.new.ensures ∙ c.get.ensures ∙ c.self.invariant.counted);
    }

pub returns-clause-pairs : goal.returns-clause-pairs
returns-clause-pairs g c =
    let made = c.in-Some.ensures in
    rw (← c.self.view_is) (made_of (g.H.KeyHash.hash_of c.args.hasher) _ c.self.inside.arrays c.in-Some.arrays made.alone made.made
    made.others)
