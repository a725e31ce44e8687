use Rattle.std.proofs.Common.{◌∙◌, sym}
use Rattle.collections.proofs.SetCollecting.{added_put}
use Rattle.collections.proofs.hash_set.HashSet.put_clone.Goals as goal

pub returns : goal.returns
returns g c =
    let eq = g.K.PartialEq.eq in
    let own = c.in_ok-own.own in
    record {
      clone = own;
      is_clone = (c.in_ok-own.ensures.cases, sym c.eq.ensures ∙ c.if-not-eq.false);
      puts = added_put eq g.met.K.Eq.laws c.args.self.now c.insert.new.self own c.in-Ok._added c.in-Ok.ensures.set;
    }
