use Rattle.bucket_table.proofs.Words.{IfSome, subst}
use Rattle.bucket_table.specs.Map.ByKey.{StandsAt}
use Rattle.bucket_table.proofs.hash_table.HashTable.spot_of.Goals as goal

pub returns-clause-found : goal.returns-clause-found
returns-clause-found g c =
    subst (λ (key : g.row.K.Denot). IfSome c.spot_by.result (λ spot.
    StandsAt (λ own. g.K.PartialEq.eq own key) c.args.self.now.arrays spot.side spot.index spot.at))
    c.new.ensures.key c.spot_by.ensures.found
