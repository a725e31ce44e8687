use Rattle.bucket_table.proofs.Words.{List, subst}
use Rattle.bucket_table.specs.Resize.Renewing.{Pours, chain_pairs, own_by_age}
use Rattle.bucket_table.proofs.Resize.Pouring.{pours_both}
use Rattle.bucket_table.proofs.hash_table.renew.HashTable+K+V+H+DoublyLinkedList+TYPE.pour_bucket.Goals as goal

pub returns : goal.returns
returns g c =
    let bucket = c.args.bucket.now in
    pours_both g.H.KeyHash.hash_of c.args.self.now c.pour_chain.new.self c.pour_own.new.self (chain_pairs bucket) (own_by_age bucket)
    c.pour_chain.ensures.poured
    (subst (λ (pairs : List (g.row.K.Denot × g.row.V.Denot)). Pours g.H.KeyHash.hash_of c.pour_chain.new.self pairs c.pour_own.new.self)
    c.pour_chain.ensures.left c.pour_own.ensures)
