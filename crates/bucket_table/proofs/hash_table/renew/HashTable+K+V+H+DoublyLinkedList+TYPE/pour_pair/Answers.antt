use Rattle.bucket_table.proofs.Resize.PouringOne.{pours_one}
use Rattle.bucket_table.proofs.hash_table.renew.HashTable+K+V+H+DoublyLinkedList+TYPE.pour_pair.Goals as goal

pub returns : goal.returns
returns g c =
    pours_one g.met.K.Eq.laws g.H.KeyHash.hash_of g.row.TYPE c.requires.cache c.args.self.now c.put.new.self c.args.key c.args.value
    c.put.result c.requires.awaits c.put.ensures.map c.put.ensures.arrays
