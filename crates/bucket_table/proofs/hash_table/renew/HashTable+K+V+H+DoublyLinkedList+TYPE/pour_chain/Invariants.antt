use Rattle.bucket_table.proofs.Words.{length, pairs_ahead}
use Rattle.bucket_table.specs.Resize.Renewing.{chain_pairs}
use Rattle.bucket_table.proofs.Resize.ChainByAge.{KeepsOwn}
use Rattle.bucket_table.proofs.Resize.Pouring.{IsPouring}
use Rattle.bucket_table.proofs.hash_table.renew.HashTable+K+V+H+DoublyLinkedList+TYPE.pour_chain.Given as goal

-- the pairs ahead are left, and the own slots stay
abbrev pub invariant-pairs : goal.invariant-pairs
invariant-pairs g l =
    IsPouring g.K.PartialEq.eq g.H.KeyHash.hash_of l.fn.self (chain_pairs l.fn.bucket) l.self (pairs_ahead l.bucket l.at)
    × KeepsOwn l.fn.bucket l.bucket l.at

abbrev pub decreases-pairs : goal.decreases-pairs
decreases-pairs g l = length (pairs_ahead l.bucket l.at)
