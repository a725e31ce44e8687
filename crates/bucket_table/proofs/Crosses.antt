-- Tables may cross threads if their keys, values, hasher and LRU lists may.
use denote.RattleType.{RattleType}
use denote.Param.Send.{IsSend, IsSync, sendable}
use Rattle.std.specs.declared.cmp.PartialEq as equals
use Rattle.std.specs.declared.default.Default as default
use Rattle.std.proofs.Crossing.{crosses}
use Rattle.bucket_slots.specs.declared.lru.LruList as list
use Rattle.bucket_slots.proofs.Crosses.{BucketArray-send, BucketArray-sync}
use Rattle.bucket_table.specs.declared.key_hash.KeyHash as key_hash
use Rattle.bucket_table.specs.contracts.arrays.Arrays as arrays
use Rattle.bucket_table.specs.contracts.hash_table.HashTable as table
use Rattle.bucket_table.proofs.tickets.Tickets.TheSendSync as tickets

module _ (K V L TYPE : RattleType) (listing : list.Ghosts L.Denot) (fresh : default.Ghosts L.Denot) where
  Arrays-send : IsSend K → IsSend V → IsSend L → IsSend (arrays.the_field K V L TYPE listing fresh).row
  Arrays-send sk sv sl = search (BucketArray-send, tickets.the_send, crosses, sendable) depth 30

  Arrays-sync : IsSync K → IsSync V → IsSync L → IsSync (arrays.the_field K V L TYPE listing fresh).row
  Arrays-sync yk yv yl = search (BucketArray-sync, tickets.the_sync, crosses, sendable) depth 30

module _ (K V H L TYPE : RattleType) (equal : equals.Ghosts K.Denot) (hashing : key_hash.Ghosts H.Denot K.Denot)
    (listing : list.Ghosts L.Denot) (fresh : default.Ghosts L.Denot) where
  pub HashTable-send : IsSend K → IsSend V → IsSend H → IsSend L → IsSend (table.the_field K V H L TYPE equal hashing listing fresh).row
  HashTable-send sk sv sh sl = search (Arrays-send, crosses, sendable) depth 30

  pub HashTable-sync : IsSync K → IsSync V → IsSync H → IsSync L → IsSync (table.the_field K V H L TYPE equal hashing listing fresh).row
  HashTable-sync yk yv yh yl = search (Arrays-sync, crosses, sendable) depth 30
