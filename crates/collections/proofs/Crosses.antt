-- Collections may cross threads as far as their keys, values and hasher may.
use denote.RattleType.{RattleType}
use denote.Param.Send.{IsSend, IsSync, sendable}
use Rattle.std.specs.declared.cmp.Eq as equivalence
use Rattle.std.specs.declared.cmp.PartialEq as equals
use Rattle.std.proofs.Crossing.{crosses}
use Rattle.bucket_slots.proofs.lru.doubly_linked_list.DoublyLinkedList.TheSendSync as listed
use Rattle.bucket_table.specs.declared.key_hash.KeyHash as key_hash
use Rattle.bucket_table.proofs.CallerLemmas.{HashTable-send, HashTable-sync}
use Rattle.collections.specs.contracts.hash_cache.HashCache as cache
use Rattle.collections.specs.contracts.hash_index.HashIndex as index
use Rattle.collections.specs.contracts.hash_map.HashMap as map
use Rattle.collections.specs.contracts.hash_set.HashSet as set
use Rattle.collections.proofs.room.Fits.TheSendSync as fits

module _ (K V H : RattleType) (equiv : equivalence.Ghosts K.Denot) (equal : equals.Ghosts K.Denot)
    (hashing : key_hash.Ghosts H.Denot K.Denot) where
  pub HashMap-send : IsSend K → IsSend V → IsSend H → IsSend (map.the_field K V H equiv equal hashing).row
  HashMap-send sk sv sh = search (HashTable-send, fits.the_send, crosses, sendable) depth 30

  pub HashMap-sync : IsSync K → IsSync V → IsSync H → IsSync (map.the_field K V H equiv equal hashing).row
  HashMap-sync yk yv yh = search (HashTable-sync, fits.the_sync, crosses, sendable) depth 30

  pub HashIndex-send : IsSend K → IsSend V → IsSend H → IsSend (index.the_field K V H equiv equal hashing).row
  HashIndex-send sk sv sh = search (HashTable-send, fits.the_send, crosses, sendable) depth 30

  pub HashIndex-sync : IsSync K → IsSync V → IsSync H → IsSync (index.the_field K V H equiv equal hashing).row
  HashIndex-sync yk yv yh = search (HashTable-sync, fits.the_sync, crosses, sendable) depth 30

  pub HashCache-send : IsSend K → IsSend V → IsSend H → IsSend (cache.the_field K V H equiv equal hashing).row
  HashCache-send sk sv sh = search (HashTable-send, listed.the_send, fits.the_send, crosses, sendable) depth 30

  pub HashCache-sync : IsSync K → IsSync V → IsSync H → IsSync (cache.the_field K V H equiv equal hashing).row
  HashCache-sync yk yv yh = search (HashTable-sync, listed.the_sync, fits.the_sync, crosses, sendable) depth 30

module _ (K H : RattleType) (equiv : equivalence.Ghosts K.Denot) (equal : equals.Ghosts K.Denot)
    (hashing : key_hash.Ghosts H.Denot K.Denot) where
  pub HashSet-send : IsSend K → IsSend H → IsSend (set.the_field K H equiv equal hashing).row
  HashSet-send sk sh = search (HashMap-send, crosses, sendable) depth 30

  pub HashSet-sync : IsSync K → IsSync H → IsSync (set.the_field K H equiv equal hashing).row
  HashSet-sync yk yh = search (HashMap-sync, crosses, sendable) depth 30

pub ruleset collections_cross = (
  HashMap-send,
  HashMap-sync,
  HashSet-send,
  HashSet-sync,
  HashIndex-send,
  HashIndex-sync,
  HashCache-send,
  HashCache-sync,
)
