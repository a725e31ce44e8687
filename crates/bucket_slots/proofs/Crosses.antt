-- Buckets and arrays of buckets may cross threads if their keys, values and LRU lists may.
use denote.RattleType.{RattleType}
use denote.Param.Send.{IsSend, IsSync, sendable}
use Rattle.std.specs.declared.default.Default as default
use Rattle.std.proofs.Crossing.{crosses}
use Rattle.std.proofs.option.Option.TheSendSync as option
use Rattle.bucket_slots.specs.declared.lru.LruList as list
use Rattle.bucket_slots.specs.contracts.bucket.Bucket as bucket
use Rattle.bucket_slots.specs.contracts.bucket_array.BucketArray as array
use Rattle.bucket_slots.specs.contracts.bucket_array.part.Part as part
use Rattle.bucket_slots.proofs.bucket.blocks.Blocks.TheLaws.TheKnot as blocks
use Rattle.bucket_slots.proofs.bucket.room.Count.TheSendSync as count
use Rattle.bucket_slots.proofs.bucket.row.Row.TheSendSync as row

module _ (K V L TYPE : RattleType) (listing : list.Ghosts L.Denot) (fresh : default.Ghosts L.Denot) where
  pub Bucket-send : IsSend K → IsSend V → IsSend L → IsSend (bucket.the_field K V L TYPE listing fresh).row
  Bucket-send sk sv sl = search (blocks.crosses, count.the_send, row.the_send, option.the_send, crosses, sendable) depth 30

  pub Bucket-sync : IsSync K → IsSync V → IsSync L → IsSync (bucket.the_field K V L TYPE listing fresh).row
  Bucket-sync yk yv yl = search (blocks.crosses, count.the_sync, row.the_sync, option.the_sync, crosses, sendable) depth 30

  Part-send : IsSend K → IsSend V → IsSend L → IsSend (part.the_field K V L TYPE listing fresh).row
  Part-send sk sv sl = search (Bucket-send, crosses, sendable) depth 30

  Part-sync : IsSync K → IsSync V → IsSync L → IsSync (part.the_field K V L TYPE listing fresh).row
  Part-sync yk yv yl = search (Bucket-sync, crosses, sendable) depth 30

  pub BucketArray-send : IsSend K → IsSend V → IsSend L → IsSend (array.the_field K V L TYPE listing fresh).row
  BucketArray-send sk sv sl = search (Bucket-send, Part-send, crosses, sendable) depth 30

  pub BucketArray-sync : IsSync K → IsSync V → IsSync L → IsSync (array.the_field K V L TYPE listing fresh).row
  BucketArray-sync yk yv yl = search (Bucket-sync, Part-sync, crosses, sendable) depth 30
