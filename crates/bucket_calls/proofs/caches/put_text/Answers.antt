use Rattle.std.proofs.Common.{Err, ap}
use Rattle.bucket_calls.specs.Caches.{text_copied}
use Rattle.bucket_calls.specs.Hashing.{text_hash}
use Rattle.bucket_calls.specs.Views.{text_eq}
use Rattle.bucket_calls.proofs.Refused.{put_refused}
use Rattle.bucket_calls.proofs.caches.put_text.Goals as goal

pub returns-in-Err-Memory : goal.returns-in-Err-Memory
returns-in-Err-Memory c =
    let refused = c.in-Err-Memory.ensures in
    put_refused text_eq text_hash c.args.key c.args.value (text_copied c.args.bytes.now c.args.len.now) c.args.before.now
    c.args.cache.now c.put.new.self c.in-Err-Memory.field-0 c.in-Err-Memory.field-0-is refused.map refused.home
    (λ back. refused.memory (ap Err back))
