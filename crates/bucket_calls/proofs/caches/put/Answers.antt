use Rattle.std.proofs.Common.{Err, ap, unwrap_or}
use Rattle.std.specs.Prelude.{nat_eq}
use Rattle.bucket_calls.specs.Hashing.{word_hash}
use Rattle.bucket_calls.proofs.Refused.{put_refused}
use Rattle.bucket_calls.proofs.caches.put.Goals as goal

pub returns-in-Err-Memory : goal.returns-in-Err-Memory
returns-in-Err-Memory c =
    let refused = c.in-Err-Memory.ensures in
    put_refused nat_eq word_hash c.args.key c.args.value (λ went. unwrap_or went c.args.gone.now) c.args.before.now c.args.cache.now
    c.put.new.self c.in-Err-Memory.field-0 c.in-Err-Memory.field-0-is refused.map refused.home (λ back. refused.memory (ap Err back))
