use Rattle.bucket_table.proofs.Map.PutSlots.{chain-slots_put}
use Rattle.bucket_table.proofs.hash_table.evict.puts_keep_chains.Goals as goal

pub returns : goal.returns
returns g c = λ keeps bucket gone pair byte went. chain-slots_put keeps bucket gone pair byte went
