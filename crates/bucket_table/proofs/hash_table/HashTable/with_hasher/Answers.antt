use Rattle.bucket_table.proofs.Words.{arith, refl, rules}
use Rattle.bucket_table.proofs.hash_table.HashTable.with_hasher.Goals as goal

pub new-requires : goal.new-requires
new-requires g c = (search rules, ((63, refl), (omega arith, omega arith)))
