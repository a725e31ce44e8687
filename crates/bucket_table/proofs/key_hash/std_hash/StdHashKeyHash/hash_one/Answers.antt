use Rattle.bucket_table.proofs.Words.{ap, sym, ◌%◌, ◌^◌, ◌∙◌}
use Rattle.std.proofs.Math.Nat.{mod-eq_of_lt}
use Rattle.bucket_table.proofs.key_hash.std_hash.StdHashKeyHash.hash_one.Goals as goal

pub returns : goal.returns
returns g c = sym (mod-eq_of_lt c.hash_one.type_inv) ∙ ap (λ n. n % 2 ^ 64) c.hash_one.ensures
