-- The hashes of a script obey the laws of hashes.
use Rattle.std.specs.Prelude.{ℕ, ◌≡◌, ◌<◌, ◌^◌, true, nat_eq}
use Rattle.std.proofs.Common.{arith, ap, eqb-true}
use Rattle.bucket_table.specs.declared.script.hashes.ScriptHash.{ScriptHash}
use Rattle.bucket_table.specs.declared.script.hashes.ScriptHash.TheVariants.{Zero, Id, Spread}
use Rattle.bucket_table.specs.Scripts.Hashes.{script_hash}

pub script_hash_fits : (hasher : ScriptHash) (key : ℕ) → script_hash hasher key < 2 ^ 64
script_hash_fits Zero key = omega arith
script_hash_fits Id key = omega arith
script_hash_fits Spread key = omega arith

pub script_hash_alike : (hasher : ScriptHash) (key other : ℕ) → nat_eq key other ≡ true → script_hash hasher key ≡ script_hash hasher other
script_hash_alike hasher key other same = ap (script_hash hasher) (eqb-true key other same)
