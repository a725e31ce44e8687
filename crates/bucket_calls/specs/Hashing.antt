-- The hash that a seed determines.
use Rattle.std.specs.Prelude.{ℕ, ◌&&◌, List, Vec, cond, nat_eq}
use Rattle.std.specs.Hash as fed
use Rattle.std.specs.Hash.DefaultHasher as sip
use Rattle.std.specs.Hash.FoldHasher as folding
use Rattle.std.specs.declared.alloc.Global.{Global}
use Rattle.bucket_table.specs.Map.StdHashes.{std_hash}
use Rattle.bucket_table.specs.declared.key_hash.std_hash.StdHash.{StdHash}
use Rattle.bucket_calls.specs.declared.seed.Beginning.{Beginning}
use Rattle.bucket_calls.specs.declared.seed.Seed.{Seed}
use Rattle.bucket_calls.specs.declared.seed.SeededHasher.{SeededHasher}
use Rattle.bucket_calls.specs.declared.seed.SeededHasher.TheVariants.{Fold, Sip}

-- SipHash with the seed as its keys, or std's default if the seed is zero
abbrev pub initial_hasher : Seed → SeededHasher
initial_hasher seed =
    cond (nat_eq seed.key0 0 && nat_eq seed.key1 0) (Fold folding.initial) (Sip (sip.with_keys seed.key0 seed.key1))

-- a hasher after some bytes
abbrev pub written : SeededHasher → List ℕ → SeededHasher
written (Fold state) bytes = Fold (folding.write state bytes)
written (Sip state) bytes = Sip (sip.write state bytes)

-- the hash that it returns
abbrev pub finished : SeededHasher → ℕ
finished (Fold state) = folding.finish state
finished (Sip state) = sip.finish state

-- the hash of a word, and of a byte string
abbrev pub word_hash : StdHash (Beginning SeededHasher) → ℕ → ℕ
word_hash hasher key = std_hash finished written hasher.builder.initial (fed.u64 key)

abbrev pub text_hash : StdHash (Beginning SeededHasher) → Vec ℕ Global → ℕ
text_hash hasher key = std_hash finished written hasher.builder.initial (fed.slice fed.u8 key.items)
