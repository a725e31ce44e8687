use Rattle.std.proofs.Common.{◌≡◌, take, fold}
use Rattle.bench_table.specs.Mixed.{shifted_in}
use Rattle.bench_table.proofs.hashes.MixerHasher.write.Given as goal

abbrev pub invariant-loop-byte : goal.invariant-loop-byte
invariant-loop-byte l = l.self.0 ≡ fold shifted_in l.initial.self.0 (take l.byte-index l.bytes)
