use Rattle.std.proofs.Common.{arith, refl}
use Rattle.collections.proofs.hash_cache.HashCache.with_hasher.Goals as goal

pub returns-clause-maximum : goal.returns-clause-maximum
returns-clause-maximum g c =
    let least = c.with_capacity.ensures.maximum in
    omega (arith, least.at_least, least.least 256 (8, refl) (omega arith))
