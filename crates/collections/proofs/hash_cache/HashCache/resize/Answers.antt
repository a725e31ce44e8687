use Rattle.collections.proofs.Lookups.{kept_or_gone}
use Rattle.collections.proofs.hash_cache.HashCache.resize.Goals as goal

pub returns-clause-resized : goal.returns-clause-resized
returns-clause-resized g c =
    let did = rw c.in-Ok.is at c.renew.ensures.renewed in
    rw (← c.self.view_is) (record {
      size = c.size_for.result;
      size_is = c.size_for.ensures.least;
      renewed = did;
      unique = c.fact_sound-2.ensures.one_map.distinct;
      gets = kept_or_gone g.K.PartialEq.eq g.met.K.Eq.laws _ did.gone _ c.fact_sound.ensures.one_map.distinct did.parts;
    })
