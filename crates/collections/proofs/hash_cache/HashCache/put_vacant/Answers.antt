use Rattle.std.proofs.Common.{refl, rules}
use Rattle.collections.proofs.Upserting.{put_vacant}
use Rattle.collections.proofs.hash_cache.HashCache.put_vacant.Goals as goal

pub put_vacant-outcome-requires : goal.put_vacant-outcome-requires
put_vacant-outcome-requires g c = (
  search rules,
  (
    refl,
    (
      rw (← c.self.view_is) at c.requires.own_hash,
      (
        rw (← c.self.view_is) at c.requires.absent,
        rw (← c.self.view_is) at
            c.requires.ready,
      ),
    ),
  ),
)

pub returns-clause-put : goal.returns-clause-put
returns-clause-put g c =
    let b = c.self.inside.table in
    let s = c.put_vacant-outcome.new.self in
    let e = c.put_vacant-outcome.ensures in
    rw (← c.self.view_is) (λ first prepared vacancy. put_vacant g.K.PartialEq.eq g.met.K.Eq.laws g.H.KeyHash.hash_of c.args.key c.args.value
    c.args.hash first b s prepared (rw (← c.self.view_is) at c.requires.own_hash) c.fact_sound.ensures.one_map.distinct
    c.fact_sound-2.ensures.one_map.distinct c.put_vacant-outcome.result e.map (e.arrays first prepared vacancy) e.absent
    c.fact_sound-2.ensures.one_map.placed (c.fact_refused.ensures.current c.args.key c.args.value)
    (c.fact_refused.ensures.old c.args.key c.args.value))
