use Rattle.collections.proofs.Touching.{promoted}
use Rattle.collections.proofs.hash_cache.HashCache.promote.Goals as goal

pub returns : goal.returns
returns g c = rw (← c.self.view_is, ← c.new.ensures.form) (
    let all = promoted g.K.PartialEq.eq g.met.K.Eq.laws c.self.inside.table c.touch_by.new.self c.fact_sound.ensures.one_map.distinct
    (g.Q.KeyForm.stands_for c.new.result.form) (g.met.Q.KeyForm.alike c.new.result.form) _ c.touch_by.result c.touch_by.ensures.map
    c.touch_by.ensures.arrays in
    record { found = all.0; touched = all.1 })
