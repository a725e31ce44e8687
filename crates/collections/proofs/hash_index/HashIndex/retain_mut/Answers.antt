use Rattle.std.proofs.Common.{ap, ◌*◌}
use Rattle.collections.proofs.hash_index.HashIndex.retain_mut.Goals as goal

pub returns-clause-retained : goal.returns-clause-retained
returns-clause-retained g c = rw (← c.self.view_is) (record {
  asked = c.retain.ensures.retained;
  kept = record {
    unique = c.fact_sound.ensures.one_map.distinct;
    hasher = c.retain.ensures.settings.hasher;
    minimum = c.retain.ensures.settings.minimum;
    maximum = c.retain.ensures.settings.maximum;
  };
  slots = ap (λ n. 32 * n) c.retain.ensures.current.len;
  old_slots = ap (λ n. 32 * n) c.retain.ensures.linked.len;
})

pub returns-clause-marks : goal.returns-clause-marks
returns-clause-marks g c = rw (← c.self.view_is) c.retain.ensures.marks

pub returns-clause-buckets : goal.returns-clause-buckets
returns-clause-buckets g c = rw (← c.self.view_is) (record {
  current = c.retain.ensures.current;
  linked = c.retain.ensures.linked;
  tickets = c.retain.ensures.tickets;
})
