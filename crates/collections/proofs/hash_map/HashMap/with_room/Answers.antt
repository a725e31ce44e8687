use Rattle.std.proofs.Common.{length, ap, ◌∙◌}
use Rattle.std.proofs.lemmas.List.{nil_from_length}
use Rattle.collections.proofs.hash_map.HashMap.with_room.Goals as goal

pub returns : goal.returns
returns g c =
    let made = c.with_minimum-made.ensures in
    let stays = c.try_reserve.ensures.stays in
    record {
      empty = nil_from_length _ (stays.len ∙ ap length made.empty);
      hasher = stays.kept.hasher ∙ made.hasher;
      minimum = stays.kept.minimum ∙ made.minimum;
      maximum = stays.kept.maximum ∙ made.maximum;
    }
