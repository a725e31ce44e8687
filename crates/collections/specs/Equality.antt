-- Equality of maps, like `==` of std's maps.
use Rattle.std.specs.Prelude.{Bool, ◌&&◌}
use Rattle.std.specs.List.{list_all}
use Rattle.std.specs.Map.{keys_of}
use Rattle.std.specs.Option.{option_eq}
use Rattle.collections.specs.Maps.{MapView, get}

module _ {K V H : Type 0} (eq : K → K → Bool) (same : V → V → Bool) where
  -- whether two maps agree at a key: neither contains it, or both contain it with equal values
  abbrev pub agree_at : MapView K V H → MapView K V H → K → Bool
  agree_at own other key = option_eq same (get eq own key) (get eq other key)

  -- whether they agree at each key of the first
  abbrev pub is_within : MapView K V H → MapView K V H → Bool
  is_within own other = list_all (agree_at own other) (keys_of own.entries)

  -- whether they agree at each key of either, and so at each key
  abbrev pub map_eq : MapView K V H → MapView K V H → Bool
  map_eq own other = is_within own other && is_within other own
