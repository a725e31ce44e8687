-- What calls do to a set, in terms of std's `HashSet`.
use Rattle.std.specs.Prelude.{◌≡◌, Bool, true, false, Option, Some, None, Result, Ok, Err, IsSome}
use Rattle.std.specs.declared.alloc.AllocFailed.{AllocFailed}
use Rattle.collections.specs.Changes.{Adds, Stays}
use Rattle.collections.specs.Maps.{MapView, get}
use Rattle.collections.specs.StoredKeys.{ReplacesKey}

module _ {K H : Type 0} (eq : K → K → Bool) (key : K) where
  -- the key is inserted if it is absent, and the result is whether it was; if allocation fails, it is returned and is absent
  abbrev pub SetAdds : MapView K (Unit {0}) H → Result Bool (AllocFailed K) → MapView K (Unit {0}) H → Type 0
  SetAdds old (Ok true) new = Adds eq old key tt new
  SetAdds old (Ok false) new = IsSome (get eq old key) × Stays eq old new
  SetAdds old (Err back) new = (back.value ≡ key) × (get eq old key ≡ None) × Stays eq old new

  -- the key replaces the equal one, which is returned, or is inserted; if allocation fails, the key itself is returned and is absent
  abbrev pub SetReplaces : MapView K (Unit {0}) H → Result (Option K) (AllocFailed K) → MapView K (Unit {0}) H → Type 0
  SetReplaces old (Ok None) new = Adds eq old key tt new
  SetReplaces old (Ok (Some own)) new = ReplacesKey eq old (own, tt) key new
  SetReplaces old (Err back) new = (back.value ≡ key) × (get eq old key ≡ None) × Stays eq old new

  -- the key replaces the equal one, which is returned; if there is none, the key itself is returned
  abbrev pub SwapsKey : MapView K (Unit {0}) H → Result K K → MapView K (Unit {0}) H → Type 0
  SwapsKey old (Ok own) new = ReplacesKey eq old (own, tt) key new
  SwapsKey old (Err back) new = (back ≡ key) × (get eq old key ≡ None) × Stays eq old new
