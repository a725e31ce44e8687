-- A session that a user has, or gets.
use Rattle.std.specs.Prelude.{◌≡◌, Bool, cond, false, Option, Some, None, IfSome}
use Rattle.std.specs.Option.{unwrap_or}
use Rattle.collections.specs.Maps.{MapView, get}

module _ {U S : Type 0} (eq : U → U → Bool) where
  -- whether a user is the one whose session was evicted
  abbrev pub is_gone : Option (U × S) → U → Bool
  is_gone None other = false
  is_gone (Some pair) other = eq pair.0 other

  -- the user has the earlier session, or a fresh one if there was none; at most one other user's session was evicted, which is returned;
  -- each other user has the earlier one
  pub record HasSession {H : Type 0} (user : U) (fresh : S) (gone : Option (U × S)) (old new : MapView U S H) : Type 0 where
    pub own : get eq new user ≡ Some (unwrap_or (get eq old user) fresh)
    pub was : IfSome gone (λ pair. get eq old pair.0 ≡ Some pair.1)
    pub others : (other : U) → eq user other ≡ false → get eq new other ≡ cond (is_gone gone other) None (get eq old other)
