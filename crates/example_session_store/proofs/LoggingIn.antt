-- What putting a session leaves.
use Rattle.std.proofs.Common.{ℕ, ◌≡◌, nat_eq, Option, Some, None, Ok, subst}
use Rattle.collections.specs.Changes.{Puts}
use Rattle.collections.specs.Maps.{map_of}
use Rattle.example_session_store.specs.Sessions.{LogsIn}
use Rattle.example_session_store.specs.declared.store.Session.{Session}
use Rattle.example_session_store.specs.declared.store.Store.{Store}

module _ (token : ℕ) (session later : Session) (same : session ≡ later) (old new : Store) (lifetime : new.lifetime ≡ old.lifetime) where
  logs_in : (evicted : Option (ℕ × Session)) → Puts nat_eq token session (map_of old.sessions) (Ok evicted) (map_of new.sessions)
      → LogsIn token session evicted old new
  logs_in None puts = record {
    fresh = puts.absent;
    was = tt;
    left = record { each = puts.updates; lifetime = lifetime };
  }
  logs_in (Some gone) puts = record {
    fresh = puts.absent;
    was = puts.went;
    left = record { each = puts.gets; lifetime = lifetime };
  }

  -- so a session that is equal to it is in
  pub logged_in : (evicted : Option (ℕ × Session)) → Puts nat_eq token session (map_of old.sessions) (Ok evicted) (map_of new.sessions)
      → LogsIn token later evicted old new
  logged_in evicted puts = subst (λ (s : Session). LogsIn token s evicted old new) same (logs_in evicted puts)
