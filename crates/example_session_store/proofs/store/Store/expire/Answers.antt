use Rattle.std.proofs.Common.{not, refl, ◌≡◌, ◌∙◌}
use Rattle.example_session_store.proofs.Expiring.{left_at, retained_by}
use Rattle.collections.specs.Maps.{map_of}
use Rattle.example_session_store.specs.Sessions.{has_expired}
use Rattle.example_session_store.proofs.store.Store.expire.Goals as goal

pub returns-clause-left : goal.returns-clause-left
returns-clause-left c = record {
  each = left_at c.args.now (map_of c.args.self.now.sessions).entries (map_of c.retain.new.self).entries
      c.expired_len-dropped.ensures.unique
      (retained_by _ (λ s. s.0 ≡ c.args.now) (λ session. not (has_expired c.args.now session))
      (λ s own before answer after t kept e. (e.met.0 ∙ kept, rw kept at e.met.1.0, e.met.1.1))
      _ _ _ _ refl c.retain.ensures.retained.asked);
  lifetime = refl;
}
