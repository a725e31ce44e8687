-- What writing a deadline leaves.
use Rattle.std.proofs.Common.{ℕ, ◌≡◌, ◌∙◌, Bool, true, false, cond, nat_eq, Some, None, inl, inr, refl, sym, ap}
use Rattle.std.proofs.lemmas.Bool.{cases_Bool}
use Rattle.std.proofs.lemmas.Cmp.{nat_eq_equiv}
use Rattle.std.specs.HashMap.Eq.{lookup_congr}
use Rattle.collections.specs.Changes.{Replaces}
use Rattle.collections.specs.Maps.{map_of}
use Rattle.example_session_store.specs.Sessions.{Renews, alive, deadline_at, has_expired, session_at, sessions_with}
use Rattle.example_session_store.specs.declared.store.Session.{Session}
use Rattle.example_session_store.specs.declared.store.Store.{Store}

module _ (token now : ℕ) (old new : Store) (session later : Session) (own : ℕ)
    (writes : Replaces nat_eq (map_of old.sessions) (nat_eq token) (own, session) later (map_of new.sessions))
    (lifetime : new.lifetime ≡ old.lifetime) (test : Bool) (says : test ≡ has_expired now session) where
  -- what is alive under the token
  had : (is : Bool) → test ≡ is → alive now (session_at old token) ≡ cond is None (Some session)
  had is tested = ap (alive now) writes.value ∙ ap (λ (b : Bool). cond b None (Some session)) (sym says ∙ tested)

  -- the deadline of a session that hasn't expired is extended
  pub renewed : test ≡ false → (deadline : ℕ) → deadline ≡ deadline_at old now → later ≡ record session { deadline = deadline }
      → Renews token now (Some deadline) old new
  renewed fresh deadline at is = rw (had false fresh) (
    ap Some at,
    record {
      each = λ other. writes.updates other ∙ ap (λ (s : Session). sessions_with token (Some s) (session_at old) other)
          (is ∙ (λ i. record session { deadline = at i }));
      lifetime = lifetime;
    },
  )

  -- one that has expired is written back as it was
  pub left_expired : test ≡ true → later ≡ session → Renews token now None old new
  left_expired expired is = rw (had true expired) (
    refl,
    record {
      each = λ other. elim (cases_Bool (nat_eq token other)) [
        | inl hit ↦ writes.updates other ∙ ap (λ (b : Bool). cond b (Some later) (session_at old other)) hit ∙ ap Some is
            ∙ sym writes.value ∙ lookup_congr nat_eq nat_eq_equiv.congr (map_of old.sessions).entries token other hit
        | inr miss ↦ writes.updates other ∙ ap (λ (b : Bool). cond b (Some later) (session_at old other)) miss
      ];
      lifetime = lifetime;
    },
  )
