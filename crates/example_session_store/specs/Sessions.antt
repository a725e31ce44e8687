-- Sessions under tokens, as a function from a token to the session that it has.
use Rattle.std.specs.Prelude.{ℕ, ◌≡◌, ◌+◌, ◌-◌, ◌^◌, Bool, cond, count_by, min, nat_eq, nat_le, Option, Some, None, IfSome, IsSome}
use Rattle.std.specs.Prelude.{MatchOption}
use Rattle.collections.specs.Maps.{get, map_len, map_of}
use Rattle.example_session_store.specs.declared.store.NotLoggedIn.{NotLoggedIn}
use Rattle.example_session_store.specs.declared.store.NotLoggedIn.TheVariants.{NoMemory, Taken}
use Rattle.example_session_store.specs.declared.store.Session.{Session}
use Rattle.example_session_store.specs.declared.store.Store.{Store}

-- the session of a token, even if it has expired
abbrev pub session_at : Store → ℕ → Option Session
session_at store token = get nat_eq (map_of store.sessions) token

-- a session expires at its deadline
abbrev pub has_expired : ℕ → Session → Bool
has_expired now session = nat_le session.deadline now

-- a session, unless it has expired
abbrev pub alive : ℕ → Option Session → Option Session
alive now None = None
alive now (Some session) = cond (has_expired now session) None (Some session)

-- the session of a token, unless it has expired
abbrev pub alive_at : Store → ℕ → ℕ → Option Session
alive_at store now token = alive now (session_at store token)

-- how many sessions there are, up to the greatest `usize`
abbrev pub len_of : Store → ℕ
len_of store = min (map_len (map_of store.sessions)) (2 ^ 64 - 1)

-- how many of them have expired
abbrev pub expired_len : Store → ℕ → ℕ
expired_len store now = min (count_by (λ pair. has_expired now pair.1) (map_of store.sessions).entries) (2 ^ 64 - 1)

-- when a session expires that is used at a time
abbrev pub deadline_at : Store → ℕ → ℕ
deadline_at store now = min (now + store.lifetime) (2 ^ 64 - 1)

-- a token has another session, or none, and each other token what it had
abbrev pub sessions_with : ℕ → Option Session → (ℕ → Option Session) → ℕ → Option Session
sessions_with token session sessions other = cond (nat_eq token other) session (sessions other)

-- each token has what it had, except the one whose session was evicted
abbrev pub sessions_without : Option (ℕ × Session) → (ℕ → Option Session) → ℕ → Option Session
sessions_without None sessions = sessions
sessions_without (Some evicted) sessions = sessions_with evicted.0 None sessions

-- the store has these sessions, and the lifetime that it had
pub record Becomes (sessions : ℕ → Option Session) (old new : Store) : Type 0 where
  pub each : (token : ℕ) → session_at new token ≡ sessions token
  pub lifetime : new.lifetime ≡ old.lifetime

-- a token that had no session has this one, and at most one other session is missing, the one that was evicted
pub record LogsIn (token : ℕ) (session : Session) (evicted : Option (ℕ × Session)) (old new : Store) : Type 0 where
  pub fresh : session_at old token ≡ None
  pub was : IfSome evicted (λ pair. session_at old pair.0 ≡ Some pair.1)
  pub left : Becomes (sessions_with token (Some session) (sessions_without evicted (session_at old))) old new

-- a session isn't made if the token has one; or if allocation fails, and then it has none
abbrev pub IsForCause : Option Session → NotLoggedIn → Type 0
IsForCause had Taken = IsSome had
IsForCause had NoMemory = had ≡ None

-- a session that hasn't expired has a new deadline, and is returned; if there is none, nothing changes
abbrev pub Renews : ℕ → ℕ → Option ℕ → Store → Store → Type 0
Renews token now answer old new = MatchOption (alive_at old now token)
    ((answer ≡ None) × Becomes (session_at old) old new)
    (λ session. let deadline = deadline_at old now in
    (answer ≡ Some deadline)
    × Becomes (sessions_with token (Some (record session { deadline = deadline })) (session_at old)) old new)
