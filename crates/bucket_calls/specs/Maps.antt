-- What a call does to a map or a set, by the code that it returns: some answer of the library's call has this code, and the library's
-- clauses hold for that answer.
use Rattle.std.specs.Prelude.{ℕ, ◌≡◌, Bool, MatchOption, Option, Result, unwrap_or}
use Rattle.std.specs.declared.alloc.AllocFailed.{AllocFailed}
use Rattle.bucket_slots.specs.declared.not_inserted.NotInserted.{NotInserted}
use Rattle.collections.specs.Changes.{Inserts, Removes, SetRemoves, Takes, Upserts}
use Rattle.collections.specs.Crowding.{LacksRoom}
use Rattle.collections.specs.Maps.{MapView, get, get_by}
use Rattle.bucket_calls.specs.Codes.{absent, found_code, insert_code, no_memory, ok, present, upsert_code}

module _ {K H : Type 0} where
  -- a value is output if a key that passes a test is present
  abbrev pub Finds : {V : Type 0} → (K → Bool) → MapView K V H → V → ℕ → V → Type 0
  Finds test map before code after = (code ≡ found_code (get_by test map)) × (after ≡ unwrap_or (get_by test map) before)

module _ {K H : Type 0} (eq : K → K → Bool) (hash_of : H → K → ℕ) (key : K) where
  abbrev pub InsertsOne : {V : Type 0} → V → MapView K V H → ℕ → MapView K V H → Type 0
  InsertsOne {V} value old code new =
      (answer : Result (Unit {0}) (NotInserted K V)) × (code ≡ insert_code answer) × Inserts eq key value old answer new
      × (code ≡ no_memory → LacksRoom hash_of key old)

  -- the earlier value is output, if there is one
  abbrev pub UpsertsOne : {V : Type 0} → V → V → MapView K V H → ℕ → MapView K V H → V → Type 0
  UpsertsOne {V} value before old code new after =
      (answer : Result (Option V) (AllocFailed (K × V))) × (code ≡ upsert_code answer) × Upserts eq key value old answer new
      × (code ≡ no_memory → LacksRoom hash_of key old) × (after ≡ unwrap_or (get eq old key) before)

module _ {K H : Type 0} (eq : K → K → Bool) (test : K → Bool) where
  -- the value removed under a key that passes a test is output, if there is one
  abbrev pub RemovesOne : {V : Type 0} → V → MapView K V H → ℕ → MapView K V H → V → Type 0
  RemovesOne {V} before old code new after =
      (answer : Option (K × V)) × (code ≡ found_code answer) × Removes eq test old answer new
      × (after ≡ unwrap_or (get_by test old) before)

  abbrev pub RemovesKey : MapView K (Unit {0}) H → ℕ → MapView K (Unit {0}) H → Type 0
  RemovesKey old code new = (answer : Option K) × (code ≡ found_code answer) × SetRemoves eq test old answer new

  -- the pair under a key that passes a test is removed, if there is one
  abbrev pub Drops : {V : Type 0} → MapView K V H → ℕ → MapView K V H → Type 0
  Drops {V} old code new = (answer : Option (K × V)) × (code ≡ found_code answer) × Removes eq test old answer new

  -- the pair under a key that passes a test is removed if it has a value; another value that it has is output, and nothing changes
  abbrev pub RemovesEqual : ℕ → ℕ → MapView K ℕ H → ℕ → MapView K ℕ H → ℕ → Type 0
  RemovesEqual value before old code new after = MatchOption (get_by test old) ((code ≡ absent) × (new ≡ old) × (after ≡ before))
      (λ held. (held ≡ value → (code ≡ ok) × ((own : K) × Takes eq old test (own, value) new) × (after ≡ before))
      × ((held ≡ value → ⊥) → (code ≡ present) × (new ≡ old) × (after ≡ held)))
