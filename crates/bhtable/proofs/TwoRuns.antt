-- Runs of the same calls on a map and on tickets are one run on a script's table.
use Rattle.std.proofs.Common.{◌≡◌, ℕ, ◌==◌, false, List, [], ◌∷◌, length, nat_eq, refl, sym, subst}
use Rattle.bucket_table.specs.Scripts.Calls.{Step}
use Rattle.bucket_table.specs.Rehash.Covered.{RehashState}
use Rattle.bucket_table.specs.Scripts.Hashes.{script_hash}
use Rattle.bucket_table.specs.Map.MapState.{MapState}
use Rattle.bucket_table.specs.Scripts.Runs.{Run}
use Rattle.bucket_table.specs.Scripts.TicketCalls.{TicketStep}
use Rattle.bucket_table.specs.declared.script.call.Call.{Call}
use Rattle.bucket_table.specs.declared.script.hashes.ScriptHash.{ScriptHash}
use Rattle.bucket_table.specs.declared.script.reply.Reply.{Reply}
use Rattle.bhtable.specs.Answers.{ScriptTable}
use Rattle.bhtable.specs.Layout.Sessions.{ScriptRun}

joined : (call : Call ℕ ℕ) (calls : List (Call ℕ ℕ)) (replies : List (Reply ℕ ℕ)) (old new : ScriptTable)
    → Run (Step nat_eq script_hash) old.map (call ∷ calls) replies new.map
    → Run TicketStep old.tickets (call ∷ calls) replies new.tickets → ScriptRun old (call ∷ calls) replies new
joined call calls [] old new maps tickets = absurd maps
joined call [] (reply ∷ []) old new (map, step, last) (state, ticket_step, last_state) = (
  new,
  (
    subst (λ (m : MapState ℕ ℕ ScriptHash). Step nat_eq script_hash old.map call reply m) (sym last) step,
    subst (λ (t : RehashState). TicketStep old.tickets call reply t) (sym last_state) ticket_step,
  ),
  refl,
)
joined call [] (reply ∷ more ∷ replies) old new (map, step, never) tickets = absurd never
joined call (next ∷ calls) (reply ∷ replies) old new (map, step, maps) (state, ticket_step, states) =
    let between : ScriptTable = record { map = map; tickets = state; len = new.len } in
    (between, (step, ticket_step), joined next calls replies between new maps states)

-- if there is a call, so that the number of buckets may change
pub one_run : (calls : List (Call ℕ ℕ)) (replies : List (Reply ℕ ℕ)) (old new : ScriptTable) (len : ℕ) → len ≡ length calls
    → false ≡ (len == 0) → Run (Step nat_eq script_hash) old.map calls replies new.map
    → Run TicketStep old.tickets calls replies new.tickets → ScriptRun old calls replies new
one_run [] replies old new len same some maps tickets =
    let never : false ≡ (0 == 0) = rw same at some in
    absurd (cc)
one_run (call ∷ calls) replies old new len same some maps tickets = joined call calls replies old new maps tickets
