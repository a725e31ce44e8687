-- After an old array was dropped, no call of the rehash makes one.
use Rattle.bucket_table.proofs.Words.{All, Bool, Err, List, None, Ok, Option, Result, Some, Starts, ℕ, [], arith, false, length_permutation}
use Rattle.bucket_table.proofs.Words.{refl, suc, true, ◌∷◌, ◌≡◌}
use Rattle.bucket_table.specs.Scripts.Runs.{Run}
use Rattle.bucket_table.specs.Scripts.TicketCalls.{EndsTicket, IsTicketCall, TicketStep, no_rehash}
use Rattle.bucket_table.specs.declared.tickets.TicketError.{TicketError}
use Rattle.bucket_table.specs.declared.tickets.TicketError.TheVariants.{NotDone, NotOpen}
use Rattle.bucket_table.specs.Rehash.Covered.{RehashState}
use Rattle.bucket_table.specs.declared.script.call.Call.{Call}
use Rattle.bucket_table.specs.declared.script.call.Call.TheVariants.{End, Peek, Start, Work}
use Rattle.bucket_table.specs.declared.script.reply.Reply.{Reply}
use Rattle.bucket_table.specs.declared.script.reply.Reply.TheVariants.{Done, Ended, Fault, NoTicket, NoWork, Refused, Ticket}

-- without an old array, the calls of the rehash lead to none
none_started : (answer : Option ℕ) (after : RehashState) → Starts no_rehash.tickets answer after.tickets → after.killed ≡ []
    → after ≡ no_rehash
none_started None after starts killed = rw (starts.1, killed) refl
none_started (Some ticket) after starts killed = let left = starts.is_left in absurd (omega (arith, left))

none_ended : (ticket : ℕ) (success : Bool) (answer : Result Bool TicketError) (after : RehashState)
    → EndsTicket no_rehash ticket success answer after → after ≡ no_rehash
none_ended ticket success (Ok true) after ends = ends.2
none_ended ticket success (Ok false) after ends = absurd (omega (arith, length_permutation _ _ ends.0.3.open_is))
none_ended ticket success (Err NotOpen) after ends = rw (ends.0.1, ends.1) refl
none_ended ticket success (Err NotDone) after ends = rw (ends.0.3, ends.1) refl

module _ {K V : Type 0} where
  none_after : (call : Call K V) (reply : Reply K V) (after : RehashState) → IsTicketCall call → TicketStep no_rehash call reply after
      → after ≡ no_rehash
  none_after Start (Ticket ticket) after of h = none_started (Some ticket) after h.0 h.1
  none_after Start NoTicket after of h = none_started None after h.0 h.1
  none_after Start reply after of h = absurd h
  none_after (Work i) Done after of h = absurd (let less = h.0 in omega (arith, less))
  none_after (Work i) NoWork after of h = h.1
  none_after (Work i) Refused after of h = h.2
  none_after (Work i) reply after of h = absurd h
  none_after (End w s) (Ended gone) after of h = none_ended w s (Ok gone) after h
  none_after (End w s) (Fault error) after of h = none_ended w s (Err error) after h
  none_after (End w s) reply after of h = absurd h
  none_after (Peek k) reply after of h = h
  none_after call reply after of h = absurd of

  pub gone : (calls : List (Call K V)) (replies : List (Reply K V)) (last : RehashState) → All (λ (call : Call K V). IsTicketCall call)
      calls
      → Run (λ (m : RehashState) (call : Call K V) (reply : Reply K V) (n : RehashState). TicketStep m call reply n) no_rehash calls replies
      last → last ≡ no_rehash
  gone [] [] last all ran = ran
  gone [] (r ∷ replies) last all ran = absurd ran
  gone (c ∷ calls) [] last all ran = absurd ran
  gone (c ∷ calls) (r ∷ replies) last all ran =
      let first : ran.0 ≡ no_rehash = none_after c r ran.0 (all 0 c (omega arith)) ran.1 in
      gone calls replies last (λ i d below. all (suc i) d (omega arith)) (rw first at ran.2)
