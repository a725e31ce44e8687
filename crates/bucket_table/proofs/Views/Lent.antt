-- Arrays whose current array becomes the old one.
use Rattle.std.specs.Option.{IsSome}
use Rattle.bucket_table.proofs.Words.{ArraysView, BucketView, List, None, Option, Some, TicketState, arith, first_tickets, length, list_of}
use Rattle.bucket_table.proofs.Words.{refl, ℕ, ◌<◌, ◌≡◌}

-- an array with a bucket is there
pub some_held : {A : Type 0} (held : Option (List A)) → 0 < length (list_of held) → IsSome held
some_held None some = absurd (omega arith)
some_held (Some xs) some = refl

module _ {K V : Type 0} (minimum maximum : ℕ) (other : List (BucketView K V)) (held : Option (List (BucketView K V)))
    (tickets : TicketState) where
  -- arrays with this current one
  abbrev with_current : List (BucketView K V) → ArraysView K V
  with_current current = record { minimum = minimum; maximum = maximum; current = current; linked = other; tickets = tickets }

  pub pushed_seen : (now : ArraysView K V) (fresh array : List (BucketView K V)) (after : TicketState) (len : ℕ) → Some array ≡ held
      → after ≡ first_tickets len → len ≡ length now.current → with_current (list_of held) ≡ now
      → ◌≡◌ {A = ArraysView K V} (record { minimum = minimum; maximum = maximum; current = fresh; linked = array; tickets = after })
      (record now { current = fresh; linked = now.current; tickets = first_tickets (length now.current) })
  pushed_seen now fresh array after len stood first len_is is = rw (first, len_is) (rw (← is) (rw (← stood) refl))
