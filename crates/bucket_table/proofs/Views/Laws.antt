-- What holds of arrays when the current one is new, and tickets without an array.
use Rattle.bucket_table.proofs.Words.{All, AreArrays, ArraysView, BucketView, IsNewArray, List, LosesNoUnit, TicketState, ℕ, [], arith}
use Rattle.bucket_table.proofs.Words.{cases_lt, first_tickets, inl, inr, length, refl, ◌*◌, ◌<◌, ◌∙◌, ◌∷◌, ◌≡◌, ◌≤◌}
use Rattle.bucket_table.specs.Rehash.Finishing.{IsUnopened}
use Rattle.bucket_table.specs.Rehash.State.{IsTicketState}
use Rattle.bucket_slots.specs.Sizing.{IsLength}
use Rattle.bucket_slots.proofs.ArrayNumbers.{len_fits}

module _ {K V : Type 0} (capacity minimum maximum : ℕ) (current linked fresh next : List (BucketView K V))
    (tickets after : TicketState) where
  pub fresh_fits : AreArrays (record { minimum = minimum; maximum = maximum; current = current; linked = linked; tickets = tickets })
      → capacity ≤ maximum → IsNewArray capacity fresh → IsLength (length fresh) → after.len ≡ length next
      → AreArrays (record { minimum = minimum; maximum = maximum; current = fresh; linked = next; tickets = after })
  fresh_fits arrays fits new long same_len =
      let (least, is, len_is) = new.len in
      record {
        maximum_power = arrays.maximum_power;
        bounded = arrays.bounded;
        within = len_fits capacity maximum (length fresh) arrays.maximum_power.power arrays.maximum_power.at_least fits new.len;
        long = λ some. long;
        beside = λ some. omega arith;
        tickets_len = same_len;
      }

-- tickets of no bucket: none is open
pub none_open : (tickets : TicketState) → IsTicketState tickets → tickets.len ≡ 0 → tickets.open_units ≡ []
none_open tickets is none = all_below tickets.len tickets.open_units none is.units_in_range
  where
    all_below : (len : ℕ) (units : List ℕ) → len ≡ 0 → All (λ unit. 64 * unit < len) units → units ≡ []
    all_below len [] none all = refl
    all_below len (u ∷ units) none all = let here : 64 * u < len = all 0 0 (omega arith) in absurd (omega arith)

-- without an old array no unit of it is lost
pub loses_none : {K V : Type 0} → LosesNoUnit {K = K} {V = V} [] (first_tickets 0)
loses_none = record {
  covered =
      record { same_len = refl; units_in_range = λ i d below. absurd (omega arith); done_or_open = λ unit below. absurd (omega arith) };
  going_on = λ some. absurd (omega arith);
  emptied = λ i d below. absurd (omega arith);
}

-- none is open in either case
pub unopened : {K V : Type 0} (arrays : ArraysView K V) → AreArrays arrays → IsTicketState arrays.tickets → IsUnopened arrays
    → arrays.tickets.open_units ≡ []
unopened arrays law tickets closed = elim (cases_lt 0 (length arrays.linked)) [
  | inl some ↦ closed some
  | inr none ↦ none_open arrays.tickets tickets (law.tickets_len ∙ omega (arith, none))
]
