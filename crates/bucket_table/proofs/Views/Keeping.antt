-- What is kept, one call after another.
use Rattle.bucket_table.proofs.Words.{ArraysView, BucketView, IsPermutation-refl, IsPermutation-trans, Keeps, KeepsArrays, KeepsOpenTickets}
use Rattle.bucket_table.proofs.Words.{List, TicketState, entries_of, tombstones_of, no_new-refl, no_new-trans, refl, ◌∙◌}
use Rattle.bucket_table.specs.Views.Keeping.{StayKilled}
use Rattle.bucket_table.proofs.Moves.CarriedOrder.{order_both, order_same}

module _ {K V : Type 0} where
  pub keeps_same : (old : ArraysView K V) → Keeps old old
  keeps_same old = record {
    pairs = IsPermutation-refl (entries_of old);
    marks = no_new-refl (tombstones_of old);
    minimum = refl;
    maximum = refl;
    open_tickets = λ unit. refl;
  }

  pub keeps_both : (old between new : ArraysView K V) → Keeps old between → Keeps between new → Keeps old new
  keeps_both old between new first second = record {
    pairs = IsPermutation-trans _ _ _ first.pairs second.pairs;
    marks = no_new-trans _ _ _ first.marks second.marks;
    minimum = second.minimum ∙ first.minimum;
    maximum = second.maximum ∙ first.maximum;
    open_tickets = λ unit. second.open_tickets unit ∙ first.open_tickets unit;
  }

  pub kept_none : (old : ArraysView K V) → KeepsArrays old old
  kept_none old = record { keeps = keeps_same old; current_len = refl; order = order_same old }

  pub kept_both : (old between new : ArraysView K V) → KeepsArrays old between → KeepsArrays between new → KeepsArrays old new
  kept_both old between new first second =
      record {
        keeps = keeps_both old between new first.keeps second.keeps;
        current_len = second.current_len ∙ first.current_len;
        order = order_both old between new first.keeps.pairs second.keeps.pairs first.order second.order;
      }

  pub stay_killed_same : (a : List (BucketView K V)) → StayKilled a a
  stay_killed_same a = record { len = refl; still = λ i dead. dead }

pub bag_both : (a b c : TicketState) → KeepsOpenTickets a b → KeepsOpenTickets b c → KeepsOpenTickets a c
bag_both a b c first second = λ unit. second unit ∙ first unit

pub bag_same : (a : TicketState) → KeepsOpenTickets a a
bag_same a = λ unit. refl
