use Rattle.std.proofs.Common.{ap, ◌∙◌}
use Rattle.bucket_slots.specs.Recency.{is_listed}
use Rattle.bucket_slots.proofs.Recency.Orders.{is_listed-order_without}
use Rattle.test_layers.proofs.recency_lists.Recent.append.Goals as goal

pub append-found-requires-clause-not_listed : goal.append-found-requires-clause-not_listed
append-found-requires-clause-not_listed g c =
    rw c.unwrap_or-self-inside.ensures
    (ap (λ order. is_listed order c.args.slot) c.remove-left.ensures.order
    ∙ is_listed-order_without _ c.args.slot)
