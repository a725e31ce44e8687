use Rattle.bucket_table.proofs.Words.{Bool, ap, refl, rules, sym, ◌∙◌}
use Rattle.bucket_table.specs.Layout.TicketFields.{state_of}
use Rattle.bucket_table.proofs.Rehash.Covering.{position_after}
use Rattle.bucket_table.proofs.Rehash.Handing.{ended, never_over, not_open}
use Rattle.bucket_table.proofs.tickets.Tickets.end.Goals as goal

pub returns-in_default : goal.returns-in_default
returns-in_default c =
    (not_open (state_of c.self.inside) _ c.deref.result.now c.args.ticket c.self.view_is c.deref.ensures.value c.in_default.ensures, refl)

pub returns-then-success-2 : goal.returns-then-success-2
returns-then-success-2 c =
    let moved = ap (λ (s : Bool). position_after s c.self.inside.position c.swap_remove-unit.result) (sym c.if-success-2.true) in
    let over = c.is_over.ensures in
    ended (state_of c.self.inside) _ _ c.deref.result.now c.in-Some.place c.swap_remove-unit.result _ _ _ _ c.self.view_is
    c.deref.ensures.value
    c.in-Some.ensures.0 c.in-Some.ensures.1 c.swap_remove-unit.ensures.value
    c.swap_remove-unit.ensures.items moved refl (search rules) (λ h. (c.if-success-2.true, over.0 h), λ h. over.1 h.1)

pub returns-else-success-2 : goal.returns-else-success-2
returns-else-success-2 c =
    let moved = c.min-self-inside.ensures ∙ ap (λ (s : Bool). position_after s
    c.self.inside.position c.swap_remove-unit.result) (sym c.if-success-2.false) in
    ended (state_of c.self.inside) _ _ c.deref.result.now c.in-Some.place c.swap_remove-unit.result _ _ _ _ c.self.view_is
    c.deref.ensures.value
    c.in-Some.ensures.0 c.in-Some.ensures.1 c.swap_remove-unit.ensures.value c.swap_remove-unit.ensures.items moved refl (search rules)
    (never_over _ _ c.if-success-2.false)
