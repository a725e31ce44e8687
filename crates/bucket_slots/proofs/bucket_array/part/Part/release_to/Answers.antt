use Rattle.bucket_slots.proofs.Words.{[], ap, arith, common_steps, length, sym, vec_capacity, with_unmade, ◌∙◌, ◌≡◌}
use Rattle.bucket_slots.proofs.ArrayParts.{released_part}
use Rattle.bucket_slots.proofs.bucket_array.part.Part.release_to.Goals as goal

pub returns-clause-kept : goal.returns-clause-kept
returns-clause-kept g c =
    let made = c.self.inside.made in
    let fresh = c.fresh.inside.made in
    let full : length made.items ≡ vec_capacity made = omega
    (arith, made.ok.0, c.len.ensures, c.capacity-3.ensures, c.if-len-capacity.false) in
    let none : fresh.items ≡ [] = grind (arith, common_steps) in
    let same : vec_capacity fresh ≡ vec_capacity made = omega (arith, c.capacity.ensures, c.capacity-2.ensures, c.if-capacity.false) in
    rw c.swap.ensures.x_after (released_part made.items fresh.items (vec_capacity made) (vec_capacity fresh) c.self.inside.released full
    (c.are_spent.ensures c.if-not-are_spent.false) none same ∙ c.self.view_is)

pub returns-clause-fresh : goal.returns-clause-fresh
returns-clause-fresh g c =
    let made = c.self.inside.made in
    let fresh = c.fresh.inside.made in
    let none : fresh.items ≡ [] = grind (arith, common_steps) in
    let same : vec_capacity fresh ≡ vec_capacity made = omega (arith, c.capacity.ensures, c.capacity-2.ensures, c.if-capacity.false) in
    let released = c.fresh.inside.released in
    let is = ap (λ l. with_unmade l (vec_capacity c.clear.new.self) released) c.clear.ensures.items
    ∙ ap (λ n. with_unmade [] n released) (c.clear.ensures.capacity ∙ sym same)
    ∙ ap (λ l. with_unmade l (vec_capacity fresh) released) (sym none) in
    rw c.swap.ensures.y_after (is ∙ c.fresh.view_is)
