use Rattle.bucket_slots.proofs.Words.{arith, length, vec_capacity, ◌∙◌, ◌≡◌}
use Rattle.bucket_slots.proofs.ArrayParts.{released_part}
use Rattle.bucket_slots.proofs.bucket_array.part.Part.release.Goals as goal
use Rattle.bucket_slots.proofs.bucket_array.part.Part.release.Goals.{in-Ok, in_default}

pub returns-after-with_capacity : goal.returns-after-with_capacity
returns-after-with_capacity g c =
    let made = c.self.inside.made in
    let full : length made.items ≡ vec_capacity made =
    omega (arith, made.ok.0, c.len.ensures, c.capacity.ensures, c.if-len-capacity.true) in
    let spent = c.are_spent.ensures c.if-are_spent.true in
    let cleared = c.clear.ensures in
    elim c.match-with_capacity.branch [
      | in-Ok w ↦
          let len = w.in-Ok.ensures.exact ∙ c.capacity-then-are_spent.ensures ∙ cleared.capacity in
          rw w.self-inside-is (released_part _ _ _ _ c.self.inside.released full spent w.in-Ok.ensures.items len ∙ c.self.view_is)
      | in_default w ↦
          rw w.self-inside-is (released_part _ _ _ _ c.self.inside.released full spent cleared.items cleared.capacity ∙ c.self.view_is)
    ]
