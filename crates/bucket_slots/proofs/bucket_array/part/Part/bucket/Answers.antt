use Rattle.bucket_slots.proofs.Words.{ap, arith, length, ◌∙◌, ◌≤◌}
use Rattle.bucket_slots.proofs.ArrayParts.{part_read, part_unmade}
use Rattle.bucket_slots.proofs.bucket_array.part.Part.bucket.Goals as goal

pub returns-then-offset-len : goal.returns-then-offset-len
returns-then-offset-len g c =
    let made = c.self.inside.made in
    part_read made.items _ _ _ _ _ c.self.view_is (omega (arith, made.ok.0, c.len.ensures, c.if-offset-len.true)) c.index.ensures

pub returns-then-self : goal.returns-then-self
returns-then-self g c =
    let made = c.self.inside.made in
    let past : length made.items ≤ c.args.offset = omega (arith, made.ok.0, c.len.ensures, c.if-offset-len.false) in
    let unmade = part_unmade made.items c.args.self.now _ _ _ c.self.view_is past c.requires.within in
    (rw c.requires.spare at c.index-then-self.ensures) ∙ (rw c.if-self.true at unmade)

pub returns-else-self : goal.returns-else-self
returns-else-self g c =
    let made = c.self.inside.made in
    let past : length made.items ≤ c.args.offset = omega (arith, made.ok.0, c.len.ensures, c.if-offset-len.false) in
    let unmade = part_unmade made.items c.args.self.now _ _ _ c.self.view_is past c.requires.within in
    (rw c.requires.spare at c.index-else-self.ensures) ∙ (rw c.if-self.false at unmade)

pub index-requires : goal.index-requires
index-requires g c = omega (arith, c.len.ensures, c.if-offset-len.true)

pub index-requires-then-self : goal.index-requires-then-self
index-requires-then-self g c = omega (arith, c.args.spare.now.ok.0, ap length c.requires.spare)

pub index-requires-else-self : goal.index-requires-else-self
index-requires-else-self g c = omega (arith, c.args.spare.now.ok.0, ap length c.requires.spare)
