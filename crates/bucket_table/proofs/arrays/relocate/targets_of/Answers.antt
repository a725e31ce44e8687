use Rattle.bucket_table.proofs.Words.{ap, refl, sym, ◌∙◌}
use Rattle.bucket_table.proofs.Moves.Relocating.{bound, targets_of}
use Rattle.bucket_table.proofs.arrays.relocate.targets_of.Goals as goal

pub returns : goal.returns
returns g c =
    let hash = g.H.KeyHash.hash_of c.args._hasher.now in
    let at = targets_of hash c.requires.law c.requires.within c.requires.len c.len.ensures.value
    (rw (c.len-len.ensures.value, ← c.requires.len) at c.len-len.ensures.length) c.len.ensures.length
    c.from_index_to_range.ensures.range c.from_index_to_range.ensures.within in
    let alive = ap (λ b. b.killed) (sym c.bucket.ensures) ∙ sym c.is_killed.ensures ∙ c.if-is_killed.false in
    record {
      killed = tt;
      alive = alive;
      targets = at;
      bound = bound hash at refl c.from_index_to_range.ensures.some alive c.requires.len;
    }
