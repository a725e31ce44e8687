use Rattle.bucket_slots.proofs.Words.{Bor, subst, sym, ℕ}
use Rattle.bucket_slots.specs.Layout.ArrayFields.{IsArray}
use Rattle.bucket_slots.proofs.Digests.{AreDigests-front}
use Rattle.bucket_slots.proofs.Spreading.{spread_homes}
use Rattle.bucket_slots.proofs.bucket_array.BucketArray.spread_own.Goals as goal

pub invariant_of-self : goal.invariant_of-self
invariant_of-self g c =
    let homes = spread_homes g.row.TYPE (λ (key : Bor g.row.K.Denot) (answer : ℕ). goal.F-post g c.args.hash_of.now key answer)
    _ _ _ _ c.self.invariant.0 _ _ c.spread.ensures.spreads in (
      subst (λ (n : ℕ). IsArray n c.self.inside.hash_offset c.self.inside.sample_size) (sym homes.1) c.self.invariant.0,
      AreDigests-front _ _ _ c.args.start c.self.invariant.1 (c.is_stale_from.ensures c.if-not-is_stale_from.false) homes.1
          c.spread.ensures.front,
    )

pub returns : goal.returns
returns g c =
    rw (← c.self.view_is)
    (spread_homes g.row.TYPE (λ (key : Bor g.row.K.Denot) (answer : ℕ). goal.F-post g c.args.hash_of.now key answer)
    _ _ _ _ c.self.invariant.0 _ _ c.spread.ensures.spreads).0
