use Rattle.bucket_table.proofs.Words.{arith, true}
use Rattle.bucket_table.proofs.Map.Cloning.{all_cloned, fewer_ahead, none_cloned, one_cloned}
use Rattle.bucket_table.proofs.arrays.copy.clone_bucket.Goals as goal

pub pairs-init : goal.pairs-init
pairs-init g c = (none_cloned _ _ _ _ _ _ _ c.null-at.ensures c.requires.empty, c.own_after-left.ensures.some)

pub next_pair-requires : goal.next_pair-requires
next_pair-requires g c = (omega arith, (omega arith, c.pairs.invariant.1))

pub entry-requires : goal.entry-requires
entry-requires g c = (omega arith, (omega arith, c.next_pair.ensures.live c.pairs-test.true))

pub pairs-smaller : goal.pairs-smaller
pairs-smaller g c = fewer_ahead (g.H.KeyHash.hash_of c.args.hasher.now) (λ key value made. goal.F-post g c.args.make.now key value made)
    0 0 _ _ _ (c.next_pair.ensures.moves c.pairs-test.true)

pub pairs-preserved : goal.pairs-preserved
pairs-preserved g c =
    let moves = c.next_pair.ensures.moves c.pairs-test.true in (
      one_cloned _ _ _ _ _ _ (λ epoch. true) _ _ _ _ _ _ _ _ _ c.pairs.invariant.0 moves c.entry.ensures.pair c.in-Some.ensures
          c.hash_one-hash.ensures c.bucket_index.ensures c.if-bucket_index-index.false c.in-Ok.ensures.slots,
      c.next_pair.ensures.own,
    )

pub returns : goal.returns
returns g c _ =
    rw (← c.bucket-source.ensures)
    (all_cloned _ _ _ _ _ _ _ c.pairs.invariant.0 (c.next_pair.ensures.end c.pairs-test.false))
