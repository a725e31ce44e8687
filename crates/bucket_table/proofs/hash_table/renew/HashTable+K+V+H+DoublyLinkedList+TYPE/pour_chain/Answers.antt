use Rattle.bucket_table.proofs.Words.{List, [], ap, arith, length, pairs_ahead, rules, subst, sym, ◌∙◌, ◌∷◌}
use Rattle.bucket_table.specs.Resize.Renewing.{Awaits, chain_pairs, own_by_age}
use Rattle.bucket_table.proofs.Resize.ByAge.{own_same}
use Rattle.bucket_table.proofs.Resize.ChainByAge.{chain_ahead, first_taken, keeps_at_first, keeps_on}
use Rattle.bucket_table.proofs.Resize.Pouring.{awaits_first, awaits_rest, pour_awaits, pour_begins, pour_ends, pour_goes_on}
use Rattle.bucket_table.proofs.hash_table.renew.HashTable+K+V+H+DoublyLinkedList+TYPE.pour_chain.Goals as goal

pub pairs-init : goal.pairs-init
pairs-init g c =
    let bucket = c.args.bucket.now in
    let awaits = awaits_first g.met.K.Eq.laws c.args.self.now (chain_pairs bucket) (own_by_age bucket) c.requires.awaits in (
      pour_begins g.met.K.Eq.laws g.H.KeyHash.hash_of c.args.self.now (chain_pairs bucket) (pairs_ahead bucket c.own_slot-at.result)
          (chain_ahead bucket c.own_slot-at.result c.fact_sound.ensures.own_long c.own_slot-at.ensures) awaits,
      keeps_at_first bucket c.own_slot-at.result c.fact_sound.ensures.own_long c.own_slot-at.ensures,
    )

pub pour_pair-requires : goal.pour_pair-requires
pour_pair-requires g c =
    let taken = first_taken c.pairs.bucket c.remove-key.new.self c.pairs.at c.find_next.new.self c.remove-key.new.at c.remove-key.result
    (c.find_next.ensures.ahead c.pairs-test.true) c.remove-key.ensures.pair c.remove-key.ensures.pairs_ahead in (
      search rules,
      (
        c.requires.cache,
        pour_awaits g.met.K.Eq.laws g.H.KeyHash.hash_of c.args.self.now (chain_pairs c.args.bucket.now) c.pairs.self
            (pairs_ahead c.pairs.bucket c.pairs.at) (c.remove-key.result ∷ []) (pairs_ahead c.remove-key.new.self c.remove-key.new.at) taken
            c.pairs.invariant.0,
      ),
    )

pub pairs-smaller : goal.pairs-smaller
pairs-smaller g c =
    let taken = ap length (first_taken c.pairs.bucket c.remove-key.new.self c.pairs.at c.find_next.new.self c.remove-key.new.at
    c.remove-key.result (c.find_next.ensures.ahead c.pairs-test.true) c.remove-key.ensures.pair c.remove-key.ensures.pairs_ahead) in
    omega (arith, taken)

pub pairs-preserved : goal.pairs-preserved
pairs-preserved g c =
    let taken = first_taken c.pairs.bucket c.remove-key.new.self c.pairs.at c.find_next.new.self c.remove-key.new.at c.remove-key.result
    (c.find_next.ensures.ahead c.pairs-test.true) c.remove-key.ensures.pair c.remove-key.ensures.pairs_ahead in (
      pour_goes_on g.met.K.Eq.laws g.H.KeyHash.hash_of c.args.self.now (chain_pairs c.args.bucket.now) c.pairs.self c.pour_pair.new.self
          (pairs_ahead c.pairs.bucket c.pairs.at) (c.remove-key.result ∷ []) (pairs_ahead c.remove-key.new.self c.remove-key.new.at) taken
          c.pairs.invariant.0 c.pour_pair.ensures,
      keeps_on c.args.bucket.now c.pairs.bucket c.remove-key.new.self c.pairs.at c.find_next.new.self c.remove-key.new.at
          c.pairs.invariant.1 (sym c.find_next.ensures.found ∙ c.pairs-test.true) c.find_next.ensures.place c.remove-key.ensures.slots
          c.remove-key.ensures.place,
    )

pub returns : goal.returns
returns g c =
    let bucket = c.args.bucket.now in
    let poured = pour_ends g.met.K.Eq.laws g.H.KeyHash.hash_of c.args.self.now (chain_pairs bucket) c.pairs.self
    (pairs_ahead c.pairs.bucket c.pairs.at) (c.find_next.ensures.end c.pairs-test.false).ahead c.pairs.invariant.0 in
    let left = own_same bucket c.pairs.bucket c.pairs.invariant.1.own c.pairs.invariant.1.listed in
    record {
      poured = poured;
      left = left;
      awaits = subst (λ (pairs : List (g.row.K.Denot × g.row.V.Denot)). Awaits g.K.PartialEq.eq c.pairs.self pairs) (sym left)
          (awaits_rest g.met.K.Eq.laws g.H.KeyHash.hash_of c.args.self.now c.pairs.self (chain_pairs bucket) (own_by_age bucket)
          c.requires.awaits poured);
    }
