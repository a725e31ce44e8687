use Rattle.bucket_table.proofs.Words.{refl, same_Some, subst, sym, true, ◌∙◌, ◌≡◌}
use Rattle.bucket_table.proofs.Map.Replacing.{replacing}
use Rattle.bucket_table.proofs.Map.Counted.{counted_same, len_replaced}
use Rattle.bucket_table.proofs.hash_table.HashTable.replace_at.Goals as goal

pub invariant_of-self : goal.invariant_of-self
invariant_of-self g c =
    let o = c.args.spot.now in
    let stands = rw (← c.self.view_is) at c.requires.stands in
    let own = rw (← c.self.view_is) at c.requires.own_hash in
    let here = c.replace_slot.ensures.pair in
    let same = subst (λ p. g.K.PartialEq.eq p.0 c.args.key ≡ true) (same_Some _ _ (sym stands.slot ∙ here)) stands.there.1 in
    let x = replacing g.met.K.Eq.laws g.H.KeyHash.hash_of g.row.TYPE o.side o.index c.self.invariant.one_map
    stands.within o.at c.replace_slot.result (c.args.key, c.args.value) c.args.hash here own
    (g.met.H.KeyHash.alike c.self.inside.hasher c.replace_slot.result.0 c.args.key same) same in
    rw c.replace_slot.ensures.arrays (counted_same c.self.invariant x.one_map (len_replaced x.map))

pub returns-clause-map : goal.returns-clause-map
returns-clause-map g c =
    let o = c.args.spot.now in
    let stands = rw (← c.self.view_is) at c.requires.stands in
    let own = rw (← c.self.view_is) at c.requires.own_hash in
    let here = c.replace_slot.ensures.pair in
    let same = subst (λ p. g.K.PartialEq.eq p.0 c.args.key ≡ true) (same_Some _ _ (sym stands.slot ∙ here)) stands.there.1 in
    rw (← c.self.view_is, c.replace_slot.ensures.arrays) (replacing g.met.K.Eq.laws g.H.KeyHash.hash_of g.row.TYPE o.side o.index
    c.self.invariant.one_map stands.within o.at c.replace_slot.result (c.args.key, c.args.value) c.args.hash here own
    (g.met.H.KeyHash.alike c.self.inside.hasher c.replace_slot.result.0 c.args.key same) same).map

pub returns-clause-table : goal.returns-clause-table
returns-clause-table g c = rw (← c.self.view_is, c.replace_slot.ensures.arrays) refl
