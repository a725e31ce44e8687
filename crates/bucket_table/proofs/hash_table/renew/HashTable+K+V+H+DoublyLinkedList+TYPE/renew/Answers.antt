use Rattle.bucket_table.proofs.Words.{ArraysView, arith, rules, subst}
use Rattle.bucket_table.specs.Resize.Renewing.{Renews}
use Rattle.bucket_table.proofs.Resize.Renewing.{IsFresh, awaits_all, fresh_counted, power_in, renewed}
use Rattle.bucket_table.proofs.hash_table.renew.HashTable+K+V+H+DoublyLinkedList+TYPE.renew.Goals as goal

pub fresh-requires : goal.fresh-requires
fresh-requires g c =
    (omega arith, power_in c.args.capacity c.requires.power c.requires.large (omega (arith, c.ranges.capacity.fits)))

pub invariant_of-self : goal.invariant_of-self
invariant_of-self g c =
    let made = c.in_ok-fresh.ensures in
    let is : IsFresh c.args.capacity c.replace-source.new.dest =
    rw c.replace-source.ensures.after (record { array = made.array; full = made.full; others = made.others }) in
    rw c.new-self-inside.ensures (fresh_counted c.args.capacity c.replace-source.new.dest is g.K.PartialEq.eq g.met.K.Eq.laws
    (g.H.KeyHash.hash_of c.self.inside.hasher))

pub pour_all-requires : goal.pour_all-requires
pour_all-requires g c =
    let made = c.in_ok-fresh.ensures in
    let is : IsFresh c.args.capacity c.replace-source.new.dest =
    rw c.replace-source.ensures.after (record { array = made.array; full = made.full; others = made.others }) in
    let distinct = c.self.invariant.one_map.distinct in (
      search rules,
      (
        omega arith,
        (
          c.requires.cache,
          awaits_all g.met.K.Eq.laws g.H.KeyHash.hash_of c.args.capacity c.self.inside.hasher c.replace-source.result
              c.replace-source.new.dest is c.requires.large (rw c.replace-source.ensures.value distinct),
        ),
      ),
    )

pub returns-clause-renewed : goal.returns-clause-renewed
returns-clause-renewed g c =
    let made = c.in_ok-fresh.ensures in
    let is : IsFresh c.args.capacity c.replace-source.new.dest =
    rw c.replace-source.ensures.after (record { array = made.array; full = made.full; others = made.others }) in
    let all = renewed g.met.K.Eq.laws g.H.KeyHash.hash_of c.args.capacity c.self.inside.hasher c.replace-source.result
    c.replace-source.new.dest is c.pour_all.new.self c.pour_all.ensures in
    rw (← c.self.view_is)
    (subst (λ (a : ArraysView g.row.K.Denot g.row.V.Denot).
    Renews (g.H.KeyHash.hash_of c.self.inside.hasher) c.args.capacity a c.pour_all.new.self.arrays) c.replace-source.ensures.value all)
