use Rattle.std.proofs.Common.{◌≡◌, ◌∙◌, Some, ap, refl, rules, sym}
use Rattle.bucket_c.specs.declared.tables.Table.TheVariants.{TextMap, Set, TextSet, Store}
use Rattle.bucket_c.proofs.any.bucket_shrink.Goals as goal
use Rattle.bucket_c.proofs.any.bucket_shrink.Goals.{in-Map, in-TextMap, in-Set, in-TextSet, in-Store, in_default-deref_mut}

pub returns : goal.returns
returns c = elim c.match-deref_mut.branch [
  | in-Map w ↦ search rules
  | in-TextMap w ↦
      let was : c.args.handle.now.held.table ≡ Some (TextMap w.in-TextMap.map) =
      c.in-Some.ensures.taken ∙ ap (λ t. Some t) (sym c.deref_mut.ensures.value ∙ w.in-TextMap.is) in
      let now : c.put.new.self.held.table ≡ Some (TextMap w.shrink-code-in-TextMap.new.map) =
      c.put.ensures ∙ ap (λ b. Some b.value) w.table-is in
      rw (was, now, w.code-is) (w.shrink-code-in-TextMap.new.map, refl, w.shrink-code-in-TextMap.ensures)
  | in-Set w ↦
      let was : c.args.handle.now.held.table ≡ Some (Set w.in-Set.set) =
      c.in-Some.ensures.taken ∙ ap (λ t. Some t) (sym c.deref_mut.ensures.value ∙ w.in-Set.is) in
      let now : c.put.new.self.held.table ≡ Some (Set w.shrink_keys-code.new.set) =
      c.put.ensures ∙ ap (λ b. Some b.value) w.table-is in
      rw (was, now, w.code-is) (w.shrink_keys-code.new.set, refl, w.shrink_keys-code.ensures)
  | in-TextSet w ↦
      let was : c.args.handle.now.held.table ≡ Some (TextSet w.in-TextSet.set) =
      c.in-Some.ensures.taken ∙ ap (λ t. Some t) (sym c.deref_mut.ensures.value ∙ w.in-TextSet.is) in
      let now : c.put.new.self.held.table ≡ Some (TextSet w.shrink_keys-code-in-TextSet.new.set) =
      c.put.ensures ∙ ap (λ b. Some b.value) w.table-is in
      rw (was, now, w.code-is) (w.shrink_keys-code-in-TextSet.new.set, refl, w.shrink_keys-code-in-TextSet.ensures)
  | in-Store w ↦
      let was : c.args.handle.now.held.table ≡ Some (Store w.in-Store.map) =
      c.in-Some.ensures.taken ∙ ap (λ t. Some t) (sym c.deref_mut.ensures.value ∙ w.in-Store.is) in
      let now : c.put.new.self.held.table ≡ Some (Store w.shrink-code-in-Store.new.map) =
      c.put.ensures ∙ ap (λ b. Some b.value) w.table-is in
      rw (was, now, w.code-is) (w.shrink-code-in-Store.new.map, refl, w.shrink-code-in-Store.ensures)
  | in_default-deref_mut w ↦ search rules
]
