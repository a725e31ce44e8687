use Rattle.std.proofs.Common.{◌≡◌, ◌∙◌, Some, ap, refl, rules, sym}
use Rattle.bucket_c.specs.declared.tables.Table.TheVariants.{Set}
use Rattle.bucket_c.proofs.set.bucket_set_insert.Goals as goal
use Rattle.bucket_c.proofs.set.bucket_set_insert.Goals.{in-Set, in_default-deref_mut}

pub returns : goal.returns
returns c = elim c.match-deref_mut.branch [
  | in-Set w ↦
      let was : c.args.handle.now.held.table ≡ Some (Set w.in-Set.set) =
      c.in-Some.ensures.taken ∙ ap (λ t. Some t) (sym c.deref_mut.ensures.value ∙ w.in-Set.is) in
      let now : c.put.new.self.held.table ≡ Some (Set w.insert_key-code.new.set) = c.put.ensures ∙ ap (λ b. Some b.value) w.table-is in
      rw (was, now, w.code-is) (w.insert_key-code.new.set, refl, w.insert_key-code.ensures)
  | in_default-deref_mut w ↦ search rules
]
