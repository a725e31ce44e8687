use Rattle.bucket_slots.specs.Recency.{order_and_zeros}
use Rattle.bucket_slots.specs.declared.lru.doubly_linked_list.DoublyLinkedList.{DoublyLinkedList}
use Rattle.bucket_slots.proofs.Words.{BucketView, IsRecencyOrder, order_in, ap, arith, length, length-take, subst, sym, ◌∙◌}
use Rattle.bucket_slots.proofs.Recency.ByUse.{adds_all, adds_first, adds_slot, few, has_room, passes_listed}
use Rattle.bucket_slots.proofs.bucket.by_use.Bucket+K+V+DoublyLinkedList+TYPE.slots_by_use.Goals as goal
use Rattle.bucket_slots.proofs.bucket.by_use.Bucket+K+V+DoublyLinkedList+TYPE.slots_by_use.Goals.{then-not-listed, else-not-listed}

pub others-init : goal.others-init
others-init g c =
    let own = ap (λ (bucket : BucketView g.row.K.Denot g.row.V.Denot). bucket.listed) c.self.view_is in
    let same = ap (λ (list : DoublyLinkedList). order_in list.pairs c.self.inside.tail) c.copy.ensures ∙ own in
    adds_first _ _ _ (subst IsRecencyOrder own c.self.invariant.0.links.is_order)
    (c.take_order-len.ensures.slots ∙ ap order_and_zeros same) (c.take_order-len.ensures.number ∙ ap length same)

pub slice_bounds-slots-end : goal.slice_bounds-slots-end
slice_bounds-slots-end g c = omega (arith, few _ _ _ _ c.others.invariant, c.type_inv.slots)

pub slice_bounds-contains-end : goal.slice_bounds-contains-end
slice_bounds-contains-end g c = sym (length-take _ _ ∙ omega (arith, few _ _ _ _ c.others.invariant, c.others-test.array_long))

pub bounds-slots-len : goal.bounds-slots-len
bounds-slots-len g c = has_room _ _ _ _ c.others.invariant c.others-test.true (sym c.contains-listed.ensures.value ∙ c.if-not-listed.true)

pub overflow_add-len : goal.overflow_add-len
overflow_add-len g c =
    omega (arith, has_room _ _ _ _ c.others.invariant c.others-test.true (sym c.contains-listed.ensures.value ∙ c.if-not-listed.true))

pub others-preserved : goal.others-preserved
others-preserved g c = elim c.if-not-listed.branch [
  | then-not-listed w ↦ rw (w.slots-is, w.len-is) (adds_slot _ _ _ _ c.others.invariant c.others-test.true
      (sym c.contains-listed.ensures.value ∙ w.if-not-listed.true))
  | else-not-listed w ↦ rw (w.slots-is, w.len-is) (passes_listed _ _ _ _ c.others.invariant c.others-test.true
      (sym c.contains-listed.ensures.value ∙ w.if-not-listed.false))
]

pub returns : goal.returns
returns g c =
    let own = ap (λ (bucket : BucketView g.row.K.Denot g.row.V.Denot). bucket.listed) c.self.view_is in
    adds_all _ _ _ _ (subst IsRecencyOrder own c.self.invariant.0.links.is_order) c.others.invariant (omega (arith, c.others-test.false))
