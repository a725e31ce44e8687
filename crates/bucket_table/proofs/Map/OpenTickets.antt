-- The open tickets stay, as each call's statement about the arrays implies.
use Rattle.bucket_table.proofs.Words.{ArraysView, Bool, BucketView, Current, Err, KeepsOpenTickets, None, Ok, Option, Place, ResizesIf}
use Rattle.bucket_table.proofs.Words.{Result, ShrinksThenPasses, Side, Some, TableView, ℕ, arrays_with, bucket_on, cases_lt, false, inl, inr, refl, true, ◌+◌, ◌-◌}
use Rattle.bucket_table.specs.Map.ByKey.{ChangesAt, InsertsAt, PreparesThen, ShrinksAt}
use Rattle.bucket_table.specs.Map.Finding.{Finds, FindsThen}
use Rattle.bucket_table.specs.Resize.Resizing.{Releases, Reserves, Resizes, TriesResize, with_minimum}
use Rattle.bucket_table.specs.declared.hash_table.ResizeRule.{ResizeRule}
use Rattle.bucket_table.specs.declared.arrays.Missing.{Missing}
use Rattle.bucket_slots.specs.declared.not_inserted.NotInserted.{NotInserted}
use Rattle.bucket_slots.specs.declared.not_inserted.NotInserted.TheVariants.{Memory, Present}
use Rattle.bucket_table.specs.Map.Putting.{EvictsAt}
use Rattle.bucket_table.specs.Map.Counting.{CountsAndResizes}
use Rattle.bucket_table.specs.Resize.Asking.{RemovesAndShrinks, ShrinksBy}
use Rattle.bucket_table.proofs.Resize.Sparse.{shrinks_keep}
use Rattle.bucket_table.proofs.Rehash.TicketSteps.{bag_set, bag_with}
use Rattle.bucket_table.proofs.Views.Keeping.{bag_both, bag_same}

module _ {K V : Type 0} where
  -- a resize pushes an array only if no ticket is open
  pub bag_tried : {E : Type 0} (old : ArraysView K V) (r : Result Bool E) (new : ArraysView K V) → TriesResize old r new
      → KeepsOpenTickets old.tickets new.tickets
  bag_tried old (Ok false) new (keep, same) = rw same (bag_same old.tickets)
  bag_tried old (Ok true) new (inl (plan, given)) = rw given.new_is (bag_same old.tickets)
  bag_tried old (Ok true) new (inr (capacity, plan, pushed)) = rw (pushed.new_is, pushed.none_open) (λ unit. refl)
  bag_tried old (Err e) new (capacity, plan, same) = rw same (bag_same old.tickets)

  pub bag_resized : (old new : ArraysView K V) → Resizes old new → KeepsOpenTickets old.tickets new.tickets
  bag_resized old new r = bag_tried old r.0 new r.1

  pub bag_resized_if : {Asked : Type 0} (old new : ArraysView K V) → ResizesIf Asked old new → KeepsOpenTickets old.tickets new.tickets
  bag_resized_if old new (inl did) = bag_resized old new did.1
  bag_resized_if old new (inr stays) = rw stays.1 (bag_same old.tickets)

  bag_by : (left : Option ℕ) (Emptied : Type 0) (index : ℕ) (old new : ArraysView K V) → ShrinksBy left Emptied index old new
      → KeepsOpenTickets old.tickets new.tickets
  bag_by None Emptied index old new r = bag_resized_if old new r
  bag_by (Some pairs) Emptied index old new r = (shrinks_keep pairs old new r).open_tickets

  pub bag_shrunk : (left : Option ℕ) (old : ArraysView K V) (side : Side) (i : ℕ) (b : BucketView K V) (new : ArraysView K V)
      → RemovesAndShrinks left old side i b new → KeepsOpenTickets old.tickets new.tickets
  bag_shrunk left old side i b new r =
      bag_both old.tickets (arrays_with old side i b).tickets new.tickets (bag_with old side i b) (bag_by left _ i _ new r)

  pub bag_reserved : (additional : ℕ) (old : ArraysView K V) (answer : ℕ) (new : ArraysView K V) → Reserves additional old answer new
      → KeepsOpenTickets old.tickets new.tickets
  bag_reserved additional old answer new r = elim (cases_lt (old.maximum - old.minimum) additional) [
    | inl less ↦ rw (r.too_much less).1 (bag_same old.tickets)
    | inr enough ↦ bag_resized (with_minimum old (old.minimum + additional)) new (r.raised enough).1
  ]

  pub bag_released : (released : ℕ) (old : ArraysView K V) (answer : ℕ) (new : ArraysView K V) → Releases released old answer new
      → KeepsOpenTickets old.tickets new.tickets
  bag_released released old answer new r = elim (cases_lt old.minimum released) [
    | inl less ↦ rw (r.too_much less).1 (bag_same old.tickets)
    | inr enough ↦ bag_resized (with_minimum old (old.minimum - released)) new (r.lowered enough).1
  ]

  pub bag_counted : (old new : ArraysView K V) → CountsAndResizes old new → KeepsOpenTickets old.tickets new.tickets
  bag_counted old new c =
      bag_both old.tickets c.between.tickets new.tickets c.kept.keeps.open_tickets (bag_resized_if c.between new c.resized)

  pub bag_left : {A : Type 0} (index_of : A → ℕ) (side : Side) (i : ℕ) (old : ArraysView K V) (r : Result A Missing) (new : ArraysView K V)
      → ShrinksThenPasses index_of side i old r new → KeepsOpenTickets old.tickets new.tickets
  bag_left index_of side i old r new d =
      bag_both old.tickets d.between.tickets new.tickets (bag_resized_if old d.between d.asked) d.passes.kept.keeps.open_tickets

-- the calls by key
module _ {K V H : Type 0} where
  bag_then : (kind hash : ℕ) (old new : TableView K V H) (Then : TableView K V H → Type 0) → PreparesThen kind hash old Then
      → ((between : TableView K V H) → Then between → KeepsOpenTickets between.arrays.tickets new.arrays.tickets)
      → KeepsOpenTickets old.arrays.tickets new.arrays.tickets
  bag_then kind hash old new Then p after =
      bag_both old.arrays.tickets p.between.arrays.tickets new.arrays.tickets p.prepared.kept.keeps.open_tickets (after p.between p.done)

  module _ (matches : K → Bool) where
    changed_at : (change : BucketView K V → Place → BucketView K V) (found : Bool) (old new : TableView K V H)
        → ChangesAt matches change found old new → KeepsOpenTickets old.arrays.tickets new.arrays.tickets
    changed_at change true old new (side, i, at, stands, is) = bag_set old new side i _ is
    changed_at change false old new same = rw same (bag_same old.arrays.tickets)

    shrunk_at : (change : BucketView K V → Place → BucketView K V) (left : Option ℕ) (found : Bool) (old new : TableView K V H)
        → ShrinksAt matches change left found old new → KeepsOpenTickets old.arrays.tickets new.arrays.tickets
    shrunk_at change left true old new (side, i, at, stands, is) =
        bag_shrunk left old.arrays side i (change (bucket_on old.arrays side i) at) new.arrays is
    shrunk_at change left false old new same = rw same (bag_same old.arrays.tickets)

  evicted_from : {E : Type 0} (hash : ℕ) (old : TableView K V H) (r : Result (Option (K × V)) E) (new : TableView K V H)
      → EvictsAt hash old r new → KeepsOpenTickets old.arrays.tickets new.arrays.tickets
  evicted_from hash old (Ok evicted) new (inl (none, nothing, same)) = rw same (bag_same old.arrays.tickets)
  evicted_from hash old (Ok evicted) new (inr (ready, i, home, goes, is)) = bag_set old new Current i _ is
  evicted_from hash old (Err e) new (unready, same) = rw same (bag_same old.arrays.tickets)

  module _ (kind hash : ℕ) (old new : TableView K V H) where
    pub bag_changed : (matches : K → Bool) (change : BucketView K V → Place → BucketView K V) (found : Bool)
        → PreparesThen kind hash old (λ between. ChangesAt matches change found between new)
        → KeepsOpenTickets old.arrays.tickets new.arrays.tickets
    bag_changed matches change found p =
        bag_then kind hash old new _ p (λ between is. changed_at matches change found between new is)

    -- also if the arrays may then shrink
    pub bag_taken : (matches : K → Bool) (change : BucketView K V → Place → BucketView K V) (left : Option ℕ) (found : Bool)
        → PreparesThen kind hash old (λ between. ShrinksAt matches change left found between new)
        → KeepsOpenTickets old.arrays.tickets new.arrays.tickets
    bag_taken matches change left found p =
        bag_then kind hash old new _ p (λ between is. shrunk_at matches change left found between new is)

    pub bag_evicted : {E : Type 0} (r : Result (Option (K × V)) E) → PreparesThen kind hash old (λ between. EvictsAt hash between r new)
        → KeepsOpenTickets old.arrays.tickets new.arrays.tickets
    bag_evicted r p = bag_then kind hash old new _ p (λ between is. evicted_from hash between r new is)

  bag_finds : {E : Type 0} (rule : ResizeRule) (kind hash : ℕ) (old : TableView K V H) (r : Result (Side × ℕ) E) (new : TableView K V H)
      → Finds rule kind hash old r new → KeepsOpenTickets old.arrays.tickets new.arrays.tickets
  bag_finds rule kind hash old (Ok found) new finds = finds.kept.open_tickets
  bag_finds rule kind hash old (Err e) new refused = refused.prepared.kept.keeps.open_tickets

  bag_found : {rule : ResizeRule} (kind hash : ℕ) (old new : TableView K V H)
      (Then : Result (Side × ℕ) (Unit {0}) → TableView K V H → Type 0) → FindsThen rule kind hash old Then
      → ((answer : Result (Side × ℕ) (Unit {0})) (between : TableView K V H) → Then answer between
      → KeepsOpenTickets between.arrays.tickets new.arrays.tickets)
      → KeepsOpenTickets old.arrays.tickets new.arrays.tickets
  bag_found kind hash old new Then f after =
      bag_both old.arrays.tickets f.between.arrays.tickets new.arrays.tickets (bag_finds _ kind hash old f.answer f.between f.found)
      (after f.answer f.between f.done)

  inserted_at : {A : Type 0} (kind : ℕ) (keeps : ℕ → Bool) (pair : K × V) (byte : ℕ) (old : TableView K V H)
      (r : Result A (NotInserted K V)) (answer : Result (Side × ℕ) (Unit {0})) (new : TableView K V H)
      → InsertsAt kind keeps pair byte old r answer new → KeepsOpenTickets old.arrays.tickets new.arrays.tickets
  inserted_at kind keeps pair byte old (Ok done) (Ok found) new is = bag_set old new found.0 found.1 _ is
  inserted_at kind keeps pair byte old (Ok done) (Err e) new none = absurd none
  inserted_at kind keeps pair byte old (Err (Present k v)) answer new same = rw same (bag_same old.arrays.tickets)
  inserted_at kind keeps pair byte old (Err (Memory k v)) (Ok found) new (full, same) = rw same (bag_same old.arrays.tickets)
  inserted_at kind keeps pair byte old (Err (Memory k v)) (Err e) new same = rw same (bag_same old.arrays.tickets)

  module _ (kind hash : ℕ) (old new : TableView K V H) where
    pub bag_inserted : {rule : ResizeRule} {A : Type 0} (keeps : ℕ → Bool) (pair : K × V) (byte : ℕ) (r : Result A (NotInserted K V))
        → FindsThen rule kind hash old (λ answer between. InsertsAt kind keeps pair byte between r answer new)
        → KeepsOpenTickets old.arrays.tickets new.arrays.tickets
    bag_inserted keeps pair byte r f =
        bag_found kind hash old new _ f (λ answer between is. inserted_at kind keeps pair byte between r answer new is)
