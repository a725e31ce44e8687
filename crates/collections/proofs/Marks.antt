-- A table's insertion adds no tombstone.
use Rattle.std.proofs.Common.{ℕ, ◌≡◌, Bool, true, false, Result, Ok, Err, List, [], ◌∷◌, ap, arith, length, refl, sym}
use Rattle.std.proofs.Common.{subst}
use Rattle.bucket_slots.specs.BucketView.{BucketView, marks_in}
use Rattle.bucket_slots.specs.Clearing.{looks_at_marks, slots_after_insertion}
use Rattle.bucket_slots.specs.Marking.{HasNoNewMark}
use Rattle.bucket_slots.proofs.CallerLemmas.{no_new-append, no_new-none, no_new-refl, no_new-same, no_new-trans}
use Rattle.bucket_table.specs.Views.ArraysView.{ArraysView, TableView, tombstones_of}
use Rattle.bucket_table.specs.Views.Sides.{arrays_with, bucket_on}
use Rattle.bucket_table.specs.Rehash.Relocation.{marks_among}
use Rattle.bucket_table.specs.Map.ByKey.{InsertsAt}
use Rattle.bucket_table.specs.Map.Finding.{Finds, FindsThen}
use Rattle.bucket_table.specs.declared.hash_table.ResizeRule.TheVariants.{Counted}
use Rattle.bucket_slots.specs.declared.not_inserted.NotInserted.{NotInserted}
use Rattle.bucket_slots.specs.declared.not_inserted.NotInserted.TheVariants.{Memory, Present}
use Rattle.bucket_table.proofs.CallerLemmas.{marks_among-set}
use Rattle.bucket_table.specs.declared.arrays.side.Side.{Side}
use Rattle.bucket_table.specs.declared.arrays.side.Side.TheVariants.{Current, Old}
use Rattle.collections.proofs.InsertedMarks.{left_of, marks_in-slots_after_insertion, none_kept}

module _ {K V : Type 0} where
  no_new-left : (looks : Bool) (marks : List ((K × V) × ℕ)) → HasNoNewMark marks (left_of looks marks)
  no_new-left true marks = no_new-none marks
  no_new-left false marks = no_new-refl marks

  -- an insertion into a bucket adds no tombstone
  no_new-after_insertion : (kind : ℕ) (s : BucketView K V) (pair : K × V) (byte : ℕ)
      → HasNoNewMark (marks_in s) (marks_in (slots_after_insertion kind none_kept s pair byte))
  no_new-after_insertion kind s pair byte =
      rw (marks_in-slots_after_insertion kind s pair byte) (no_new-left (looks_at_marks kind s) (marks_in s))

  -- nor does another bucket that adds none to its own
  pub tombstones_of-arrays_with : (arrays : ArraysView K V) (side : Side) (index : ℕ) (left : BucketView K V)
      → HasNoNewMark (marks_in (bucket_on arrays side index)) (marks_in left)
      → HasNoNewMark (tombstones_of arrays) (tombstones_of (arrays_with arrays side index left))
  tombstones_of-arrays_with arrays Current index left here =
      no_new-append (marks_among arrays.current) (marks_among arrays.linked) _ (marks_among arrays.linked)
      (marks_among-set arrays.current index left here) (no_new-refl (marks_among arrays.linked))
  tombstones_of-arrays_with arrays Old index left here =
      no_new-append (marks_among arrays.current) (marks_among arrays.linked) (marks_among arrays.current) _
      (no_new-refl (marks_among arrays.current)) (marks_among-set arrays.linked index left here)

  no_new-arrays : (old new : ArraysView K V) → new ≡ old → HasNoNewMark (tombstones_of old) (tombstones_of new)
  no_new-arrays old new same =
      no_new-same (tombstones_of old) (tombstones_of new) (ap (λ (arrays : ArraysView K V). tombstones_of arrays) same)

module _ {K V H : Type 0} (kind hash : ℕ) (old new : TableView K V H) where
  found : {E : Type 0} (answer : Result (Side × ℕ) E) → Finds Counted kind hash old answer new
      → HasNoNewMark (tombstones_of old.arrays) (tombstones_of new.arrays)
  found (Ok at) finds = finds.kept.marks
  found (Err e) refused = refused.prepared.kept.keeps.marks

module _ {K V H A : Type 0} (kind : ℕ) (pair : K × V) (byte : ℕ) where
  inserted_at : (old : TableView K V H) (r : Result A (NotInserted K V)) (answer : Result (Side × ℕ) (Unit {0})) (new : TableView K V H)
      → InsertsAt kind none_kept pair byte old r answer new
      → HasNoNewMark (tombstones_of old.arrays) (tombstones_of new.arrays)
  inserted_at old (Ok done) (Ok at) new is =
      let left = slots_after_insertion kind none_kept (bucket_on old.arrays at.0 at.1) pair byte in
      let put = tombstones_of-arrays_with old.arrays at.0 at.1 left
      (no_new-after_insertion kind (bucket_on old.arrays at.0 at.1) pair byte) in
      subst (λ (table : TableView K V H). HasNoNewMark (tombstones_of old.arrays) (tombstones_of table.arrays)) (sym is) put
  inserted_at old (Ok done) (Err e) new none = absurd none
  inserted_at old (Err (Present k v)) answer new same = rw same (no_new-refl (tombstones_of old.arrays))
  inserted_at old (Err (Memory k v)) (Ok at) new (full, same) = rw same (no_new-refl (tombstones_of old.arrays))
  inserted_at old (Err (Memory k v)) (Err e) new same = rw same (no_new-refl (tombstones_of old.arrays))

  -- an insertion into a table adds no tombstone
  pub no_new-inserted : (hash : ℕ) (old : TableView K V H) (r : Result A (NotInserted K V)) (new : TableView K V H)
      → FindsThen Counted kind hash old (λ answer between. InsertsAt kind none_kept pair byte between r answer new)
      → HasNoNewMark (tombstones_of old.arrays) (tombstones_of new.arrays)
  no_new-inserted hash old r new f =
      no_new-trans (tombstones_of old.arrays) (tombstones_of f.between.arrays) (tombstones_of new.arrays)
      (found kind hash old f.between f.answer f.found) (inserted_at f.between r f.answer new f.done)

-- if there were no tombstones and none is new, there are none
pub still_unmarked : {K V : Type 0} (old new : List ((K × V) × ℕ)) → HasNoNewMark old new → old ≡ [] → new ≡ []
still_unmarked old [] none empty = refl
still_unmarked old (mark ∷ marks) none empty =
    let there = none.stood mark (0, omega arith, refl) in
    absurd (omega (arith, there.1, ap length empty))
