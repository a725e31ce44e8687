-- An entry whose value was lent for writing is the entry with another value, however its facts are proved.
use Rattle.std.proofs.Common.{◌≡◌}
use Rattle.std.specs.Option.{IsSome}
use Rattle.std.proofs.Math.Bool.{Bool-set}
use Rattle.std.proofs.Math.Nat.{ℕ_set}
use Rattle.std.specs.declared.cmp.PartialEq as equals
use Rattle.bucket_table.specs.declared.key_hash.KeyHash as key_hash
use Rattle.collections.specs.EntryLoans.{still_there, with_entry_value, with_ref_value}
use Rattle.collections.specs.Hashes.{HaveHash}
use Rattle.collections.specs.Maps.{get, get_by, map_with_value}
use Rattle.collections.specs.declared.hash_map.entry.OccupiedEntry.{OccupiedEntry}
use Rattle.collections.specs.declared.hash_map.entry.by_form.OccupiedEntryRef.{OccupiedEntryRef}
use Rattle.collections.specs.declared.key_form.KeyForm as key_form

module _ {K V H : Type 0} {equal : equals.Ghosts K} {hashing : key_hash.Ghosts H K} (o : OccupiedEntry K V H equal hashing) (w : V) where
  pub entry_written : (hashed : o.hash ≡ hashing.hash_of o.map.now.hasher o.key)
      (there : IsSome (get equal.eq (map_with_value (equal.eq o.key) o.map.now w) o.key))
      → record {
        map = record o.map { now = map_with_value (equal.eq o.key) o.map.now w };
        key = o.key;
        hash = o.hash;
        hashed = hashed;
        there = there;
      } ≡ with_entry_value o w
  entry_written hashed there = λ i. record {
    map = record o.map { now = map_with_value (equal.eq o.key) o.map.now w };
    key = o.key;
    hash = o.hash;
    hashed = ℕ_set _ _ hashed o.hashed i;
    there = Bool-set _ _ there (still_there (equal.eq o.key) o.map.now.entries w o.there) i;
  }

module _ {K V H Q : Type 0} {equal : equals.Ghosts K} {hashing : key_hash.Ghosts H K} {form : key_form.Ghosts Q K H}
    (o : OccupiedEntryRef K V H Q equal hashing form) (w : V) where
  pub ref_written : (hashed : HaveHash (form.stands_for o.form) (hashing.hash_of o.map.now.hasher) o.hash)
      (there : IsSome (get_by (form.stands_for o.form) (map_with_value (form.stands_for o.form) o.map.now w)))
      → record {
        map = record o.map { now = map_with_value (form.stands_for o.form) o.map.now w };
        form = o.form;
        hash = o.hash;
        hashed = hashed;
        there = there;
      } ≡ with_ref_value o w
  ref_written hashed there = λ i. record {
    map = record o.map { now = map_with_value (form.stands_for o.form) o.map.now w };
    form = o.form;
    hash = o.hash;
    hashed = λ key same. ℕ_set _ _ (hashed key same) (o.hashed key same) i;
    there = Bool-set _ _ there (still_there (form.stands_for o.form) o.map.now.entries w o.there) i;
  }
