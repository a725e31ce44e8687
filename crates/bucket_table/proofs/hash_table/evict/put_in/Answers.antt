use Rattle.bucket_table.proofs.Words.{refl}
use Rattle.bucket_table.proofs.Map.LookUps.{null_is}
use Rattle.bucket_table.proofs.hash_table.evict.put_in.Goals as goal

pub returns-then-is_valid : goal.returns-then-is_valid
returns-then-is_valid g c = (refl, refl, (_, c.get_entry_ptr.ensures.found (c.is_valid.ensures.0 c.if-is_valid.true)), refl)

pub returns : goal.returns
returns g c =
    let none = c.get_entry_ptr.ensures.absent (null_is _ _ c.is_valid.ensures.1 c.if-is_valid.false) in
    (none, c.put_absent_in.ensures.goes, c.put_absent_in.ensures.put)
