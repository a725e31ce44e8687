use Rattle.bucket_table.proofs.Words.{ap, sym, ◌∙◌}
use Rattle.bucket_slots.specs.BucketView.{place_or_null}
use Rattle.bucket_table.proofs.Map.LookUps.{searched_absent, searched_found}
use Rattle.bucket_table.proofs.hash_table.locked_bucket.LockedBucket.search.Goals as goal

pub returns-clause-found : goal.returns-clause-found
returns-clause-found g c =
    let o = c.args.self.now in
    rw (← c.table.view_is) (λ valid. searched_found (λ own. g.K.PartialEq.eq own c.args.key.now) c.table.inside.arrays o.side
    c.bucket_of.result.now _ o.index
    c.get_entry_ptr.result c.bucket_of.ensures (c.get_entry_ptr.ensures.found valid))

pub returns-clause-absent : goal.returns-clause-absent
returns-clause-absent g c =
    let o = c.args.self.now in
    let own_hash = rw (← c.table.view_is) at c.requires.own_hash in
    rw (← c.table.view_is) (λ null. searched_absent (λ own. g.K.PartialEq.eq own c.args.key.now) c.args.hash
    (g.H.KeyHash.hash_of c.table.inside.hasher)
    (λ key equal. g.met.H.KeyHash.alike c.table.inside.hasher key c.args.key.now equal ∙ sym own_hash) c.table.inside.arrays o.side
    c.bucket_of.result.now o.index
    c.table.invariant.one_map.placed (rw (← c.table.view_is) at o.locked) (rw (← c.table.view_is) at c.requires.home) c.bucket_of.ensures
    (c.get_entry_ptr.ensures.absent null))

pub returns-clause-null : goal.returns-clause-null
returns-clause-null g c = λ null. c.get_entry_ptr.ensures.place ∙ ap place_or_null (c.get_entry_ptr.ensures.absent null)
