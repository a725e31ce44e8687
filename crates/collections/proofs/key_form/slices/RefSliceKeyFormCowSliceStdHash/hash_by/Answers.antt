use Rattle.std.proofs.Common.{◌∙◌, ap, sym, rules}
use Rattle.std.specs.Cow.{cow_slice_items}
use Rattle.std.specs.Hash.{items_Alike}
use Rattle.bucket_table.specs.Map.StdHashes.{std_hash}
use Rattle.collections.proofs.key_form.slices.RefSliceKeyFormCowSliceStdHash.hash_by.Goals as goal

pub returns : goal.returns
returns g c key same =
    ap (std_hash g.S.Hasher.Hasher.finish g.S.Hasher.Hasher.write (g.S.BuildHasher.build_hasher c.args.hasher.now.builder))
    (sym ((items_Alike (record { fed = g.met.T.Hash.respects_eq })).fed c.args.self.now.now (cow_slice_items key) same))
    ∙ search rules
