use Rattle.std.proofs.Common.{◌∙◌, ap, sym, rules}
use Rattle.std.specs.Hash.{items_Alike}
use Rattle.bucket_table.specs.Map.StdHashes.{std_hash}
use Rattle.collections.proofs.key_form.slices.RefSliceKeyFormStdHash.hash_by.Goals as goal

pub returns : goal.returns
returns g c key same =
    ap (std_hash g.S.Hasher.Hasher.finish g.S.Hasher.Hasher.write (g.S.BuildHasher.build_hasher c.args.hasher.now.builder))
    (sym ((items_Alike (record { fed = g.met.T.Hash.respects_eq })).fed c.args.self.now.now key.now same))
    ∙ search rules
