-- Byte strings and collections, as clauses see them.
use Rattle.std.specs.Prelude.{ℕ, Bool, List, Vec, nat_eq}
use Rattle.std.specs.Cmp.Lexicographic.{pointwise}
use Rattle.std.specs.declared.alloc.Global.{Global}
use Rattle.bucket_table.specs.Views.ArraysView.{TableView}
use Rattle.bucket_table.specs.declared.key_hash.std_hash.StdHash.{StdHash}
use Rattle.collections.specs.Maps.{MapView}
use Rattle.bucket_calls.specs.declared.seed.Beginning.{Beginning}
use Rattle.bucket_calls.specs.declared.seed.SeededHasher.{SeededHasher}

-- a byte string, and when two are equal
abbrev pub Text : Type 0
Text = Vec ℕ Global

abbrev pub text_eq : Text → Text → Bool
text_eq key other = pointwise nat_eq key.items other.items

-- whether a byte string has these bytes
abbrev pub has_bytes : List ℕ → Text → Bool
has_bytes bytes key = pointwise nat_eq bytes key.items

-- a map, and a cache of words, that hash by a seed
abbrev pub Maps : Type 0 → Type 0 → Type 0
Maps K V = MapView K V (StdHash (Beginning SeededHasher))

abbrev pub Caches : Type 0 → Type 0
Caches K = TableView K ℕ (StdHash (Beginning SeededHasher))
