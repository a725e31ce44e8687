-- What an exported call does to a handle's table. On a closed handle it returns `closed`, on one of another kind `other_kind`, and nothing
-- happens: its outputs keep their values. Else it does this to what the handle holds.
use Rattle.std.specs.Prelude.{ℕ, ◌≡◌, ◌*◌, ◌⊎◌, Option, Some, None, length}
use Rattle.collections.specs.Maps.{map_len, map_of}
use Rattle.bucket_calls.specs.Codes.{closed, no_memory, ok, opened, other_kind}
use Rattle.bucket_calls.specs.Views.{Caches, Maps, Text}
use Rattle.bucket_c.specs.declared.tables.Table.{Table}
use Rattle.bucket_c.specs.declared.tables.Table.TheVariants.{Map, TextMap, Set, TextSet, Store, Cache, TextCache}

-- what a table holds, if it is of a kind
abbrev pub map_in : Table → Option (Maps ℕ ℕ)
map_in (Map map) = Some map
map_in table = None

abbrev pub text_map_in : Table → Option (Maps Text ℕ)
text_map_in (TextMap map) = Some map
text_map_in table = None

abbrev pub set_in : Table → Option (Maps ℕ (Unit {0}))
set_in (Set set) = Some set
set_in table = None

abbrev pub text_set_in : Table → Option (Maps Text (Unit {0}))
text_set_in (TextSet set) = Some set
text_set_in table = None

abbrev pub store_in : Table → Option (Maps Text Text)
store_in (Store map) = Some map
store_in table = None

abbrev pub cache_in : Table → Option (Caches ℕ)
cache_in (Cache cache) = Some cache
cache_in table = None

abbrev pub text_cache_in : Table → Option (Caches Text)
text_cache_in (TextCache cache) = Some cache
text_cache_in table = None

-- a call that only reads what a handle holds
module _ {View : Type 0} (of : Table → Option View) (does : View → ℕ → Type 0) (Kept : Type 0) where
  abbrev ReadsView : Option View → ℕ → Type 0
  ReadsView None code = (code ≡ other_kind) × Kept
  ReadsView (Some view) code = does view code

  abbrev pub Reads : Option Table → ℕ → Type 0
  Reads None code = (code ≡ closed) × Kept
  Reads (Some table) code = ReadsView (of table) code

-- a call that changes it, if a constructor makes a table of the kind
module _ {View : Type 0} (of : Table → Option View) (put : View → Table) (does : View → ℕ → View → Type 0) (Kept : Type 0) where
  abbrev OnView : Option View → Table → ℕ → Option Table → Type 0
  OnView None table code new = (code ≡ other_kind) × (new ≡ Some table) × Kept
  OnView (Some view) table code new = (after : View) × (new ≡ Some (put after)) × does view code after

  abbrev pub On : Option Table → ℕ → Option Table → Type 0
  On None code new = (code ≡ closed) × (new ≡ None) × Kept
  On (Some table) code new = OnView (of table) table code new

-- the same for each kind
abbrev pub OnMap : (Maps ℕ ℕ → ℕ → Maps ℕ ℕ → Type 0) → Type 0 → Option Table → ℕ → Option Table → Type 0
OnMap does Kept = On map_in (λ map. Map map) does Kept

abbrev pub OnTextMap : (Maps Text ℕ → ℕ → Maps Text ℕ → Type 0) → Type 0 → Option Table → ℕ → Option Table → Type 0
OnTextMap does Kept = On text_map_in (λ map. TextMap map) does Kept

abbrev pub OnSet : (Maps ℕ (Unit {0}) → ℕ → Maps ℕ (Unit {0}) → Type 0) → Type 0 → Option Table → ℕ → Option Table → Type 0
OnSet does Kept = On set_in (λ set. Set set) does Kept

abbrev pub OnTextSet : (Maps Text (Unit {0}) → ℕ → Maps Text (Unit {0}) → Type 0) → Type 0 → Option Table → ℕ → Option Table → Type 0
OnTextSet does Kept = On text_set_in (λ set. TextSet set) does Kept

abbrev pub OnStore : (Maps Text Text → ℕ → Maps Text Text → Type 0) → Type 0 → Option Table → ℕ → Option Table → Type 0
OnStore does Kept = On store_in (λ map. Store map) does Kept

abbrev pub OnCache : (Caches ℕ → ℕ → Caches ℕ → Type 0) → Type 0 → Option Table → ℕ → Option Table → Type 0
OnCache does Kept = On cache_in (λ cache. Cache cache) does Kept

abbrev pub OnTextCache : (Caches Text → ℕ → Caches Text → Type 0) → Type 0 → Option Table → ℕ → Option Table → Type 0
OnTextCache does Kept = On text_cache_in (λ cache. TextCache cache) does Kept

-- a closed handle is opened on a table, or stays closed if allocation fails; an open one stays as it is
abbrev pub Opens : Table → Option Table → ℕ → Option Table → Type 0
Opens table None code new = ((code ≡ ok) × (new ≡ Some table)) ⊎ ((code ≡ no_memory) × (new ≡ None))
Opens table (Some held) code new = (code ≡ opened) × (new ≡ Some held)

-- how many pairs or keys a handle holds
abbrev pub len_of : Option Table → ℕ
len_of None = 0
len_of (Some (Map map)) = map_len map
len_of (Some (TextMap map)) = map_len map
len_of (Some (Set set)) = map_len set
len_of (Some (TextSet set)) = map_len set
len_of (Some (Store map)) = map_len map
len_of (Some (Cache cache)) = map_len (map_of cache)
len_of (Some (TextCache cache)) = map_len (map_of cache)

-- how many slots the current array has
abbrev pub capacity_of : Option Table → ℕ
capacity_of None = 0
capacity_of (Some (Map map)) = map.slots
capacity_of (Some (TextMap map)) = map.slots
capacity_of (Some (Set set)) = set.slots
capacity_of (Some (TextSet set)) = set.slots
capacity_of (Some (Store map)) = map.slots
capacity_of (Some (Cache cache)) = 32 * length cache.arrays.current
capacity_of (Some (TextCache cache)) = 32 * length cache.arrays.current
