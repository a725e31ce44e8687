-- What inserting a pair into a cache does to a table whose slots are first doubled for a full home.
use Rattle.std.specs.Prelude.{ℕ, ◌≡◌, ◌⊎◌, Result, Ok}
use Rattle.bucket_table.specs.Map.Finding.{FindsBucket, FindsThen}
use Rattle.bucket_table.specs.Map.MapState.{KeepsPairs, state_of}
use Rattle.bucket_table.specs.Map.Preparing.{IsPrepared}
use Rattle.bucket_table.specs.Resize.Overfull.{SplitsHome}
use Rattle.bucket_table.specs.Views.ArraysView.{TableView}
use Rattle.bucket_table.specs.declared.arrays.side.Side.{Side}
use Rattle.bucket_table.specs.declared.hash_table.ResizeRule.TheVariants.{Sampled}

-- a hash's home, which is ready, stays as it is; or the slots were doubled for it, and the table is prepared
abbrev pub SplitsReady : {K V H : Type 0} → ℕ → ℕ → TableView K V H → TableView K V H → Type 0
SplitsReady {K} {V} {H} kind hash old new = (new ≡ old)
    ⊎ ((doubled : TableView K V H) × SplitsHome hash old.arrays doubled.arrays × KeepsPairs (state_of kind old) (state_of kind doubled)
    × IsPrepared kind hash doubled new)

-- the table is prepared, the slots are doubled for a home that may be split, a writer's bucket is found, and then this is done
pub record SplitsThen {K V H : Type 0} (kind hash : ℕ) (old : TableView K V H)
    (Then : Result (Side × ℕ) (Unit {0}) → TableView K V H → Type 0) : Type 0 where
  pub ready : TableView K V H
  pub doubled : TableView K V H
  pub side : Side
  pub index : ℕ
  pub between : TableView K V H
  pub prepared : IsPrepared kind hash old ready
  pub splits : SplitsHome hash ready.arrays doubled.arrays
  pub same : KeepsPairs (state_of kind ready) (state_of kind doubled)
  pub found : FindsBucket Sampled kind hash doubled side index between
  pub done : Then (Ok (side, index)) between

-- a writer's bucket is found or not, and then this is done, or the slots are doubled first
abbrev pub FindsOrSplitsThen : {K V H : Type 0} → ℕ → ℕ → TableView K V H → (Result (Side × ℕ) (Unit {0}) → TableView K V H → Type 0)
    → Type 0
FindsOrSplitsThen kind hash old Then = FindsThen Sampled kind hash old Then ⊎ SplitsThen kind hash old Then
