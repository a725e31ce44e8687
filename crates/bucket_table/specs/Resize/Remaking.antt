-- Moving all pairs into one array of another length.
use Rattle.std.specs.Prelude.{ℕ, ◌≡◌, ◌⊎◌, [], Result, Ok, OnErr, OnOk, length}
use Rattle.bucket_slots.specs.Sizing.{IsLengthFor}
use Rattle.bucket_table.specs.Rehash.Carrying.{CarriesOrder}
use Rattle.bucket_table.specs.Rehash.State.{first_tickets}
use Rattle.bucket_table.specs.Rehash.Units.{NeedsMemory}
use Rattle.bucket_table.specs.Resize.Resizing.{IsPushed}
use Rattle.bucket_table.specs.Views.ArraysView.{ArraysView}
use Rattle.bucket_table.specs.Views.Keeping.{Keeps}

-- the same arrays with no ticket open, and no unit issued
abbrev pub unopened : {K V : Type 0} → ArraysView K V → ArraysView K V
unopened arrays = record arrays { tickets = first_tickets (length arrays.linked) }

-- there is no old array, and the current one has the length for a capacity
pub record IsSettledAt {K V : Type 0} (capacity : ℕ) (arrays : ArraysView K V) : Type 0 where
  pub alone : length arrays.linked ≡ 0
  pub len : IsLengthFor capacity (length arrays.current)

-- the LRU order is carried in two moves: the pairs of the old array move, and then, if an array for a capacity is made, all of them do
pub record CarriesOrderTo {K V : Type 0} (capacity : ℕ) (old new : ArraysView K V) : Type 0 where
  pub between : ArraysView K V
  pub first : CarriesOrder old between
  pub again : (new ≡ between) ⊎ ((pushed : ArraysView K V) × IsPushed capacity between pushed × CarriesOrder pushed new)

-- all pairs move to one array for a capacity, and are in it unless allocation fails; no ticket is open then; if one array of that length
-- was alone, nothing changes; the current array has its length or that one, and if it had that one, only an old bucket can need memory
pub record RehashesTo {K V E : Type 0} (capacity : ℕ) (old : ArraysView K V) (answer : Result (Unit {0}) E)
    (new : ArraysView K V) : Type 0 where
  pub kept : Keeps (unopened old) new
  pub none_open : new.tickets.open_units ≡ []
  pub order : CarriesOrderTo capacity old new
  pub current_len : (length new.current ≡ length old.current) ⊎ IsLengthFor capacity (length new.current)
  pub settled : OnOk answer (IsSettledAt capacity new)
  pub there : IsSettledAt capacity old → (answer ≡ Ok tt) × (new ≡ old)
  pub refused : OnErr answer (IsLengthFor capacity (length old.current) → NeedsMemory (λ i. Unit {0}) (unopened old) new)
