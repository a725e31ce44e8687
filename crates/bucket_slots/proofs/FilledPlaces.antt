-- A filled place is within its row, reading it returns its pair, and a slot's number fits each integer type.
use Rattle.bucket_slots.proofs.Words.{Fits, List, None, Option, arith, cases_lt, false≢true, get_or, get_or_past, get_or_read}
use Rattle.bucket_slots.proofs.Words.{inl, inr, length, place_at, sym, w32, w64, w8, ℕ, ◌%◌, ◌<◌, ◌≡◌}
use Rattle.bucket_slots.specs.Places.{IsFilled}

pub fits_w8 : (pos : ℕ) → pos < 32 → Fits w8 pos
fits_w8 pos small = record { fits = omega arith }

pub fits_w32 : (pos : ℕ) → pos < 32 → Fits w32 pos
fits_w32 pos small = record { fits = omega arith }

pub fits_w64 : (pos : ℕ) → pos < 32 → Fits w64 pos
fits_w64 pos small = record { fits = omega arith }

pub low_byte_fits : (hash : ℕ) → Fits w8 (hash % 256)
low_byte_fits hash = record { fits = omega arith }

module _ {K V : Type 0} (held places : List (Option (K × V))) (pos : ℕ) (same : held ≡ places) where
  pub filled_within : IsFilled places pos → pos < length held
  filled_within filled = elim (cases_lt pos (length held)) [
    | inl below ↦ below
    | inr past ↦ let none = get_or_past held pos None past in absurd (false≢true (rw (← same, none) at filled))
  ]

  pub read_there : (read : Option (K × V)) → pos < length held → read ≡ get_or held pos read → place_at places pos ≡ read
  read_there read within is = rw (← same) (sym (get_or_read held pos read within is None))

  pub read_filled : (read : Option (K × V)) → IsFilled places pos → read ≡ get_or held pos read → place_at places pos ≡ read
  read_filled read filled is = read_there read (filled_within filled) is
