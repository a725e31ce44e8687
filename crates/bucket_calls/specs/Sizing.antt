-- Room that is made, and slots that are freed, by the code of the library's answer.
use Rattle.std.specs.Prelude.{ℕ, ◌≡◌, Bool, Result}
use Rattle.std.specs.declared.alloc.AllocError.{AllocError}
use Rattle.collections.specs.Capacity.{MakesRoom, ShrinksToFit}
use Rattle.collections.specs.Maps.{MapView}
use Rattle.bucket_calls.specs.Codes.{room_code}

-- room is made by the library's call, whose answer has the code
pub record MakesRoomBy {K V H : Type 0} (eq : K → K → Bool) (additional : ℕ) (old : MapView K V H) (code : ℕ)
    (new : MapView K V H) : Type 0 where
  pub answer : Result (Unit {0}) AllocError
  pub code_is : code ≡ room_code answer
  pub makes : MakesRoom eq additional old answer new

-- slots are freed by the library's call, whose answer has the code
pub record ShrinksBy {K V H : Type 0} (eq : K → K → Bool) (old : MapView K V H) (code : ℕ) (new : MapView K V H) : Type 0 where
  pub answer : Result (Unit {0}) AllocError
  pub code_is : code ≡ room_code answer
  pub shrinks : ShrinksToFit eq old answer new
