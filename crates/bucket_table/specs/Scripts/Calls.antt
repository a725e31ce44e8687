-- What a call may reply, and what happens to the map. A reply that isn't stated is impossible; the replies to the calls of a rehash are
-- stated by the steps on its tickets.
use Rattle.std.specs.Prelude.{ℕ, ◌≡◌, ◌≢◌, ◌<◌, ◌↔◌, Bool, true, IsTrue, [], filter, length, nat_le}
use Rattle.bucket_slots.specs.declared.bucket.TheConstants.{CACHE}
use Rattle.bucket_table.specs.Map.Counting.{counted_to}
use Rattle.bucket_table.specs.Map.LookingUp.{IsAbsent, IsThere}
use Rattle.bucket_table.specs.Map.MapState.{MapState, Becomes, KeepsPairs, AddsPair, TakesPair, ChangesValue, RaisesMinimum, LowersMinimum}
use Rattle.bucket_table.specs.declared.script.call.Call.{Call}
use Rattle.bucket_table.specs.declared.script.call.Call.TheVariants.{Put, Write, Read, Peek, Remove, Touch, Evict, Count, Has, Reserve}
use Rattle.bucket_table.specs.declared.script.call.Call.TheVariants.{Release, Start, Work, End, Walk, Clear}
use Rattle.bucket_table.specs.declared.script.reply.Reply.{Reply}
use Rattle.bucket_table.specs.declared.script.reply.Reply.TheVariants.{Done, Present, Absent, Value, Old, Pair, Nothing, Number, Truth}
use Rattle.bucket_table.specs.declared.script.reply.Reply.TheVariants.{Refused, WrongKind, Walked, Cleared}

module _ {K V H : Type 0} (eq : K → K → Bool) (hash : H → K → ℕ) where
  -- from the map `old` the call may have this reply, and `new` is the map after it
  abbrev pub Step : MapState K V H → Call K V → Reply K V → MapState K V H → Type 0
  Step old (Put key value) Done new = IsAbsent (λ own. eq own key) old.pairs × AddsPair old (key, value) new
  Step old (Put key value) Present new = ((pair : K × V) × IsThere (λ own. eq own key) old.pairs pair) × KeepsPairs old new
  Step old (Put key value) Refused new = IsAbsent (λ own. eq own key) old.pairs × KeepsPairs old new
  Step old (Write key value) (Old earlier) new = (found : K) × (eq found key ≡ true) × ChangesValue old (found, earlier) value new
  Step old (Write key value) Absent new = IsAbsent (λ own. eq own key) old.pairs × KeepsPairs old new
  Step old (Read key) (Value value) new = ((found : K) × IsThere (λ own. eq own key) old.pairs (found, value)) × KeepsPairs old new
  Step old (Read key) Absent new = IsAbsent (λ own. eq own key) old.pairs × KeepsPairs old new
  Step old (Peek key) (Value value) new = ((found : K) × IsThere (λ own. eq own key) old.pairs (found, value)) × KeepsPairs old new
  Step old (Peek key) Absent new = IsAbsent (λ own. eq own key) old.pairs × KeepsPairs old new
  Step old (Remove key) (Pair found value) new = (eq found key ≡ true) × TakesPair old (found, value) new
  Step old (Remove key) Absent new = IsAbsent (λ own. eq own key) old.pairs × KeepsPairs old new
  Step old (Touch key) Done new = (old.kind ≡ CACHE) × ((pair : K × V) × IsThere (λ own. eq own key) old.pairs pair) × KeepsPairs old new
  Step old (Touch key) Absent new = (old.kind ≡ CACHE) × IsAbsent (λ own. eq own key) old.pairs × KeepsPairs old new
  Step old (Touch key) WrongKind new = (old.kind ≢ CACHE) × KeepsPairs old new
  Step old (Evict key) (Pair found value) new = (old.kind ≡ CACHE) × TakesPair old (found, value) new
  Step old (Evict key) Nothing new = (old.kind ≡ CACHE) × KeepsPairs old new
  Step old (Evict key) Refused new = (old.kind ≡ CACHE) × KeepsPairs old new
  Step old (Evict key) WrongKind new = (old.kind ≢ CACHE) × KeepsPairs old new
  Step old Count (Number number) new = (number ≡ counted_to old.pairs) × KeepsPairs old new
  Step old Has (Truth truth) new = (IsTrue truth ↔ (0 < length old.pairs)) × KeepsPairs old new
  Step old (Reserve additional) (Number number) new = RaisesMinimum additional old number new
  Step old (Release released) (Number number) new = LowersMinimum released old number new
  Step old Start reply new = KeepsPairs old new
  Step old (Work index) reply new = KeepsPairs old new
  Step old (End ticket success) reply new = KeepsPairs old new
  Step old Walk (Walked buckets pairs) new = (pairs ≡ counted_to old.pairs) × KeepsPairs old new
  Step old Walk Refused new = KeepsPairs old new
  Step old Clear (Cleared count) new = (count ≡ counted_to old.pairs) × (new ≡ record old { pairs = [] })
  Step old Clear Refused new = (bound : ℕ) × Becomes old (filter (λ pair. nat_le bound (hash old.hasher pair.0)) old.pairs) new
  Step old call reply new = ⊥
