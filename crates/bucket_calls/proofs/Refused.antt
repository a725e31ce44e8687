-- The pair that is returned if allocation failed.
use Rattle.std.proofs.Common.{ℕ, ◌≡◌, ◌∙◌, Bool, Err, None, Option, ap, refl, subst, sym}
use Rattle.bucket_slots.specs.declared.not_inserted.NotInserted.{NotInserted}
use Rattle.bucket_slots.specs.declared.not_inserted.NotInserted.TheVariants.{Memory}
use Rattle.bucket_table.specs.Views.ArraysView.{TableView}
use Rattle.collections.specs.Changes.{ReturnsPair, Puts}
use Rattle.collections.specs.Crowding.{LacksBucket}
use Rattle.collections.specs.Maps.{MapView, map_of}
use Rattle.collections.specs.Orders.{PutsOrKeeps}
use Rattle.bucket_calls.specs.Caches.{PutsOne}
use Rattle.bucket_calls.specs.Codes.{no_memory, put_code}

-- it is the pair that was passed in
pub handed_back : {K V H : Type 0} (eq : K → K → Bool) (key : K) (value : V) (map : MapView K V H) {why : NotInserted K V} {k : K} {v : V}
    → why ≡ Memory k v → ReturnsPair eq key value map why → why ≡ Memory key value
handed_back eq key value map is back =
    let same = subst (ReturnsPair eq key value map) is back in is ∙ (λ i. Memory (same.0 i) (same.1 i))

-- allocation failed for a cache: nothing is output, and the code reports it
pub put_refused : {K V H Out : Type 0} (eq : K → K → Bool) (hash_of : H → K → ℕ) (key : K) (value : V) (key_out : Option K → Out)
    (before : V) (old new : TableView K V H) (why : NotInserted K V) {k : K} {v : V} → why ≡ Memory k v
    → Puts eq key value (map_of old) (Err why) (map_of new)
    → PutsOrKeeps eq (key, value) (hash_of old.hasher key) old (Err why) new.arrays
    → (why ≡ Memory key value → LacksBucket hash_of key (map_of old))
    → PutsOne eq hash_of key value key_out before old no_memory new (key_out None) before
put_refused {K} {V} eq hash_of key value key_out before old new why is map home memory =
    let code : NotInserted K V → ℕ = λ why. put_code {P = K × V} (Err why) in
    (Err why, sym (ap code is), map, home, λ _. memory (handed_back eq key value (map_of old) is map.0), refl, refl)
