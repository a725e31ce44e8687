use Rattle.std.proofs.Common.{arith, max, rules, subst, sym, ℕ, ◌^◌, ◌≡◌, ◌⊎◌}
use Rattle.bucket_slots.specs.Sizing.{IsPowerIn}
use Rattle.collections.specs.Maps.{map_of}
use Rattle.collections.proofs.Capacity.{greater_in, slots_of_array, slots_taken}
use Rattle.collections.proofs.hash_map.HashMap.make_room.Goals as goal

pub rehash_to-requires : goal.rehash_to-requires
rehash_to-requires g c =
    let slots = c.num_slots-slots.result in
    let shape = subst (λ (n : ℕ). (n ≡ 0) ⊎ IsPowerIn 64 (2 ^ 62) n) (sym c.num_slots-slots.ensures)
    (slots_of_array _ c.fact_sound.ensures.long) in
    let is : c.max.result ≡ max c.in-Some.least slots = search rules in
    let power : IsPowerIn 64 (2 ^ 62) c.max.result = subst (IsPowerIn 64 (2 ^ 62)) (sym is)
    (greater_in c.in-Some.least slots c.in-Some.ensures.holds.power shape) in
    search rules

pub returns-in-Some-clause-slots : goal.returns-in-Some-clause-slots
returns-in-Some-clause-slots g c =
    let is : c.max.result ≡ max c.in-Some.least c.num_slots-slots.result = search rules in
    rw (← c.self.view_is) (slots_taken c.args.pairs c.in-Some.least c.max.result (map_of c.self.inside.table) c.rehash_to.new.self
    c.rehash_to.result c.in-Some.ensures (rw c.num_slots-slots.ensures at is) c.rehash_to.ensures.slots)

pub returns-in-Some-clause-too_many : goal.returns-in-Some-clause-too_many
returns-in-Some-clause-too_many g c = λ many. absurd (many c.in-Some.least c.in-Some.ensures.holds)

pub returns-in-Some-clause-no_fewer : goal.returns-in-Some-clause-no_fewer
returns-in-Some-clause-no_fewer g c =
    let is : c.max.result ≡ max c.in-Some.least c.num_slots-slots.result = search rules in
    c.rehash_to.ensures.no_fewer (rw (← c.self.view_is) (omega (arith, is, c.num_slots-slots.ensures)))
