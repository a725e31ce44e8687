use Rattle.bucket_table.proofs.Words.{[], ap, arith, get_or, length, refl, rules, take, ℕ, ◌-◌, ◌∷◌, ◌≡◌, ◌≤◌}
use Rattle.bucket_table.specs.Resize.Renewing.{own_backwards, own_by_age}
use Rattle.bucket_table.specs.Walking.ByUse.{own_left}
use Rattle.bucket_table.proofs.Resize.ByAge.{all_at_first, takes_last}
use Rattle.bucket_table.proofs.Resize.Pouring.{pour_awaits, pour_begins, pour_ends, pour_goes_on}
use Rattle.bucket_table.proofs.hash_table.renew.HashTable+K+V+H+DoublyLinkedList+TYPE.pour_own.Goals as goal

pub slots-init : goal.slots-init
slots-init g c =
    let bucket = c.args.bucket.now in
    let slots = c.slots_by_use-slots.result in
    let few : length slots ≤ 32 = omega (arith, c.slots_by_use-slots.type_inv) in (
      pour_begins g.met.K.Eq.laws g.H.KeyHash.hash_of c.args.self.now (own_by_age bucket) (own_backwards bucket (take 32 slots))
          (all_at_first bucket slots c.fact_sound.ensures.own_long c.slots_by_use-slots.ensures few) c.requires.awaits,
      c.slots_by_use-slots.ensures,
      omega arith,
    )

pub pour_slot-requires : goal.pour_slot-requires
pour_slot-requires g c =
    let slots = c.slots_by_use-slots.result in
    let slot = get_or slots (c.slots.left - 1) 0 in
    let long : length slots ≡ 32 = omega (arith, c.slots_by_use-slots.type_inv) in
    let some = c.slots-test.true in
    let within = c.slots.invariant.2 in
    let parts = takes_last c.slots.bucket c.slots.bucket c.args.bucket.now.listed slots c.slots.left 0 c.slots.invariant.1 some
    (omega (arith, long, within)) (λ other apart. refl) in (
      search rules,
      (
        search rules,
        (
          c.requires.cache,
          pour_awaits g.met.K.Eq.laws g.H.KeyHash.hash_of c.args.self.now (own_by_age c.args.bucket.now) c.slots.self
              (own_backwards c.slots.bucket (take c.slots.left slots)) (own_left c.slots.bucket (slot ∷ []))
              (own_backwards c.slots.bucket (take (c.slots.left - 1) slots)) parts c.slots.invariant.0,
        ),
      ),
    )

pub slots-preserved : goal.slots-preserved
slots-preserved g c =
    let slots = c.slots_by_use-slots.result in
    let slot = get_or slots (c.slots.left - 1) 0 in
    let long : length slots ≡ 32 = omega (arith, c.slots_by_use-slots.type_inv) in
    let some = c.slots-test.true in
    let within = c.slots.invariant.2 in
    let parts = takes_last c.slots.bucket c.pour_slot.new.bucket c.args.bucket.now.listed slots c.slots.left 0 c.slots.invariant.1 some
    (omega (arith, long, within)) c.pour_slot.ensures.others in (
      pour_goes_on g.met.K.Eq.laws g.H.KeyHash.hash_of c.args.self.now (own_by_age c.args.bucket.now) c.slots.self c.pour_slot.new.self
          (own_backwards c.slots.bucket (take c.slots.left slots)) (own_left c.slots.bucket (slot ∷ []))
          (own_backwards c.pour_slot.new.bucket (take (c.slots.left - 1) slots)) parts c.slots.invariant.0 c.pour_slot.ensures.poured,
      c.slots.invariant.1,
      omega (arith, within),
    )

pub returns : goal.returns
returns g c =
    pour_ends g.met.K.Eq.laws g.H.KeyHash.hash_of c.args.self.now (own_by_age c.args.bucket.now) c.slots.self
    (own_backwards c.slots.bucket (take c.slots.left c.slots_by_use-slots.result))
    (let none : c.slots.left ≡ 0 = omega (arith, c.slots-test.false) in
    ap (λ (n : ℕ). own_backwards c.slots.bucket (take n c.slots_by_use-slots.result)) none)
    c.slots.invariant.0
