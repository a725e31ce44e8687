use Rattle.std.proofs.Common.{refl, rules, subst, sym, ◌∙◌}
use Rattle.bucket_slots.specs.Sizing.{IsLengthFor}
use Rattle.bucket_table.proofs.Resize.Following.{pushed_placed}
use Rattle.bucket_table.proofs.Resize.Remaking.{at_error, begun_keeps, begun_wants, elsewhere, moved_all, not_refused}
use Rattle.bucket_table.proofs.Resize.Remaking.{pushed_unopened, refused, stands, still}
use Rattle.bucket_table.proofs.arrays.Arrays.rehash_to.Goals as goal

pub returns-in_err-finish_rehash-clause-rehashed : goal.returns-in_err-finish_rehash-clause-rehashed
returns-in_err-finish_rehash-clause-rehashed g c =
    let e = c.finish_rehash.ensures in
    let matches = begun_wants c.args.self.now _ c.finish_rehash.new.self c.reset_tickets.ensures c.finish_rehash.result _ e.wanted
    c.in_err-finish_rehash.was in
    stands c.args.capacity c.args.self.now c.finish_rehash.new.self
    (begun_keeps c.args.self.now _ c.finish_rehash.new.self c.reset_tickets.ensures e.kept) c.from_residual.result e.none_open
    (refused _ c.from_residual.result c.from_residual.ensures.0)
    (λ there. absurd (not_refused c.args.capacity c.args.self.now _ c.finish_rehash.new.self c.reset_tickets.ensures
    c.fact_tickets.ensures c.fact_sound.ensures c.finish_rehash.result 0 e.alone _ c.in_err-finish_rehash.was there))
    (at_error _ c.from_residual.result (λ len. matches))

pub returns-then-len-len_for-clause-rehashed : goal.returns-then-len-len_for-clause-rehashed
returns-then-len-len_for-clause-rehashed g c =
    let e = c.finish_rehash.ensures in
    let len = subst (IsLengthFor c.args.capacity) (sym c.if-len-len_for.true ∙ c.len.ensures.value) c.len_for.ensures in
    stands c.args.capacity c.args.self.now c.finish_rehash.new.self
    (begun_keeps c.args.self.now _ c.finish_rehash.new.self c.reset_tickets.ensures e.kept) _ e.none_open
    (record { alone = c.in_ok-finish_rehash.ensures.gone; len = len })
    (λ there. (
      refl,
      still c.args.capacity c.args.self.now _ c.finish_rehash.new.self c.reset_tickets.ensures
          c.fact_tickets.ensures c.fact_sound.ensures c.finish_rehash.result 0 e.alone there,
    )) tt

pub returns-in_err-remake_array-clause-rehashed : goal.returns-in_err-remake_array-clause-rehashed
returns-in_err-remake_array-clause-rehashed g c =
    let e = c.finish_rehash.ensures in
    let first = begun_keeps c.args.self.now _ c.finish_rehash.new.self c.reset_tickets.ensures e.kept in
    let answer = c.from_residual-in_err-remake_array.result in
    let apart = elsewhere c.args.capacity c.args.self.now c.finish_rehash.new.self first c.len.result c.len_for.result
    c.len.ensures.value c.len_for.ensures c.if-len-len_for.false in
    rw c.in_err-remake_array.ensures.unchanged (stands c.args.capacity c.args.self.now c.finish_rehash.new.self
    first answer e.none_open (refused _ answer c.from_residual-in_err-remake_array.ensures.0)
    (λ there. absurd (apart there.len)) (at_error _ answer (λ len. absurd (apart len))))

pub finish_rehash-requires-2 : goal.finish_rehash-requires-2
finish_rehash-requires-2 g c =
    let pushed = c.in_ok-remake_array.ensures.pushed in (
      search rules,
      (
        pushed_placed (g.H.KeyHash.hash_of c.args.hasher.now) c.args.capacity _ _ pushed c.finish_rehash.ensures.placed,
        pushed_unopened c.args.capacity _ _ pushed,
      ),
    )

pub returns-in_err-finish_rehash-2-clause-rehashed : goal.returns-in_err-finish_rehash-2-clause-rehashed
returns-in_err-finish_rehash-2-clause-rehashed g c =
    let e = c.finish_rehash.ensures in
    let first = begun_keeps c.args.self.now _ c.finish_rehash.new.self c.reset_tickets.ensures e.kept in
    let answer = c.from_residual-in_err-finish_rehash-2.result in
    moved_all c.args.capacity c.args.self.now c.finish_rehash.new.self
    first answer
    c.remake_array.new.self c.finish_rehash-2.new.self c.in_ok-remake_array.ensures.pushed c.finish_rehash-2.ensures.kept
    c.finish_rehash-2.ensures.none_open (refused _ answer c.from_residual-in_err-finish_rehash-2.ensures.0)
    (elsewhere c.args.capacity c.args.self.now c.finish_rehash.new.self first c.len.result c.len_for.result
    c.len.ensures.value c.len_for.ensures c.if-len-len_for.false)

pub returns-clause-rehashed : goal.returns-clause-rehashed
returns-clause-rehashed g c =
    let e = c.finish_rehash.ensures in
    let first = begun_keeps c.args.self.now _ c.finish_rehash.new.self c.reset_tickets.ensures e.kept in
    moved_all c.args.capacity c.args.self.now c.finish_rehash.new.self
    first _
    c.remake_array.new.self c.finish_rehash-2.new.self c.in_ok-remake_array.ensures.pushed c.finish_rehash-2.ensures.kept
    c.finish_rehash-2.ensures.none_open c.in_ok-finish_rehash-2.ensures.gone
    (elsewhere c.args.capacity c.args.self.now c.finish_rehash.new.self first c.len.result c.len_for.result
    c.len.ensures.value c.len_for.ensures c.if-len-len_for.false)
