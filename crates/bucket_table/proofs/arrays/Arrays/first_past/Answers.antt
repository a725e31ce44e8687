use Rattle.bucket_table.proofs.Words.{HasNoneFrom, IsLength, arith, bound_of, length, pairs_of, subst, sym, ℕ, ◌+◌, ◌<◌, ◌^◌, ◌∙◌, ◌≡◌, ◌≤◌}
use Rattle.bucket_table.proofs.Walking.Bounds.{all_hashes}
use Rattle.bucket_table.proofs.Walking.CursorSteps.{goes_later, no_map, none_past, reaches_on}
use Rattle.bucket_table.proofs.Walking.PassingUnits.{passes_nowhere, passes_past}
use Rattle.bucket_table.proofs.Views.Keeping.{kept_none}
use Rattle.bucket_table.proofs.arrays.Arrays.first_past.Goals as goal

pub returns-then-now-eq0-clause-kept : goal.returns-then-now-eq0-clause-kept
returns-then-now-eq0-clause-kept g c = kept_none c.args.self.now

pub returns-then-index-len-clause-kept : goal.returns-then-index-len-clause-kept
returns-then-index-len-clause-kept g c = kept_none c.args.self.now

pub returns-then-now-eq0-clause-found : goal.returns-then-now-eq0-clause-found
returns-then-now-eq0-clause-found g c = record {
  none = λ nothing. subst (HasNoneFrom (g.H.KeyHash.hash_of c.args.hasher.now) (bound_of c.args.len (c.args.index + 1)))
      (sym (no_map c.args.self.now c.fact_sound.ensures (sym c.len-now.ensures.value ∙ c.if-now-eq0.true))) tt;
  null = c.null.ensures;
}

pub returns-then-index-len-clause-found : goal.returns-then-index-len-clause-found
returns-then-index-len-clause-found g c =
    let top : 2 ^ 64 ≤ bound_of c.args.len (c.args.index + 1) = subst (λ (n : ℕ). 2 ^ 64 ≤ bound_of c.args.len n) (sym c.if-index-len.true)
    (omega (arith, all_hashes c.args.len c.requires.length)) in
    record {
      none = λ nothing. none_past (g.H.KeyHash.hash_of c.args.hasher.now) _ top (g.met.H.KeyHash.fits c.args.hasher.now)
          (pairs_of c.args.self.now);
      null = c.null.ensures;
    }

pub returns-clause-found : goal.returns-clause-found
returns-clause-found g c =
    let less = subst (λ (n : ℕ). bound_of n c.scaled.result ≤ bound_of c.args.len
    (c.args.index + 1)) c.len-now.ensures.value c.scaled.ensures.early in
    goes_later (g.H.KeyHash.hash_of c.args.hasher.now) c.first_from.result c.first_from.new.self (bound_of c.args.len (c.args.index + 1))
    (bound_of (length c.args.self.now.current) c.scaled.result) c.first_from.new.at less c.first_from.ensures.found

pub returns-clause-reaches : goal.returns-clause-reaches
returns-clause-reaches g c =
    let past = subst (λ (n : ℕ). bound_of c.args.len (c.args.index + 1) < bound_of n
    (c.scaled.result + 1)) c.len-now.ensures.value c.scaled.ensures.reaches in
    reaches_on c.first_from.result c.args.len (c.args.index + 1) c.scaled.result c.args.self.now c.first_from.new.self past
    c.first_from.ensures.kept c.first_from.ensures.order

pub returns-then-now-eq0-clause-passes : goal.returns-then-now-eq0-clause-passes
returns-then-now-eq0-clause-passes g c = passes_nowhere c.args.self.now _ (omega (arith, c.len-now.ensures.value, c.if-now-eq0.true))

pub returns-then-index-len-clause-passes : goal.returns-then-index-len-clause-passes
returns-then-index-len-clause-passes g c =
    let top : bound_of c.args.len (c.args.index + 1) ≡ 2 ^ 64 = subst
    (λ (n : ℕ). bound_of c.args.len n ≡ 2 ^ 64) (sym c.if-index-len.true) (all_hashes c.args.len c.requires.length) in
    passes_past c.args.self.now _ top (λ some. subst IsLength c.len-now.ensures.value
    (c.len-now.ensures.power (omega (arith, some, c.len-now.ensures.value))))

pub returns-clause-passes : goal.returns-clause-passes
returns-clause-passes g c =
    let early = subst (λ (n : ℕ). bound_of n c.scaled.result ≤ bound_of c.args.len
    (c.args.index + 1)) c.len-now.ensures.value c.scaled.ensures.early in
    let past = subst (λ (n : ℕ). bound_of c.args.len (c.args.index + 1) < bound_of n
    (c.scaled.result + 1)) c.len-now.ensures.value c.scaled.ensures.reaches in
    c.first_from.ensures.passes (bound_of c.args.len (c.args.index + 1)) (λ some. (early, past))
