use Rattle.bucket_table.proofs.Words.{IsOneMap, false, reading, refl, rules, subst, ◌∙◌}
use Rattle.bucket_table.proofs.Views.Keeping.{kept_both, kept_none}
use Rattle.bucket_table.proofs.Map.MapKept.{state_kept}
use Rattle.bucket_table.proofs.Walking.ReadSteps.{bucket_seen, keeps_read, read_at, within_seen}
use Rattle.bucket_table.proofs.Walking.Visiting.{WalkStands, locked_seen, over_seen, same_parts, stands_first, stands_next, walk_ended}
use Rattle.bucket_table.proofs.Walking.Visiting.{walk_refused, walks_alone}
use Rattle.bucket_table.proofs.Walking.WalkBegins.{begins_as_given}
use Rattle.bucket_table.proofs.hash_table.HashTable.for_each_reader_sync.Goals as goal

pub loop-more-init : goal.loop-more-init
loop-more-init g c = (
  c.requires.may,
  refl,
  stands_first (reading g.F.Read.reads) (g.H.KeyHash.hash_of c.args.self.now.hasher)
      c.args.reader.now c.args.self.now.arrays 0,
  kept_none c.args.self.now.arrays,
  λ none. refl,
)

pub returns-in_default-clause-walked : goal.returns-in_default-clause-walked
returns-in_default-clause-walked g c =
    walk_refused (reading g.F.Read.reads) (g.H.KeyHash.hash_of c.args.self.now.hasher) (begins_as_given _ 0 0 refl)
    c.loop-more.invariant.2 c.prepare_at.ensures.kept c.prepare_at.ensures.units c.prepare_at.ensures.alone
    c.in_default.ensures.wanted c.loop-more-test.true

pub returns-in_default-clause-succeeds : goal.returns-in_default-clause-succeeds
returns-in_default-clause-succeeds g c =
    walks_alone (reading g.F.Read.reads) (g.H.KeyHash.hash_of c.args.self.now.hasher) c.loop-more.invariant.2
    (λ none. absurd (search rules))

pub returns-in_default-clause-kept : goal.returns-in_default-clause-kept
returns-in_default-clause-kept g c = kept_both c.args.self.now.arrays c.loop-more.self.arrays c.prepare_at.new.self.arrays
    c.loop-more.invariant.3 c.prepare_at.ensures.kept

pub loop-more-preserved : goal.loop-more-preserved
loop-more-preserved g c =
    let same = c.prepare_at.ensures.hasher ∙ c.loop-more.invariant.1 in
    let one = subst (λ hasher. IsOneMap g.K.PartialEq.eq (g.H.KeyHash.hash_of hasher)
    c.prepare_at.new.self.arrays) same c.fact_sound.ensures.one_map in
    let stands = subst (λ more. WalkStands (reading g.F.Read.reads)
    (g.H.KeyHash.hash_of c.args.self.now.hasher) c.args.reader.now c.loop-more.reader
    c.args.self.now.arrays 0 c.loop-more.index false more c.loop-more.self.arrays)
    c.loop-more-test.true c.loop-more.invariant.2 in
    let locked = locked_seen c.self.view_is c.len.ensures.value (search rules) c.prepare_at.ensures.kept c.in-Ok.ensures.ready in
    let seen = bucket_seen c.loop-more.index c.self-in-loop-more.view_is c.bucket_of.ensures in (
      c.read-more.ensures.again,
      same,
      stands_next (reading g.F.Read.reads) (g.H.KeyHash.hash_of c.args.self.now.hasher) g.met.K.Eq.laws stands
          c.prepare_at.ensures.kept c.prepare_at.ensures.units c.prepare_at.ensures.alone one locked (keeps_read g.F.Read.reads)
          (read_at g.F.Read.reads c.loop-more.index seen c.read-more.ensures.seen),
      kept_both c.args.self.now.arrays c.loop-more.self.arrays c.prepare_at.new.self.arrays c.loop-more.invariant.3
          c.prepare_at.ensures.kept,
      λ none. walks_alone (reading g.F.Read.reads) (g.H.KeyHash.hash_of c.args.self.now.hasher) c.loop-more.invariant.2
          c.prepare_at.ensures.alone none ∙ c.loop-more.invariant.4 none,
    )

pub bucket_of-requires : goal.bucket_of-requires
bucket_of-requires g c =
    let locked = locked_seen c.self.view_is c.len.ensures.value (search rules) c.prepare_at.ensures.kept c.in-Ok.ensures.ready in
    (search rules, (search rules, within_seen c.self-in-loop-more.view_is locked))

pub returns-else-index-len-clause-walked : goal.returns-else-index-len-clause-walked
returns-else-index-len-clause-walked g c =
    walk_ended (reading g.F.Read.reads) (g.H.KeyHash.hash_of c.args.self.now.hasher) (begins_as_given _ 0 0 refl)
    c.loop-more.invariant.2 (λ going. over_seen c.self.view_is c.len.ensures.value (search rules)) refl

pub returns-after-loop-more-clause-walked : goal.returns-after-loop-more-clause-walked
returns-after-loop-more-clause-walked g c =
    walk_ended (reading g.F.Read.reads) (g.H.KeyHash.hash_of c.args.self.now.hasher) (begins_as_given _ 0 0 refl)
    c.loop-more.invariant.2 (λ going. absurd (search rules)) refl

pub returns-in_default-clause-map : goal.returns-in_default-clause-map
returns-in_default-clause-map g c =
    state_kept g.row.TYPE c.args.self.now c.prepare_at.new.self (c.prepare_at.ensures.hasher ∙ c.loop-more.invariant.1)
    (kept_both c.args.self.now.arrays c.loop-more.self.arrays c.prepare_at.new.self.arrays c.loop-more.invariant.3
    c.prepare_at.ensures.kept).keeps

pub returns-else-index-len-clause-map : goal.returns-else-index-len-clause-map
returns-else-index-len-clause-map g c = state_kept g.row.TYPE c.args.self.now c.loop-more.self c.loop-more.invariant.1
    c.loop-more.invariant.3.keeps

pub returns-after-loop-more-clause-map : goal.returns-after-loop-more-clause-map
returns-after-loop-more-clause-map g c = state_kept g.row.TYPE c.args.self.now c.loop-more.self c.loop-more.invariant.1
    c.loop-more.invariant.3.keeps

pub returns-in_default-clause-alone : goal.returns-in_default-clause-alone
returns-in_default-clause-alone g c = λ none.
    same_parts (c.prepare_at.ensures.hasher ∙ c.loop-more.invariant.1)
    (walks_alone (reading g.F.Read.reads) (g.H.KeyHash.hash_of c.args.self.now.hasher) c.loop-more.invariant.2
    c.prepare_at.ensures.alone none ∙ c.loop-more.invariant.4 none)

pub returns-else-index-len-clause-alone : goal.returns-else-index-len-clause-alone
returns-else-index-len-clause-alone g c = λ none. same_parts c.loop-more.invariant.1 (c.loop-more.invariant.4 none)

pub returns-after-loop-more-clause-alone : goal.returns-after-loop-more-clause-alone
returns-after-loop-more-clause-alone g c = λ none. same_parts c.loop-more.invariant.1 (c.loop-more.invariant.4 none)
