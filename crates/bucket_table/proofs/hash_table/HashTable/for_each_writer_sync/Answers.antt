use Rattle.bucket_table.proofs.Words.{IsOneMap, refl, rules, subst, ◌∙◌}
use Rattle.bucket_table.proofs.Views.SettingsKept.{settings_same}
use Rattle.bucket_table.proofs.Walking.Visiting.{WalkStands, begins_seen, locked_seen, over_seen, settings_walked, shrunk_at_end}
use Rattle.bucket_table.proofs.Walking.Visiting.{stands_first, stands_next, unshrunk, walk_ended, walk_refused, walks_alone}
use Rattle.bucket_table.proofs.hash_table.HashTable.for_each_writer_sync.Goals.{else-loop-more-test, then-loop-more-test+else-index-len}
use Rattle.bucket_table.proofs.hash_table.HashTable.for_each_writer_sync.Goals as goal

pub loop-more-init : goal.loop-more-init
loop-more-init g c = (
  c.requires.may,
  refl,
  stands_first g.F.Visit.visits (g.H.KeyHash.hash_of c.args.self.now.hasher) c.args.visitor.now
      c.args.self.now.arrays c.first_index-index.result,
)

pub returns-in_default-clause-walked : goal.returns-in_default-clause-walked
returns-in_default-clause-walked g c =
    let at = begins_seen c.self.view_is c.len-len.ensures.value c.first_index-index.ensures in
    walk_refused g.F.Visit.visits (g.H.KeyHash.hash_of c.args.self.now.hasher) at c.loop-more.invariant.2 c.prepare_at.ensures.kept
    c.prepare_at.ensures.units c.prepare_at.ensures.alone c.in_default.ensures.wanted c.loop-more-test.true

pub returns-in_default-clause-settings : goal.returns-in_default-clause-settings
returns-in_default-clause-settings g c =
    settings_walked g.F.Visit.visits (g.H.KeyHash.hash_of c.args.self.now.hasher) c.loop-more.invariant.2 c.loop-more.invariant.1 (record {
      hasher = c.prepare_at.ensures.hasher;
      minimum = c.prepare_at.ensures.kept.keeps.minimum;
      maximum = c.prepare_at.ensures.kept.keeps.maximum;
      bag = c.prepare_at.ensures.kept.keeps.open_tickets;
    })

pub returns-in_default-clause-succeeds : goal.returns-in_default-clause-succeeds
returns-in_default-clause-succeeds g c =
    walks_alone g.F.Visit.visits (g.H.KeyHash.hash_of c.args.self.now.hasher) c.loop-more.invariant.2 (λ none. absurd (search rules))

pub loop-more-preserved : goal.loop-more-preserved
loop-more-preserved g c =
    let same = c.prepare_at.ensures.hasher ∙ c.loop-more.invariant.1 in
    let one = subst (λ hasher. IsOneMap g.K.PartialEq.eq (g.H.KeyHash.hash_of hasher)
    c.prepare_at.new.self.arrays) same c.fact_sound.ensures.one_map in
    let stands = subst (λ more. WalkStands g.F.Visit.visits (g.H.KeyHash.hash_of c.args.self.now.hasher)
    c.args.visitor.now c.loop-more.visitor c.args.self.now.arrays c.first_index-index.result
    c.loop-more.index c.loop-more.flag more c.loop-more.self.arrays) c.loop-more-test.true
    c.loop-more.invariant.2 in
    let locked = locked_seen c.self-in-loop-more.view_is c.len.ensures.value (search rules) c.prepare_at.ensures.kept
    c.in-Ok.ensures.ready in (
      c.visit_at-more.ensures.again,
      c.visit_at-more.ensures.hasher ∙ same,
      stands_next g.F.Visit.visits (g.H.KeyHash.hash_of c.args.self.now.hasher) g.met.K.Eq.laws stands c.prepare_at.ensures.kept
          c.prepare_at.ensures.units c.prepare_at.ensures.alone one locked c.requires.owes c.visit_at-more.ensures.visited,
    )

pub returns-then-not-flag-clause-walked : goal.returns-then-not-flag-clause-walked
returns-then-not-flag-clause-walked g c =
    let at = begins_seen c.self.view_is c.len-len.ensures.value c.first_index-index.ensures in
    walk_ended g.F.Visit.visits (g.H.KeyHash.hash_of c.args.self.now.hasher) at
    c.loop-more.invariant.2 (λ going. elim c.loop-more-test.branch [
      | then-loop-more-test+else-index-len ended ↦ over_seen c.self-in-loop-more.view_is ended.len.ensures.value (search rules)
      | else-loop-more-test ended ↦ absurd (search rules)
    ]) (unshrunk c.loop-more.self.arrays (search rules))

pub returns-clause-walked : goal.returns-clause-walked
returns-clause-walked g c =
    let at = begins_seen c.self.view_is c.len-len.ensures.value c.first_index-index.ensures in
    walk_ended g.F.Visit.visits (g.H.KeyHash.hash_of c.args.self.now.hasher) at
    c.loop-more.invariant.2 (λ going. elim c.loop-more-test.branch [
      | then-loop-more-test+else-index-len ended ↦ over_seen c.self-in-loop-more.view_is ended.len.ensures.value (search rules)
      | else-loop-more-test ended ↦ absurd (search rules)
    ])
    (shrunk_at_end (search rules) c.shrink.ensures.resized c.shrink.ensures.kept)

pub returns-then-not-flag-clause-settings : goal.returns-then-not-flag-clause-settings
returns-then-not-flag-clause-settings g c =
    settings_walked g.F.Visit.visits (g.H.KeyHash.hash_of c.args.self.now.hasher) c.loop-more.invariant.2 c.loop-more.invariant.1
    (settings_same c.loop-more.self)

pub returns-clause-settings : goal.returns-clause-settings
returns-clause-settings g c =
    settings_walked g.F.Visit.visits (g.H.KeyHash.hash_of c.args.self.now.hasher) c.loop-more.invariant.2 c.loop-more.invariant.1 (record {
      hasher = c.shrink.ensures.hasher;
      minimum = c.shrink.ensures.kept.minimum;
      maximum = c.shrink.ensures.kept.maximum;
      bag = c.shrink.ensures.kept.open_tickets;
    })
