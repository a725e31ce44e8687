use Rattle.bucket_slots.proofs.Words.{IsLeft, count_by, false, free, has_byte, is_match, ones, ◌+◌, ◌≡◌, ◌≤◌}
use Rattle.bucket_slots.proofs.bucket.row.Row.find_among.Given as goal

abbrev pub invariant-loop-left : goal.invariant-loop-left
invariant-loop-left g l = record {
  left : IsLeft (has_byte l.byte) (λ slot. is_match (g.P.KeyProbe.matches l.fn.probe) l.byte slot ≡ false) free l.self l.left;
  few : g.P.KeyProbe.asked l.probe + ones l.left ≤ g.P.KeyProbe.asked l.fn.probe + count_by (has_byte l.byte) l.self;
  fixed : g.P.KeyProbe.matches l.probe ≡ g.P.KeyProbe.matches l.fn.probe;
}

abbrev pub decreases-loop-left : goal.decreases-loop-left
decreases-loop-left g l = l.left
