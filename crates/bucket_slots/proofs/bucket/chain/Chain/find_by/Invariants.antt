use Rattle.bucket_slots.proofs.Words.{count_by, drop, first_from, flattened, has_byte, is_match, length, ◌+◌, ◌-◌, ◌≡◌, ◌≤◌}
use Rattle.bucket_slots.proofs.bucket.chain.Chain.find_by.Given as goal

abbrev pub invariant-loop-at : goal.invariant-loop-at
invariant-loop-at g l =
    let test = is_match (g.P.KeyProbe.matches l.fn.probe) l.byte in
    let rows = l.self in record {
      one : 1 ≤ l.number;
      here : l.at ≡ drop (l.number - 1) rows;
      within : l.number + length l.at ≡ 1 + length rows;
      place : first_from test 1 rows ≡ first_from test l.number l.at;
      few : g.P.KeyProbe.asked l.probe + count_by (has_byte l.byte) (flattened l.at)
          ≤ g.P.KeyProbe.asked l.fn.probe + count_by (has_byte l.byte) (flattened rows);
      fixed : g.P.KeyProbe.matches l.probe ≡ g.P.KeyProbe.matches l.fn.probe;
    }
