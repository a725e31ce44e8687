use Rattle.bucket_table.proofs.Words.{rules}
use Rattle.bucket_table.proofs.Walking.WalkBegins.{begins_as_given, begins_in, begins_nowhere}
use Rattle.bucket_table.proofs.hash_table.locked_bucket.walk.first_index.Goals as goal

pub returns-then-expected_len-eq0 : goal.returns-then-expected_len-eq0
returns-then-expected_len-eq0 c = begins_as_given c.args.len c.args.expected_len c.args.start (search rules)

pub returns-then-len-eq0 : goal.returns-then-len-eq0
returns-then-len-eq0 c = begins_nowhere c.args.len c.args.expected_len c.args.start (search rules)

pub returns : goal.returns
returns c = begins_in c.args.len c.args.expected_len c.args.start c.from_index_to_range.result.0 c.from_index_to_range.result.1
    c.if-expected_len-eq0.false (search rules) (search rules) (search rules) c.from_index_to_range.ensures.some
    c.from_index_to_range.ensures.range
