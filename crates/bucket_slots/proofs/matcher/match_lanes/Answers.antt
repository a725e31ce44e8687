use Rattle.bucket_slots.proofs.Matching.{lane_mask_fits, lane_mask_matches, match_mask_is}
use Rattle.bucket_slots.proofs.matcher.match_lanes.Goals as goal

pub overflow_cast-result : goal.overflow_cast-result
overflow_cast-result c = search lane_mask_fits

pub returns : goal.returns
returns c = match_mask_is c.args.bytes.now c.args.byte _ (lane_mask_matches c.args.bytes.now c.args.byte c.requires)
