use Rattle.std.proofs.Common.{◌-◌}
use Rattle.enc_encode.proofs.Puts.{PutTo}
use Rattle.enc_encode.proofs.single_runs.put_lanes.Given as goal

abbrev pub invariant-loop-at : goal.invariant-loop-at
invariant-loop-at l = PutTo l.bytes l.fn.held l.held l.from l.at

abbrev pub decreases-loop-at : goal.decreases-loop-at
decreases-loop-at l = l.most - l.at
