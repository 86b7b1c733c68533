use Rattle.std.proofs.Common.{◌-◌, length}
use Rattle.lane_kernels.proofs.Prefixes.{PassedTo}
use Rattle.lane_kernels.proofs.prefix.prefix.Given as goal

abbrev pub invariant-by_lanes : goal.invariant-by_lanes
invariant-by_lanes g l = PassedTo (g.C.Class.has l.class) l.bytes l.at

abbrev pub decreases-by_lanes : goal.decreases-by_lanes
decreases-by_lanes g l = length l.bytes - l.at
