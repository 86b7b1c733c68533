use Rattle.std.proofs.Common.{◌-◌, length}
use Rattle.lane_kernels.proofs.Prefixes.{PassedTo}
use Rattle.lane_kernels.proofs.prefix.prefix_by_bytes.Given as goal

abbrev pub invariant-loop-at : goal.invariant-loop-at
invariant-loop-at g l = PassedTo (g.C.Class.has l.class) l.bytes l.at

abbrev pub decreases-loop-at : goal.decreases-loop-at
decreases-loop-at g l = length l.bytes - l.at
