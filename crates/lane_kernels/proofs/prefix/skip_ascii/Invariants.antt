use Rattle.std.proofs.Common.{◌-◌, length}
use Rattle.std.specs.Char.{is_ascii}
use Rattle.lane_kernels.proofs.Prefixes.{PassedTo}
use Rattle.lane_kernels.proofs.prefix.skip_ascii.Given as goal

abbrev pub invariant-loop-at : goal.invariant-loop-at
invariant-loop-at l = PassedTo is_ascii l.bytes l.at

abbrev pub decreases-loop-at : goal.decreases-loop-at
decreases-loop-at l = length l.bytes - l.at
