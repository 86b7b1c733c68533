use Rattle.std.proofs.Common.{◌-◌, length}
use Rattle.std.specs.Char.{is_ascii}
use Rattle.lane_kernels.proofs.Prefixes.{PassedTo}
use Rattle.lane_kernels.proofs.prefix.skip_runs.Given as goal

abbrev pub invariant-by_runs : goal.invariant-by_runs
invariant-by_runs l = PassedTo is_ascii l.bytes l.at

abbrev pub decreases-by_runs : goal.decreases-by_runs
decreases-by_runs l = length l.bytes - l.at
