use Rattle.std.proofs.Common.{◌-◌, length}
use Rattle.std.specs.Char.{is_ascii}
use Rattle.lane_kernels.proofs.Prefixes.{PassedTo}
use Rattle.lane_kernels.proofs.prefix.skip_pairs_of_runs.Given as goal

abbrev pub invariant-by_pairs : goal.invariant-by_pairs
invariant-by_pairs l = PassedTo is_ascii l.bytes l.at

abbrev pub decreases-by_pairs : goal.decreases-by_pairs
decreases-by_pairs l = length l.bytes - l.at
