use Rattle.std.proofs.Common.{◌≡◌, ◌-◌, ◌≤◌, ◌++◌, length, take, drop}
use Rattle.std.specs.List.{prefix_len}
use Rattle.std.specs.Char.{is_ascii}
use Rattle.lane_kernels.proofs.narrowing.narrow.Given as goal

abbrev pub invariant-by_lanes : goal.invariant-by_lanes
invariant-by_lanes l = record {
  prefix : l.at ≤ prefix_len is_ascii l.units;
  room : l.at ≤ length l.initial.out;
  written : l.out ≡ take l.at l.units ++ drop l.at l.initial.out;
}

abbrev pub decreases-by_lanes : goal.decreases-by_lanes
decreases-by_lanes l = length l.units - l.at
