use Rattle.std.proofs.Common.{◌≡◌, ◌-◌, ◌≤◌, ◌++◌, length, take, drop}
use Rattle.std.specs.List.{prefix_len}
use Rattle.std.specs.Char.{is_ascii}
use Rattle.lane_kernels.proofs.narrowing.narrow_by_units.Given as goal

abbrev pub invariant-loop-end : goal.invariant-loop-end
invariant-loop-end l = record {
  prefix : l.end ≤ prefix_len is_ascii l.units;
  room : l.end ≤ length l.initial.out;
  written : l.out ≡ take l.end l.units ++ drop l.end l.initial.out;
}

abbrev pub decreases-loop-end : goal.decreases-loop-end
decreases-loop-end l = length l.units - l.end
