use Rattle.std.proofs.Common.{◌≤◌, ◌+◌, ◌*◌, length, drop}
use Rattle.lane_kernels.specs.Steps.{scalars_of}
use Rattle.lane_kernels.specs.Units.{IsCarried}
use Rattle.enc_unicode.proofs.Scalars.{Remains}
use Rattle.enc_unicode.proofs.blocks.push_units.Given as goal

abbrev pub invariant-loop-unit : goal.invariant-loop-unit
invariant-loop-unit l =
    IsCarried l.lead
    × Remains l.fn.batch (scalars_of l.fn.carried l.units) l.batch (scalars_of l.lead (drop l.unit-index l.units))
    × (length l.batch ≤ length l.fn.batch + 4 * l.unit-index)
