use Rattle.std.proofs.Common.{◌≤◌, ◌-◌}
use Rattle.gateway_outside.specs.SpoolFiles.{OnlyRead}
use Rattle.gateway_format.specs.Blanks.{IsBlank}
use Rattle.gateway_format.proofs.blanks.is_blank.Given as goal

abbrev pub invariant-loop-at : goal.invariant-loop-at
invariant-loop-at g l =
    (l.at ≤ l.len)
    × OnlyRead g.D.Disk l.fn.disk l.disk
    × (g.D.Disk.honest l.fn.disk → IsBlank l.at (g.D.Disk.current l.fn.disk))

abbrev pub decreases-loop-at : goal.decreases-loop-at
decreases-loop-at g l = l.len - l.at
