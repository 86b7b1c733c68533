use Rattle.std.proofs.Common.{flat_map, take}
use Rattle.std.specs.Io.KnownBytes.{Appends}
use Rattle.gateway_delete.specs.Deleting.{kept_line}
use Rattle.gateway_delete.proofs.incomplete.report_complete.Given as goal

abbrev pub invariant-loop-number : goal.invariant-loop-number
invariant-loop-number g l =
    Appends (g.W.Output.contents l.fn.writer) (g.W.Output.contents l.writer)
    (flat_map kept_line (take l.number-index l.numbers))
