use Rattle.std.proofs.Common.{◌≡◌, flat_map, take}
use Rattle.std.specs.Io.KnownBytes.{Appends}
use Rattle.gateway_delete.specs.Deleting.{doomed_line}
use Rattle.gateway_delete.proofs.incomplete.report_doomed.Given as goal

abbrev pub invariant-loop-number : goal.invariant-loop-number
invariant-loop-number g l =
    (g.W.Output.refusals l.writer ≡ g.W.Output.refusals l.fn.writer)
    × Appends (g.W.Output.contents l.fn.writer) (g.W.Output.contents l.writer)
    (flat_map doomed_line (take l.number-index l.numbers))
