use Rattle.std.proofs.Common.{flat_map, take}
use Rattle.std.specs.Io.KnownBytes.{Appends}
use Rattle.gateway_indexes.specs.Reports.{other_line}
use Rattle.gateway_indexes.proofs.reports.report_others.Given as goal

abbrev pub invariant-loop-file : goal.invariant-loop-file
invariant-loop-file g l =
    Appends (g.W.Output.contents l.fn.writer) (g.W.Output.contents l.writer)
    (flat_map other_line (take l.file-index l.files))
