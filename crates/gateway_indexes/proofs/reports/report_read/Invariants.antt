use Rattle.std.proofs.Common.{◌++◌, codes, count_by, flat_map, take, [], ◌∷◌}
use Rattle.std.specs.Prelude.{decimal}
use Rattle.std.specs.Io.KnownBytes.{Appends}
use Rattle.gateway_indexes.specs.Reports.{file_lines, is_read}
use Rattle.gateway_indexes.proofs.reports.report_read.Given as goal

abbrev pub invariant-loop-file : goal.invariant-loop-file
invariant-loop-file g l =
    Appends (g.W.Output.contents l.fn.writer) (g.W.Output.contents l.writer)
    ((codes "index files read: " ++ (decimal (count_by is_read l.files) ++ (10 ∷ []))) ++ flat_map file_lines
    (take l.file-index l.files))
