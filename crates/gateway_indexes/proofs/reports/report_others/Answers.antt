use Rattle.std.proofs.Common.{[], Bor, List, ℕ}
use Rattle.std.proofs.lemmas.List.{take_all}
use Rattle.gateway_outside.specs.Writing.{wrote_item}
use Rattle.gateway_indexes.specs.Reports.{other_line}
use Rattle.gateway_indexes.specs.declared.found.Found.TheVariants.{Missing}
use Rattle.gateway_indexes.specs.declared.index_files.IndexFile.{IndexFile}
use Rattle.gateway_indexes.proofs.reports.report_others.Goals as goal

abbrev no_text : Bor (List ℕ)
no_text = record { ref_ptr = (0, 0); now = [] }

abbrev other : IndexFile
other = record { name = no_text; encodings = no_text; standard = 0; found = Missing }

pub loop-file-preserved : goal.loop-file-preserved
loop-file-preserved g c =
    wrote_item other_line [] c.args.files.now c.loop-file.file-index other
    (g.W.Output.contents c.args.writer.now) (g.W.Output.contents c.loop-file.writer)
    (g.W.Output.contents c.report_other.new.writer) c.loop-file-test.true c.loop-file.invariant
    c.in_ok-report_other.ensures

pub returns : goal.returns
returns g c = rw (take_all c.loop-file.file-index c.args.files.now c.loop-file-test.false) at c.loop-file.invariant
