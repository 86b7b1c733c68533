use Rattle.std.proofs.Common.{ℕ, List, [], ◌∷◌, ◌++◌, append-nil, Bor, codes, count_by}
use Rattle.std.proofs.lemmas.List.{take_all}
use Rattle.std.specs.Prelude.{decimal}
use Rattle.gateway_outside.specs.Writing.{wrote_item}
use Rattle.gateway_indexes.specs.Reports.{file_lines, is_read}
use Rattle.gateway_indexes.specs.declared.found.Found.TheVariants.{Missing}
use Rattle.gateway_indexes.specs.declared.index_files.IndexFile.{IndexFile}
use Rattle.gateway_indexes.proofs.reports.report_read.Goals as goal

-- the first line
abbrev head : List IndexFile → List ℕ
head files = codes "index files read: " ++ (decimal (count_by is_read files) ++ (10 ∷ []))

abbrev no_text : Bor (List ℕ)
no_text = record { ref_ptr = (0, 0); now = [] }

abbrev other : IndexFile
other = record { name = no_text; encodings = no_text; standard = 0; found = Missing }

pub loop-file-init : goal.loop-file-init
loop-file-init g c = rw (append-nil, ← c.count_read.ensures) c.in_ok-writeln.ensures.bytes

pub loop-file-preserved : goal.loop-file-preserved
loop-file-preserved g c =
    wrote_item file_lines (head c.args.files.now) c.args.files.now c.loop-file.file-index other
    (g.W.Output.contents c.args.writer.now) (g.W.Output.contents c.loop-file.writer)
    (g.W.Output.contents c.write.new.self) c.loop-file-test.true c.loop-file.invariant
    c.in_ok-write.ensures.bytes

pub returns : goal.returns
returns g c = rw (take_all c.loop-file.file-index c.args.files.now c.loop-file-test.false) at c.loop-file.invariant
