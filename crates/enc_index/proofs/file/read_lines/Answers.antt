use Rattle.std.proofs.Common.{◌∙◌}
use Rattle.enc_index.proofs.Lines.{lines_on, lines_done}
use Rattle.enc_index.proofs.file.read_lines.Goals as goal

pub returns-in-None-clause-pairs : goal.returns-in-None-clause-pairs
returns-in-None-clause-pairs c =
    rw (c.loop-after.invariant.pairs, c.next_line.ensures.lines, c.in-None.is)
    (lines_on _ _ _ _ _ _ c.in_ok-read_line.ensures.pairs ∙ lines_done _ _ _)
