use Rattle.std.proofs.Common.{◌≡◌, ◌+◌, ◌≤◌, length}
use Rattle.enc_index.specs.Entries.{pairs_from, AreScalarEntries}
use Rattle.enc_index.specs.Files.{lines_of, with_lines}
use Rattle.enc_index.proofs.file.read_lines.Given as goal

abbrev pub invariant-loop-after : goal.invariant-loop-after
invariant-loop-after l = record {
  pairs : with_lines (length l.fn.codes) 1 (pairs_from 0 l.fn.codes) (lines_of l.bytes) ≡ with_lines (length l.codes)
      l.line_number (pairs_from 0 l.codes) (lines_of l.text);
  scalars : AreScalarEntries l.fn.codes → AreScalarEntries l.codes;
  count : l.line_number + length l.text ≤ 1 + length l.bytes;
}

abbrev pub decreases-loop-after : goal.decreases-loop-after
decreases-loop-after l = length l.text
