-- THE NUMBERS OF THE LAYOUT, in the words of docs/FORMAT.md. Definitions and clauses have PAGE, OPEN and so on, which
-- are the code's: each is the format's.
use Rattle.std.specs.Prelude.{◌≡◌}
use Rattle.common.specs.declared.limits.TheConstants.{LEAST_BLOCKS, MOST_BLOCKS, ROWS}
use Rattle.spool_journal.specs.declared.TheConstants.{GATE, HEAD, JOURNAL, OPEN, PAGE}
use Rattle.spool_journal.specs.declared.layout.TheConstants.{INDEX_PAGES, PAGES_BESIDE_ROWS}

pub record IsLaidOut : Type 0 where
  -- a spool is pages of 4,096 bytes, and has 16 to 65,536 text blocks
  pub page : PAGE ≡ 4096
  pub least : LEAST_BLOCKS ≡ 16
  pub most : MOST_BLOCKS ≡ 65536
  -- the gate is byte 0 of page 1, which is A5 while it is open
  pub gate : GATE ≡ 4096
  pub open_byte : OPEN ≡ 0xA5
  -- page 2 is the journal's head, and its pages are those from page 3 on
  pub head : HEAD ≡ 8192
  pub journal : JOURNAL ≡ 12288
  -- it has 257 pages, and one for each 512 blocks begun; the index area behind it has 22
  pub beside : PAGES_BESIDE_ROWS ≡ 257
  pub rows : ROWS ≡ 512
  pub indexes : INDEX_PAGES ≡ 22
