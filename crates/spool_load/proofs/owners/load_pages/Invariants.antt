use Rattle.std.proofs.Common.{◌≡◌, ◌<◌, ◌-◌, ◌*◌, ℕ, List, Option, None, length, get_or}
use Rattle.common.specs.declared.limits.TheConstants.{ROWS}
use Rattle.spool_journal.specs.Image.{journal_pages}
use Rattle.spool_disk.specs.Given.{Between, ReadsGave, ReadsOnce}
use Rattle.spool_pages.specs.Fits.{FitsRow}
use Rattle.spool_load.specs.Reads.{OnlyReads, IsFreeFrom, IsSameTo, RowsAreAt}
use Rattle.spool_pages.specs.View.{AreAt, row_bytes, row_place}
use Rattle.spool_load.proofs.owners.load_pages.Given as goal

abbrev pub invariant-loop-page : goal.invariant-loop-page
invariant-loop-page g l = record {
  reads : OnlyReads g.D.Disk l.fn.disk l.disk;
  once : ReadsOnce (Between (row_place l.layout 0) (row_place l.layout (ROWS * l.page))) (g.D.Disk.reads l.fn.disk)
      (g.D.Disk.reads l.disk);
  free : IsFreeFrom (ROWS * l.page) l.rows;
  counts : g.D.Disk.failures l.disk ≡ g.D.Disk.failures l.fn.disk;
  decoded : (bytes : ℕ → ℕ) → ReadsGave bytes (g.D.Disk.reads l.fn.disk) (g.D.Disk.reads l.disk) →
      (all : List (Option (ℕ × ℕ))) → length all ≡ length l.fn.rows → ((b : ℕ) → FitsRow (get_or all b None)) →
      ((b : ℕ) → b < ROWS * (journal_pages l.layout - 257) → AreAt bytes (row_place l.layout b) 8
      (row_bytes (get_or all b None))) →
      IsSameTo (ROWS * l.page) all l.rows;
  valid : (bytes : ℕ → ℕ) → ReadsGave bytes (g.D.Disk.reads l.fn.disk) (g.D.Disk.reads l.disk)
      → RowsAreAt bytes l.layout (ROWS * l.page) l.rows;
}
