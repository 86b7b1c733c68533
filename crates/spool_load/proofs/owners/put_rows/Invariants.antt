use Rattle.std.proofs.Common.{◌≡◌, ◌≤◌, ◌<◌, ◌+◌, ◌*◌, ℕ, List, Option, None, length, get_or}
use Rattle.common.specs.declared.limits.TheConstants.{ROWS}
use Rattle.spool_journal.specs.Image.{byte_of}
use Rattle.spool_pages.specs.Fits.{FitsRow}
use Rattle.spool_load.specs.Reads.{IsSameTo}
use Rattle.spool_pages.specs.View.{AreAt, row_bytes}
use Rattle.spool_load.proofs.owners.put_rows.Given as goal

abbrev pub invariant-loop-k : goal.invariant-loop-k
invariant-loop-k l = record {
  decoded : (all : List (Option (ℕ × ℕ))) → length all ≡ length l.fn.rows → ((b : ℕ) → FitsRow (get_or all b None)) →
      ((k : ℕ) → k < ROWS → AreAt (byte_of l.page) (8 * k) 8 (row_bytes (get_or all (l.first + k) None))) →
      IsSameTo l.first all l.fn.rows → IsSameTo (l.first + l.k) all l.rows;
  valid : (m : ℕ) → m < l.k → AreAt (byte_of l.page) (8 * m) 8 (row_bytes (get_or l.rows (l.first + m) None));
  before : (b : ℕ) → b < l.first → get_or l.rows b None ≡ get_or l.fn.rows b None;
  after : (b : ℕ) → l.first + ROWS ≤ b → get_or l.rows b None ≡ get_or l.fn.rows b None;
}
