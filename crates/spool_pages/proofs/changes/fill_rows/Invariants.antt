use Rattle.std.proofs.Common.{◌≡◌, ◌+◌, ◌-◌, ◌*◌, ◌<◌, ◌≤◌, ℕ, [], None, length, get_or}
use Rattle.common.specs.declared.limits.TheConstants.{ROWS}
use Rattle.spool_journal.specs.Image.{byte_of, page_number}
use Rattle.spool_pages.specs.View.{AreAt, row_bytes}
use Rattle.spool_pages.proofs.changes.fill_rows.Given as goal

abbrev pub invariant-loop-at : goal.invariant-loop-at
invariant-loop-at l = record {
  long : length l.pages ≡ length l.fn.pages;
  numbers : (k : ℕ) → k < length l.fn.pages → page_number l.pages k ≡ page_number l.fn.pages k;
  others : (k : ℕ) → page_number l.fn.pages k < l.first → get_or l.pages k (0, []) ≡ get_or l.fn.pages k (0, []);
  rows : (k : ℕ) → k < l.at → l.first ≤ page_number l.fn.pages k → (i : ℕ) → i < ROWS
      → AreAt (byte_of (get_or l.pages k (0, [])).1) (8 * i) 8
      (row_bytes (get_or l.rows (ROWS * (page_number l.fn.pages k - l.first) + i) None));
}
