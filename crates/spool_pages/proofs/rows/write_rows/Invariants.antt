use Rattle.std.proofs.Common.{◌≡◌, ◌<◌, ◌≤◌, ◌*◌, ℕ, None, get_or}
use Rattle.spool_journal.specs.Image.{byte_of}
use Rattle.spool_pages.specs.View.{AreAt, row_bytes}
use Rattle.spool_pages.proofs.rows.write_rows.Given as goal

abbrev pub invariant-loop-k : goal.invariant-loop-k
invariant-loop-k l = record {
  written : (i : ℕ) → i < l.k → AreAt (byte_of l.page) (8 * i) 8 (row_bytes (get_or l.rows i None));
  blank : (p : ℕ) → 8 * l.k ≤ p → get_or l.page p 0 ≡ 0;
}
