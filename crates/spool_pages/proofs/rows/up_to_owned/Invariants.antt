use Rattle.std.proofs.Common.{◌≡◌, ◌≤◌, ℕ, None, length, get_or}
use Rattle.spool_pages.proofs.rows.up_to_owned.Given as goal

abbrev pub invariant-loop-len : goal.invariant-loop-len
invariant-loop-len l = record {
  within : l.len ≤ length l.rows;
  free : (k : ℕ) → l.len ≤ k → get_or l.rows k None ≡ None;
}

abbrev pub decreases-loop-len : goal.decreases-loop-len
decreases-loop-len l = l.len
