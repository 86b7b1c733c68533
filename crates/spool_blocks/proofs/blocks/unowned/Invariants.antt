use Rattle.std.proofs.Common.{◌≡◌, ◌<◌, ℕ, length, get_or, true, false, None}
use Rattle.spool_blocks.proofs.blocks.unowned.Given as goal

abbrev pub invariant-loop-i : goal.invariant-loop-i
invariant-loop-i l = record {
  size : length l.free ≡ length l.rows;
  past : (b : ℕ) → b < length l.rows → get_or l.free b false ≡ true → b < l.i;
  no_owner : (b : ℕ) → b < length l.rows → get_or l.free b false ≡ true → get_or l.rows b None ≡ None;
  all : (b : ℕ) → b < l.i → b < length l.rows → get_or l.rows b None ≡ None → get_or l.free b false ≡ true;
}
