use Rattle.std.proofs.Common.{◌≡◌, ◌<◌, ℕ, Some, None, get_or}
use Rattle.spool_catalog.proofs.lists.are_owned.Given as goal

abbrev pub invariant-loop-i : goal.invariant-loop-i
invariant-loop-i l = (k : ℕ) → k < l.i → get_or l.rows (get_or l.list k 0) None ≡ Some (l.slot, k)
