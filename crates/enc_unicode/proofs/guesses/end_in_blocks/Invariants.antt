use Rattle.std.proofs.Common.{◌≤◌, ◌-◌, length}
use Rattle.enc_unicode.proofs.guesses.end_in_blocks.Given as goal

abbrev pub invariant-by_blocks : goal.invariant-by_blocks
invariant-by_blocks l = (3 ≤ l.at) × (l.at ≤ length l.bytes)

abbrev pub decreases-by_blocks : goal.decreases-by_blocks
decreases-by_blocks l = length l.bytes - l.at
