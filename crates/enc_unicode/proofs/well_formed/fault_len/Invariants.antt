use Rattle.std.proofs.Common.{◌-◌, ◌<◌, ◌≤◌, length}
use Rattle.enc_unicode.proofs.well_formed.fault_len.Given as goal

abbrev pub invariant-by_bytes : goal.invariant-by_bytes
invariant-by_bytes l = (0 < l.at) × (l.at ≤ length l.bytes) × (l.at ≤ 8)

abbrev pub decreases-by_bytes : goal.decreases-by_bytes
decreases-by_bytes l = 8 - l.at
