use Rattle.std.proofs.Common.{ℕ, ◌+◌, ◌*◌, ◌<◌}
use Rattle.enc_index.specs.Area.{nth_file}
use Rattle.enc_index.specs.Compared.{HasEntries}
use Rattle.enc_index.proofs.area.has_single.Given as goal

abbrev pub invariant-loop-n : goal.invariant-loop-n
invariant-loop-n l = (k : ℕ) → k < l.n → HasEntries l.area (20179 + 128 * k) 128 (nth_file l.set (3 + k))
