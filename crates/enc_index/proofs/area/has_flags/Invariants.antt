use Rattle.std.proofs.Common.{◌≡◌, ℕ, ◌<◌, slice_index}
use Rattle.enc_index.specs.Area.{nth_file, flag}
use Rattle.enc_index.proofs.area.has_flags.Given as goal

abbrev pub invariant-loop-file : goal.invariant-loop-file
invariant-loop-file l = (k : ℕ) → k < l.file → slice_index l.area k ≡ flag (nth_file l.set k)
