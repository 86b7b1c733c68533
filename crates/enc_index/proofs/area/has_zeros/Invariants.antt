use Rattle.std.proofs.Common.{◌≡◌, ℕ, ◌≤◌, ◌<◌, slice_index}
use Rattle.enc_index.proofs.area.has_zeros.Given as goal

abbrev pub invariant-loop-place : goal.invariant-loop-place
invariant-loop-place l = (k : ℕ) → l.start ≤ k → k < l.place → slice_index l.area k ≡ 0
