use Rattle.std.proofs.Common.{◌≡◌, replicate, None}
use Rattle.enc_index.proofs.set.IndexSet.new.Given as goal

abbrev pub invariant-loop-place : goal.invariant-loop-place
invariant-loop-place l = l.single.items ≡ replicate l._place None
