use Rattle.std.proofs.Common.{ℕ, ◌<◌, slice_index_or, None}
use Rattle.std.specs.Prelude.{IfSome}
use Rattle.enc_index.proofs.pointers.code_points.Given as goal

abbrev pub invariant-loop-code : goal.invariant-loop-code
invariant-loop-code l = (k : ℕ) → k < l.code-index → IfSome (slice_index_or l.codes k None) (λ c. c < l.count)
