use Rattle.std.proofs.Common.{List, ℕ, ◌++◌}
use Rattle.gateway_labels.specs.Counted.{IsCounted}
use Rattle.gateway_labels.proofs.counts.Counts.add.Given as goal

abbrev pub invariant-loop-c : goal.invariant-loop-c
invariant-loop-c l = (before : List ℕ) → IsCounted l.fn.self before → IsCounted l.self (before ++ l.yielded)
