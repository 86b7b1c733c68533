use Rattle.std.proofs.Common.{◌≡◌, length}
use Rattle.gateway_labels.specs.Lines.{is_first}
use Rattle.gateway_labels.proofs.lines.is_first.Given as goal

abbrev pub invariant-loop-other : goal.invariant-loop-other
invariant-loop-other l = is_first l.choice l.rest ≡ is_first l.choice l.choices

abbrev pub decreases-loop-other : goal.decreases-loop-other
decreases-loop-other l = length l.rest
