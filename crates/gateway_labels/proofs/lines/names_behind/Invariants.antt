use Rattle.std.proofs.Common.{◌≡◌, [], length}
use Rattle.std.specs.Prelude.{string_bytes}
use Rattle.gateway_labels.specs.Lines.{names_behind}
use Rattle.gateway_labels.proofs.lines.names_behind.Given as goal

abbrev pub invariant-loop-other : goal.invariant-loop-other
invariant-loop-other l =
    names_behind l.joint l.choice (string_bytes l.names) l.rest ≡ names_behind l.joint l.choice [] l.choices

abbrev pub decreases-loop-other : goal.decreases-loop-other
decreases-loop-other l = length l.rest
