use Rattle.std.proofs.Common.{◌≡◌, length}
use Rattle.gateway_texts.specs.Naming.{pair}
use Rattle.gateway_texts.proofs.naming.pair.Given as goal

abbrev pub invariant-loop-first : goal.invariant-loop-first
invariant-loop-first l = pair l.rest ≡ pair l.part

abbrev pub decreases-loop-first : goal.decreases-loop-first
decreases-loop-first l = length l.rest
