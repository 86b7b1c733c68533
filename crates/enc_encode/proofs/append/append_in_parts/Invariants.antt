use Rattle.enc_encode.proofs.Growth.{Filled}
use Rattle.enc_encode.proofs.append.append_in_parts.Given as goal

abbrev pub invariant-loop-size : goal.invariant-loop-size
invariant-loop-size l = Filled l.fn.out l.bytes l.done l.out

abbrev pub decreases-loop-size : goal.decreases-loop-size
decreases-loop-size l = l.size
