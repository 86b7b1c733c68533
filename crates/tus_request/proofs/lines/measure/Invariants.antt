use Rattle.tus_request.proofs.LineLemmas.{IsSoFar}
use Rattle.std.proofs.Common.{length}
use Rattle.tus_request.proofs.lines.measure.Given as goal

abbrev pub invariant-loop-last : goal.invariant-loop-last
invariant-loop-last l = IsSoFar l.bytes l.rest l.len l.texts

abbrev pub decreases-loop-last : goal.decreases-loop-last
decreases-loop-last l = length l.rest
