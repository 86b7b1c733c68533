use Rattle.std.proofs.Common.{◌≡◌, length}
use Rattle.tus_request.specs.Texts.{skipped}
use Rattle.tus_request.proofs.texts.without_prefix.Given as goal

abbrev pub invariant-loop-first : goal.invariant-loop-first
invariant-loop-first l = skipped l.blanks l.rest ≡ skipped l.blanks l.text

abbrev pub decreases-loop-first : goal.decreases-loop-first
decreases-loop-first l = length l.rest
