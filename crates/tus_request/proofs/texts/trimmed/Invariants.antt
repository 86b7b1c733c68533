use Rattle.std.proofs.Common.{◌≡◌, length}
use Rattle.std.specs.Prelude.{reverse}
use Rattle.tus_request.specs.Texts.{skipped, trimmed}
use Rattle.tus_request.proofs.texts.trimmed.Given as goal

abbrev pub invariant-loop-last : goal.invariant-loop-last
invariant-loop-last l = reverse (skipped l.blanks (reverse l.rest)) ≡ trimmed l.blanks l.text

abbrev pub decreases-loop-last : goal.decreases-loop-last
decreases-loop-last l = length l.rest
