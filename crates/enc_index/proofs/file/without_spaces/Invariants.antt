use Rattle.std.proofs.Common.{◌≡◌, length}
use Rattle.enc_index.specs.Files.{without_spaces}
use Rattle.enc_index.proofs.file.without_spaces.Given as goal

abbrev pub invariant-loop-rest : goal.invariant-loop-rest
invariant-loop-rest l = without_spaces l.rest ≡ without_spaces l.field

abbrev pub decreases-loop-rest : goal.decreases-loop-rest
decreases-loop-rest l = length l.rest
