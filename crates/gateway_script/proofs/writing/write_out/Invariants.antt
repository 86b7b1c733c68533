use Rattle.std.proofs.Common.{◌≡◌, ◌++◌, ℕ, List, length}
use Rattle.std.specs.Io.KnownBytes.{Appends}
use Rattle.gateway_script.proofs.writing.write_out.Given as goal

abbrev pub invariant-loop-rest : goal.invariant-loop-rest
invariant-loop-rest g l =
    (g.W.CountedWrite.refusals l.writer ≡ g.W.CountedWrite.refusals l.fn.writer)
    × (prefix : List ℕ) × (l.bytes ≡ prefix ++ l.rest)
    × Appends (g.W.CountedWrite.contents l.fn.writer) (g.W.CountedWrite.contents l.writer) prefix

abbrev pub decreases-loop-rest : goal.decreases-loop-rest
decreases-loop-rest g l = length l.rest
