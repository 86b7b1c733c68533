use Rattle.std.proofs.Common.{◌≡◌, ◌≤◌, ◌-◌, vec_len}
use Rattle.std.specs.Io.KnownBytes.{Consumes}
use Rattle.gateway_script.proofs.scripts.read_up_to.Given as goal

abbrev pub invariant-loop-piece : goal.invariant-loop-piece
invariant-loop-piece g l =
    (vec_len l.read ≤ l.most) × (g.R.CountedRead.refusals l.reader ≡ g.R.CountedRead.refusals l.fn.reader)
    × Consumes (g.R.CountedRead.remaining l.fn.reader) (g.R.CountedRead.remaining l.reader) l.read.items

abbrev pub decreases-loop-piece : goal.decreases-loop-piece
decreases-loop-piece g l = l.most - vec_len l.read
