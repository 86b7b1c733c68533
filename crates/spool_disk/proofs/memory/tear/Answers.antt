use Rattle.std.proofs.Common.{arith}
use Rattle.spool_disk.proofs.Marks.{below_length}
use Rattle.spool_disk.proofs.memory.tear.Goals as goal

pub returns-clause-left : goal.returns-clause-left
returns-clause-left c p is = c.loop-i.invariant.left p (omega (arith, below_length c.args.unsynced.now p is)) is
