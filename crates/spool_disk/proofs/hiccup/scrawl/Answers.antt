use Rattle.std.proofs.Common.{rules, length}
use Rattle.spool_disk.proofs.Filled.{filled}
use Rattle.spool_disk.proofs.hiccup.scrawl.Goals as goal

pub returns-clause-fills : goal.returns-clause-fills
returns-clause-fills g c honest byte full =
    filled g.D.Disk c.args.at c.min-len.result (length c.args.bytes.now) byte c.args.filler.now _ _ c.write_at.result
    (search rules) full (c.write_at.ensures.writes honest) c.write_at.ensures.counts
