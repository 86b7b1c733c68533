use Rattle.std.proofs.Common.{rules, length, sym, ◌∙◌}
use Rattle.spool_disk.proofs.Filled.{leaves_byte}
use Rattle.spool_disk.proofs.hiccup.HiccupDiskDisk.write_at.Goals as goal

pub returns-in-Some-clause-leaves : goal.returns-in-Some-clause-leaves
returns-in-Some-clause-leaves g c _ =
    leaves_byte g.D.Disk c.args.at (length c.args.bytes.now) c.in-Some.byte c.args.self.now _ _
    (sym c.pass.ensures.fill ∙ c.in-Some.is) c.pass.ensures.inner
    (λ honest. c.scrawl.ensures.fills honest c.in-Some.byte (search rules))
