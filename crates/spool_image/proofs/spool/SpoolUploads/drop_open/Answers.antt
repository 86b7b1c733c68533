use Rattle.std.proofs.Common.{ap}
use Rattle.spool_catalog.specs.Holding.{Holding}
use Rattle.spool_image.proofs.LeftImages.{quiet_still}
use Rattle.spool_image.proofs.spool.SpoolUploads.drop_open.Goals as goal

pub returns-clause-represents : goal.returns-clause-represents
returns-clause-represents g c sure w represents = c.drop_open.ensures.represents sure c.args.self.now.disk w represents

pub returns-clause-crash : goal.returns-clause-crash
returns-clause-crash g c =
    let before = c.args.self.now in
    quiet_still g.D.Disk before.disk before.catalog.layout c.drop_open.new.catalog.layout
    (ap (λ (h : Holding). h.layout) c.drop_open.ensures.same.same)
