use Rattle.upload_rules.specs.Calls.{terminate_outcome}
use Rattle.spool_image.proofs.LeftImages.{limits_on}
use Rattle.spool_image.proofs.spool.SpoolUploads.terminate.Goals as goal

pub returns-clause-crash : goal.returns-clause-crash
returns-clause-crash g c w represents =
    limits_on g.D.Disk c.args.self.now.disk c.terminate.new.disk c.terminate.ensures.honest c.terminate.ensures.size
    c.args.self.now.catalog.layout
    c.terminate.new.catalog.layout c.terminate.ensures.layout w.store (terminate_outcome w c.args.number)
    (c.terminate.ensures.crash w represents)
