use Rattle.upload_rules.specs.Calls.{commit_outcome}
use Rattle.spool_image.proofs.LeftImages.{limits_on}
use Rattle.spool_image.proofs.spool.SpoolUploads.commit.Goals as goal

pub returns-clause-crash : goal.returns-clause-crash
returns-clause-crash g c w p represents there holds =
    limits_on g.D.Disk c.args.self.now.disk c.commit.new.disk c.commit.ensures.honest c.commit.ensures.size
    c.args.self.now.catalog.layout
    c.commit.new.catalog.layout c.commit.ensures.layout w.store (commit_outcome w c.args.draft.number p)
    (c.commit.ensures.crash w p represents there)
