use Rattle.std.proofs.Common.{ap}
use Rattle.spool_catalog.specs.Holding.{Holding}
use Rattle.spool_image.proofs.AnswersMore.{does_more}
use Rattle.spool_image.proofs.LeftImages.{quiet_shown}
use Rattle.spool_image.proofs.spool.SpoolUploads.append.Goals as goal

pub returns-clause-answer : goal.returns-clause-answer
returns-clause-answer g c sure w p represents there holds fits =
    does_more c.append.result _ (λ done after. (tt, after)) (c.append.ensures.answer sure w p represents there fits)

pub returns-clause-crash : goal.returns-clause-crash
returns-clause-crash g c w p represents there holds =
    let disk = c.args.self.now.disk in
    quiet_shown g.D.Disk disk c.append.new.disk c.append.ensures.honest c.append.ensures.size
    c.args.self.now.catalog.layout c.append.new.catalog.layout
    (ap (λ (h : Holding). h.layout) c.append.ensures.same.same) (g.met.D.Disk.counts_now disk)
    (c.append.ensures.quiet w p represents there)
