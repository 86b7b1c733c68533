use Rattle.upload_rules.specs.Store.{upload_of}
use Rattle.spool_image.proofs.RepresentsOn.{begun_any}
use Rattle.spool_image.proofs.spool.SpoolUploads.begin.Goals as goal

pub returns-clause-answer : goal.returns-clause-answer
returns-clause-answer g c sure w represents =
    let a = c.in_ok-number.ensures.answer sure c.args.self.now.disk w represents in (
      a.0,
      (a.1.0, begun_any c.args.number c.args.count c.args.declare (upload_of w.store c.args.number), a.1.1),
    )
