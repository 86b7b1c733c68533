use Rattle.std.proofs.Common.{None, Some, rules}
use Rattle.gateway_outside.specs.Held.{leaves_put, leaves_read, others_put, others_same}
use Rattle.gateway_format.specs.Formatting.{unopened}
use Rattle.gateway_format.proofs.Reasons.{if_err_more, of_bytes}
use Rattle.gateway_format.proofs.formatting.look.Goals as goal

pub returns-in-Err-clause-others : goal.returns-in-Err-clause-others
returns-in-Err-clause-others g c disks held =
    others_same (g.F.SpoolFiles.holds c.open.new.self) disks c.args.path.now (c.in-Err.ensures.failed disks held)

pub returns-in-Err-looked-clause-spool : goal.returns-in-Err-looked-clause-spool
returns-in-Err-looked-clause-spool g c disks d held is honest magic =
    let opened = c.in-Ok.ensures.opened disks held in (
      search rules,
      leaves_read (g.F.SpoolFiles.holds c.close.new.self) disks c.args.path.now g.F.File.Disk c.in-Ok.disk d
          c.refuse_bytes-looked.new.disk opened.0 is (c.close.ensures.closed _ opened.1)
          c.refuse_bytes-looked.ensures.read,
    )

pub returns-in-Err-looked-clause-foreign : goal.returns-in-Err-looked-clause-foreign
returns-in-Err-looked-clause-foreign g c disks d held is honest bytes keeps =
    let opened = c.in-Ok.ensures.opened disks held in (
      search rules,
      leaves_read (g.F.SpoolFiles.holds c.close.new.self) disks c.args.path.now g.F.File.Disk c.in-Ok.disk d
          c.refuse_bytes-looked.new.disk opened.0 is (c.close.ensures.closed _ opened.1)
          c.refuse_bytes-looked.ensures.read,
    )

pub returns-in-Ok-looked-clause-others : goal.returns-in-Ok-looked-clause-others
returns-in-Ok-looked-clause-others g c disks held =
    others_put (g.F.SpoolFiles.holds c.close.new.self) disks c.args.path.now None (Some c.refuse_bytes-looked.new.disk)
    (c.close.ensures.closed _ (c.in-Ok.ensures.opened disks held).1)

pub returns-in-Err-looked-clause-others : goal.returns-in-Err-looked-clause-others
returns-in-Err-looked-clause-others g c disks held =
    others_put (g.F.SpoolFiles.holds c.close.new.self) disks c.args.path.now None (Some c.refuse_bytes-looked.new.disk)
    (c.close.ensures.closed _ (c.in-Ok.ensures.opened disks held).1)

pub returns-in-Err-clause-reasons : goal.returns-in-Err-clause-reasons
returns-in-Err-clause-reasons g c disks blocks held honest =
    if_err_more c.if_missing.result _ _ c.if_missing.ensures.fault (λ failure is. rw is (unopened _))

pub returns-in-Err-looked-clause-reasons : goal.returns-in-Err-looked-clause-reasons
returns-in-Err-looked-clause-reasons g c disks blocks held honest =
    let opened = c.in-Ok.ensures.opened disks held in
    let holds = g.F.SpoolFiles.holds c.close.new.self in
    let now = c.refuse_bytes-looked.new.disk in
    let is = honest c.in-Ok.disk opened.0 in
    rw c.refused_bytes.ensures (of_bytes g.F.File.Disk holds disks c.args.path.now blocks c.args.overwrite c.in-Ok.disk
    now c.in-Err-looked.fault is c.refuse_bytes-looked.ensures.read
    (λ P so. leaves_put holds disks c.args.path.now None P now (c.close.ensures.closed _ opened.1) so)
    (c.in-Err-looked.ensures.reasons is))
