use Rattle.std.proofs.Common.{◌≡◌, ◌∙◌, ap, Bool, Result, Ok, Err, None, refl, subst, sym}
use Rattle.gateway_outside.specs.Failures.{fault_in}
use Rattle.gateway_outside.specs.declared.faults.Fault.{Fault}
use Rattle.gateway_outside.specs.Counted.{counts_told, tells_done}
use Rattle.gateway_outside.specs.Held.{leaves_again, leaves_put, unread}
use Rattle.gateway_delete.specs.Deleted.{Deletes}
use Rattle.gateway_delete.proofs.deleting.delete_at.Goals as goal

pub returns-in-Ok-clause-deletes : goal.returns-in-Ok-clause-deletes
returns-in-Ok-clause-deletes g c disks held =
    let disk = g.F.File.Disk in
    let now = c.delete_on-disk.result.0 in
    let before = g.W.Output.contents c.args.output.now in
    let after = g.W.Output.contents c.delete_on-disk.new.writer in
    let all : Deletes disk c.args.disk now c.args.numbers.now before after c.delete_on-disk.result.1 =
    assumption c.delete_on-disk.ensures in
    leaves_put (g.F.SpoolFiles.holds c.close.new.self) disks c.args.path.now None _ now
    (c.close.ensures.closed _ held) (record {
      now = now;
      answer = Ok c.in-Ok.all;
      deletes = subst (λ (r : Result Bool Fault). Deletes disk c.args.disk now c.args.numbers.now before after r)
          c.in-Ok.is all;
      answers = c.ended.ensures.answers;
      reads = unread disk now;
    })

pub returns-in-Err-clause-deletes : goal.returns-in-Err-clause-deletes
returns-in-Err-clause-deletes g c disks held =
    let disk = g.F.File.Disk in
    let now = c.delete_on-disk.result.0 in
    let before = g.W.Output.contents c.args.output.now in
    let after = g.W.Output.contents c.delete_on-disk.new.writer in
    let all : Deletes disk c.args.disk now c.args.numbers.now before after c.delete_on-disk.result.1 =
    assumption c.delete_on-disk.ensures in
    leaves_again (g.F.SpoolFiles.holds c.refused_by.new.files) disks c.args.path.now None _ _
    (c.refused_by.ensures.left _ held) (λ d' reads. record {
      now = now;
      answer = Err c.in-Err.fault;
      deletes = subst (λ (r : Result Bool Fault). Deletes disk c.args.disk now c.args.numbers.now before after r)
          c.in-Err.is all;
      answers = c.refused_by.ensures.fault;
      reads = reads;
    })

pub returns-in-Ok-clause-io : goal.returns-in-Ok-clause-io
returns-in-Ok-clause-io g c =
    counts_told (Ok c.in-Ok.all) c.ended.result _ _ (tells_done c.in-Ok.all c.ended.result c.ended.ensures.never_io)
    (rw c.in-Ok.is at c.delete_on-disk.ensures.io)

pub returns-in-Err-clause-io : goal.returns-in-Err-clause-io
returns-in-Err-clause-io g c =
    counts_told {T = Bool} {U = Unit {0}} (Err c.in-Err.fault) (Err c.refused_by.result) _ _ c.refused_by.ensures.fault
    (rw c.in-Err.is at c.delete_on-disk.ensures.io)
