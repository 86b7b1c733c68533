use Rattle.std.proofs.Common.{◌≡◌, Result, Ok, Err, None, subst}
use Rattle.gateway_outside.specs.Held.{leaves_again, leaves_put, unread}
use Rattle.gateway_outside.specs.declared.faults.Fault.{Fault}
use Rattle.gateway_export.specs.Command.{ExportsOn}
use Rattle.gateway_export.specs.declared.exporting.ExportTally.{ExportTally}
use Rattle.gateway_export.proofs.command.export_at.Goals as goal

pub returns-in-Ok-clause-exports : goal.returns-in-Ok-clause-exports
returns-in-Ok-clause-exports g c disks held =
    let disk = g.F.File.Disk in
    let folder = g.G.Folder in
    let now = c.export_on-disk.result.0 in
    let found = c.args.found.now in
    let left = c.export_on-disk.new.folder in
    let out = g.W.Output in
    let writer = c.args.output.now in
    let writer' = c.export_on-disk.new.writer in
    let before = out.contents writer in
    let after = out.contents writer' in
    let all : ExportsOn disk folder c.args.disk now found left c.args.all before after
    (out.refusals writer) (out.refusals writer') c.export_on-disk.result.1 =
    assumption c.export_on-disk.ensures in
    leaves_put (g.F.SpoolFiles.holds c.close.new.self) disks c.args.spool.now None _ now
    (c.close.ensures.closed _ held) (record {
      now = now;
      answer = Ok c.in-Ok.done;
      exports = subst (λ (r : Result ExportTally Fault). ExportsOn disk folder c.args.disk now found left c.args.all
          before after (out.refusals writer) (out.refusals writer') r) c.in-Ok.is all;
      answers = c.ended.ensures;
      reads = unread disk now;
    })

pub returns-in-Err-clause-exports : goal.returns-in-Err-clause-exports
returns-in-Err-clause-exports g c disks held =
    let disk = g.F.File.Disk in
    let folder = g.G.Folder in
    let now = c.export_on-disk.result.0 in
    let found = c.args.found.now in
    let left = c.export_on-disk.new.folder in
    let out = g.W.Output in
    let writer = c.args.output.now in
    let writer' = c.export_on-disk.new.writer in
    let before = out.contents writer in
    let after = out.contents writer' in
    let all : ExportsOn disk folder c.args.disk now found left c.args.all before after
    (out.refusals writer) (out.refusals writer') c.export_on-disk.result.1 =
    assumption c.export_on-disk.ensures in
    leaves_again (g.F.SpoolFiles.holds c.refused_at.new.files) disks c.args.spool.now None _ _
    (c.refused_at.ensures.left _ held) (λ d' reads. record {
      now = now;
      answer = Err c.in-Err.fault;
      exports = subst (λ (r : Result ExportTally Fault). ExportsOn disk folder c.args.disk now found left c.args.all
          before after (out.refusals writer) (out.refusals writer') r) c.in-Err.is all;
      answers = c.refused_at.ensures.fault;
      reads = reads;
    })

pub returns-in-Ok-clause-tells : goal.returns-in-Ok-clause-tells
returns-in-Ok-clause-tells g c = record {
  answer = Ok c.in-Ok.done;
  io = rw c.in-Ok.is at c.export_on-disk.ensures.io;
  unread = rw c.in-Ok.is at c.export_on-disk.ensures.unread;
  answers = c.ended.ensures;
}

pub returns-in-Err-clause-tells : goal.returns-in-Err-clause-tells
returns-in-Err-clause-tells g c = record {
  answer = Err c.in-Err.fault;
  io = rw c.in-Err.is at c.export_on-disk.ensures.io;
  unread = rw c.in-Err.is at c.export_on-disk.ensures.unread;
  answers = c.refused_at.ensures.fault;
}
