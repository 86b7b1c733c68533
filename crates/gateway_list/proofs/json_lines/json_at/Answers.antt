use Rattle.std.proofs.Common.{Result, Ok, Err, None, subst}
use Rattle.gateway_outside.specs.Counted.{counts_told}
use Rattle.gateway_outside.specs.Held.{leaves_again, leaves_put, unread}
use Rattle.gateway_outside.specs.declared.faults.Fault.{Fault}
use Rattle.gateway_list.specs.Json.{WritesJson}
use Rattle.gateway_list.specs.Listed.{ReadsTexts}
use Rattle.gateway_list.proofs.json_lines.json_at.Goals as goal

pub returns-in-Ok-clause-reads : goal.returns-in-Ok-clause-reads
returns-in-Ok-clause-reads g c disks held =
    let disk = g.F.File.Disk in
    let now = c.json_on-disk.result.0 in
    let before = g.W.Output.contents c.args.output.now in
    let after = g.W.Output.contents c.json_on-disk.new.writer in
    let texts : ReadsTexts disk c.args.disk now (WritesJson before after) c.json_on-disk.result.1 =
    assumption c.json_on-disk.ensures in
    leaves_put (g.F.SpoolFiles.holds c.close.new.self) disks c.args.path.now None _ now
    (c.close.ensures.closed _ held) (record {
      now = now;
      answer = Ok (tt {0});
      done = λ n m is. rw c.in-Ok.is at (c.json_on-disk.ensures.lines n m is);
      texts = subst (λ (r : Result (Unit {0}) Fault). ReadsTexts disk c.args.disk now (WritesJson before after) r)
          c.in-Ok.is texts;
      answers = tt;
      reads = unread disk now;
    })

pub returns-in-Err-clause-reads : goal.returns-in-Err-clause-reads
returns-in-Err-clause-reads g c disks held =
    let disk = g.F.File.Disk in
    let now = c.json_on-disk.result.0 in
    let before = g.W.Output.contents c.args.output.now in
    let after = g.W.Output.contents c.json_on-disk.new.writer in
    let texts : ReadsTexts disk c.args.disk now (WritesJson before after) c.json_on-disk.result.1 =
    assumption c.json_on-disk.ensures in
    leaves_again (g.F.SpoolFiles.holds c.refused_by.new.files) disks c.args.path.now None _ _
    (c.refused_by.ensures.left _ held) (λ d' reads. record {
      now = now;
      answer = Err c.in-Err.fault;
      done = λ n m is. tt;
      texts = subst (λ (r : Result (Unit {0}) Fault). ReadsTexts disk c.args.disk now (WritesJson before after) r)
          c.in-Err.is texts;
      answers = c.refused_by.ensures.fault;
      reads = reads;
    })

pub returns-in-Ok-clause-io : goal.returns-in-Ok-clause-io
returns-in-Ok-clause-io g c =
    counts_told {T = Unit {0}} {U = Unit {0}} (Ok (tt {0})) (Ok (tt {0})) _ _ tt
    (rw c.in-Ok.is at c.json_on-disk.ensures.io)

pub returns-in-Err-clause-io : goal.returns-in-Err-clause-io
returns-in-Err-clause-io g c =
    counts_told {T = Unit {0}} {U = Unit {0}} (Err c.in-Err.fault) (Err c.refused_by.result) _ _
    c.refused_by.ensures.fault (rw c.in-Err.is at c.json_on-disk.ensures.io)
