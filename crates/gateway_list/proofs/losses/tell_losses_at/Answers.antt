use Rattle.std.proofs.Common.{Result, Ok, Err, None, subst}
use Rattle.gateway_outside.specs.Held.{leaves_again, leaves_put, unread}
use Rattle.gateway_outside.specs.declared.faults.Fault.{Fault}
use Rattle.gateway_list.specs.Listed.{ReadsTexts}
use Rattle.gateway_list.proofs.losses.tell_losses_at.Goals as goal

pub returns-in-Ok-clause-tells : goal.returns-in-Ok-clause-tells
returns-in-Ok-clause-tells g c disks held =
    let disk = g.F.File.Disk in
    let now = c.losses_on-disk.result.0 in
    let texts : ReadsTexts disk c.args.disk now (λ m. Unit {0}) c.losses_on-disk.result.1 =
    assumption c.losses_on-disk.ensures in
    leaves_put (g.F.SpoolFiles.holds c.close.new.self) disks c.args.path.now None _ now
    (c.close.ensures.closed _ held) (record {
      now = now;
      answer = Ok (tt {0});
      done = λ n m is. tt;
      texts = subst (λ (r : Result (Unit {0}) Fault). ReadsTexts disk c.args.disk now (λ m. Unit {0}) r) c.in-Ok.is
          texts;
      answers = tt;
      reads = unread disk now;
    })

pub returns-in-Err-clause-tells : goal.returns-in-Err-clause-tells
returns-in-Err-clause-tells g c disks held =
    let disk = g.F.File.Disk in
    let now = c.losses_on-disk.result.0 in
    let texts : ReadsTexts disk c.args.disk now (λ m. Unit {0}) c.losses_on-disk.result.1 =
    assumption c.losses_on-disk.ensures in
    leaves_again (g.F.SpoolFiles.holds c.refused_in.new.files) disks c.args.path.now None _ _
    (c.refused_in.ensures.left _ held) (λ d' reads. record {
      now = now;
      answer = Err c.in-Err.fault;
      done = λ n m is. tt;
      texts = subst (λ (r : Result (Unit {0}) Fault). ReadsTexts disk c.args.disk now (λ m. Unit {0}) r) c.in-Err.is
          texts;
      answers = c.refused_in.ensures.fault;
      reads = reads;
    })
