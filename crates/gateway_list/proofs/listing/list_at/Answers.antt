use Rattle.std.proofs.Common.{Result, Ok, Err, None, subst}
use Rattle.gateway_outside.specs.Counted.{counts_told, tells_done}
use Rattle.gateway_outside.specs.Held.{leaves_again, leaves_more}
use Rattle.gateway_outside.specs.declared.faults.Fault.{Fault}
use Rattle.gateway_indexes.specs.declared.surveying.Survey.{Survey}
use Rattle.gateway_list.specs.Listed.{ListsAs}
use Rattle.gateway_list.proofs.listing.list_at.Goals as goal

pub returns-in-Ok-clause-lists : goal.returns-in-Ok-clause-lists
returns-in-Ok-clause-lists g c disks held =
    let disk = g.F.File.Disk in
    let now = c.list_on-disk.result.0 in
    let before = g.W.Output.contents c.args.output.now in
    let after = g.W.Output.contents c.list_on-disk.new.writer in
    let all : ListsAs disk c.args.disk now c.args.long before after c.list_on-disk.result.1 =
    assumption c.list_on-disk.ensures in
    leaves_more (g.F.SpoolFiles.holds c.tell_losses.new.files) disks c.args.path.now _ _
    (c.tell_losses.ensures.tells disks held) (λ d' told. record {
      now = now;
      answer = Ok c.in-Ok.survey;
      lists = subst (λ (r : Result Survey Fault). ListsAs disk c.args.disk now c.args.long before after r) c.in-Ok.is
          all;
      ends = told;
    })

pub returns-in-Err-clause-lists : goal.returns-in-Err-clause-lists
returns-in-Err-clause-lists g c disks held =
    let disk = g.F.File.Disk in
    let now = c.list_on-disk.result.0 in
    let before = g.W.Output.contents c.args.output.now in
    let after = g.W.Output.contents c.list_on-disk.new.writer in
    let all : ListsAs disk c.args.disk now c.args.long before after c.list_on-disk.result.1 =
    assumption c.list_on-disk.ensures in
    leaves_again (g.F.SpoolFiles.holds c.refused_by.new.files) disks c.args.path.now None _ _
    (c.refused_by.ensures.left _ held) (λ d' reads. record {
      now = now;
      answer = Err c.in-Err.fault;
      lists = subst (λ (r : Result Survey Fault). ListsAs disk c.args.disk now c.args.long before after r) c.in-Err.is
          all;
      ends = (reads, c.refused_by.ensures.fault);
    })

pub returns-in-Ok-clause-io : goal.returns-in-Ok-clause-io
returns-in-Ok-clause-io g c =
    counts_told (Ok c.in-Ok.survey) c.tell_losses.result _ _
    (tells_done c.in-Ok.survey c.tell_losses.result c.tell_losses.ensures.never_io)
    (rw c.in-Ok.is at c.list_on-disk.ensures.io)

pub returns-in-Err-clause-io : goal.returns-in-Err-clause-io
returns-in-Err-clause-io g c =
    counts_told {T = Survey} {U = Unit {0}} (Err c.in-Err.fault) (Err c.refused_by.result) _ _
    c.refused_by.ensures.fault (rw c.in-Err.is at c.list_on-disk.ensures.io)
