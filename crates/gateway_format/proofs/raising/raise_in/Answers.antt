use Rattle.gateway_outside.specs.Counted.{counts_none}
use Rattle.gateway_outside.specs.Held.{leaves_more}
use Rattle.gateway_format.proofs.Raised as raises
use Rattle.gateway_format.proofs.Upgraded.{io_by}
use Rattle.gateway_format.proofs.raising.raise_in.Goals as goal

pub returns-in-Ok-clause-raises : goal.returns-in-Ok-clause-raises
returns-in-Ok-clause-raises g c disks d held is =
    let holds = g.F.SpoolFiles.holds c.raise_to.new.files in
    let told = c.report_raised.ensures in
    leaves_more holds disks c.args.path.now _ _ (c.in-Ok.ensures.raises disks d held is) (λ d' so.
    raises.told g.F.File.Disk d d' c.args.number _ c.in-Ok.next _ _ c.report_raised.result told.refused told.line so)

pub returns-in-Err-clause-raises : goal.returns-in-Err-clause-raises
returns-in-Err-clause-raises g c disks d held is =
    let holds = g.F.SpoolFiles.holds c.raise_to.new.files in
    leaves_more holds disks c.args.path.now _ _ (c.in-Err.ensures.raises disks d held is) (λ d' so.
    raises.untold g.F.File.Disk d d' c.args.number _ (g.W.Output.contents c.args.output.now) c.in-Err.failure so)

pub returns-in-Ok-clause-io : goal.returns-in-Ok-clause-io
returns-in-Ok-clause-io g c =
    io_by c.report_raised.result _ _ c.report_raised.ensures.refused c.report_raised.ensures.io

pub returns-in-Err-clause-io : goal.returns-in-Err-clause-io
returns-in-Err-clause-io g c = counts_none _ _ c.in-Err.ensures.never_io
