use Rattle.std.proofs.Common.{◌≡◌, ◌⊎◌, ap, Result, Ok, Err, None, inl, inr, refl, subst, sym}
use Rattle.std.specs.Prelude.{IsErrAnd}
use Rattle.gateway_outside.specs.declared.faults.Fault.{Fault}
use Rattle.gateway_outside.specs.Openings.{StaysShut}
use Rattle.gateway_outside.specs.Counted.{counts_none}
use Rattle.gateway_outside.specs.Held.{leaves_again, leaves_as, leaves_more, leaves_same}
use Rattle.gateway_delete.specs.declared.incomplete.Incomplete.{Incomplete}
use Rattle.gateway_delete.specs.Deleted.{FindsOn, FoundIn}
use Rattle.gateway_delete.proofs.incomplete.incomplete_in.Goals as goal

pub returns-in-Err-clause-deletes : goal.returns-in-Err-clause-deletes
returns-in-Err-clause-deletes g c disks d held is =
    leaves_same (g.F.SpoolFiles.holds c.open_in.new.files) disks c.args.path.now d _ is
    (c.in-Err.ensures.failed disks held) (inl (record { same = refl; why = c.in-Err.ensures.noted }, refl))

pub returns-in-Err-clause-io : goal.returns-in-Err-clause-io
returns-in-Err-clause-io g c = counts_none _ _ c.in-Err.ensures.never_io

pub returns-in-Err-found-clause-deletes : goal.returns-in-Err-found-clause-deletes
returns-in-Err-found-clause-deletes g c disks d held is =
    let opened = c.in-Ok.ensures.opened disks held in
    let files = g.F.SpoolFiles in
    let disk = g.F.File.Disk in
    let path = c.args.path.now in
    let before = g.W.Output.contents c.args.output.now in
    let holds = files.holds c.refused_in.new.files in
    let now = c.incomplete_on-disk.result.0 in
    let but = c.args.but.now in
    let failure = c.refused_in.result in
    let finds : FindsOn disk c.in-Ok.disk now but c.incomplete_on-disk.result.1 = assumption c.incomplete_on-disk.ensures in
    leaves_as holds disks path c.in-Ok.disk d
    (λ x d'. (StaysShut (files.unopened c.args.files.now) (files.unopened c.refused_in.new.files) path x failure d'
    × (before ≡ before)) ⊎ FoundIn {T = Unit {0}} disk x but c.args.yes before before (Err failure) d') opened.0 is
    (leaves_again holds disks path None _ _ (c.refused_in.ensures.left _ opened.1) (λ d' reads. inr (record {
      now = now;
      found = Err c.in-Err-found.fault;
      finds = subst (λ (r : Result Incomplete Fault). FindsOn disk c.in-Ok.disk now but r) c.in-Err-found.is finds;
      does = (reads, c.refused_in.ensures.fault, refl);
    })))

pub returns-in-Ok-found-clause-deletes : goal.returns-in-Ok-found-clause-deletes
returns-in-Ok-found-clause-deletes g c disks d held is =
    let opened = c.in-Ok.ensures.opened disks held in
    let files = g.F.SpoolFiles in
    let disk = g.F.File.Disk in
    let path = c.args.path.now in
    let before = g.W.Output.contents c.args.output.now in
    let after = g.W.Output.contents c.delete_unless.new.output in
    let holds = files.holds c.delete_unless.new.files in
    let shut = files.unopened c.args.files.now in
    let shut' = files.unopened c.delete_unless.new.files in
    let now = c.incomplete_on-disk.result.0 in
    let but = c.args.but.now in
    let result = c.delete_unless.result in
    let finds : FindsOn disk c.in-Ok.disk now but c.incomplete_on-disk.result.1 = assumption c.incomplete_on-disk.ensures in
    leaves_as holds disks path c.in-Ok.disk d
    (λ x d'. IsErrAnd result (λ failure. StaysShut shut shut' path x failure d' × (after ≡ before))
    ⊎ FoundIn disk x but c.args.yes before after result d') opened.0 is
    (leaves_more holds disks path _ _ (c.delete_unless.ensures.does disks opened.1) (λ d' does. inr (record {
      now = now;
      found = Ok c.in-Ok-found.found;
      finds = subst (λ (r : Result Incomplete Fault). FindsOn disk c.in-Ok.disk now but r) c.in-Ok-found.is finds;
      does = does;
    })))
