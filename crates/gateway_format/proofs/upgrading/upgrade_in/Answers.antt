use Rattle.std.proofs.Common.{◌≡◌, ◌∙◌, ◌⊎◌, None, Ok, Err, inl, inr, refl}
use Rattle.std.specs.Prelude.{IsErrAnd}
use Rattle.gateway_outside.specs.Counted.{counts_none}
use Rattle.gateway_outside.specs.Held.{leaves_again, leaves_as, leaves_put, leaves_same, unread}
use Rattle.gateway_outside.specs.Openings.{StaysShut}
use Rattle.gateway_format.specs.Upgrading.{UpgradedIn}
use Rattle.gateway_format.proofs.Upgraded.{io_by, never_io}
use Rattle.gateway_format.proofs.upgrading.upgrade_in.Goals as goal

pub returns-in-Err-clause-upgrades : goal.returns-in-Err-clause-upgrades
returns-in-Err-clause-upgrades g c disks d held is =
    leaves_same (g.F.SpoolFiles.holds c.open_in.new.files) disks c.args.path.now d _ is
    (c.in-Err.ensures.failed disks held) (inl (record { same = refl; why = c.in-Err.ensures.noted }, refl))

pub returns-in-Err-clause-io : goal.returns-in-Err-clause-io
returns-in-Err-clause-io g c = counts_none _ _ c.in-Err.ensures.never_io

pub returns-in-Ok-upgrade-clause-upgrades : goal.returns-in-Ok-upgrade-clause-upgrades
returns-in-Ok-upgrade-clause-upgrades g c disks d held is =
    let opened = c.in-Ok.ensures.opened disks held in
    let files = g.F.SpoolFiles in
    let holds = files.holds c.close.new.self in
    let path = c.args.path.now in
    let before = g.W.Output.contents c.args.output.now in
    let after = g.W.Output.contents c.report_upgraded.new.output in
    let shut = files.unopened c.args.files.now in
    let shut' = files.unopened c.close.new.self in
    let result = c.report_upgraded.result in
    let now = c.upgrade.new.disk in
    let disk = g.F.File.Disk in
    leaves_as holds disks path c.in-Ok.disk d
    (λ x d'. IsErrAnd result (λ failure. StaysShut shut shut' path x failure d' × (after ≡ before))
    ⊎ UpgradedIn disk x before after result d') opened.0 is
    (leaves_put holds disks path None _ now (c.close.ensures.closed _ opened.1) (inr (record {
      now = now;
      answer = Ok (tt {0});
      upgrades = assumption c.in-Ok-upgrade.ensures;
      answers = (c.report_upgraded.ensures.refused, c.report_upgraded.ensures.line);
      reads = unread disk now;
    })))

pub returns-in-Ok-upgrade-clause-io : goal.returns-in-Ok-upgrade-clause-io
returns-in-Ok-upgrade-clause-io g c =
    io_by c.report_upgraded.result _ _ c.report_upgraded.ensures.refused c.report_upgraded.ensures.io

pub returns-in-Err-upgrade-clause-upgrades : goal.returns-in-Err-upgrade-clause-upgrades
returns-in-Err-upgrade-clause-upgrades g c disks d held is =
    let opened = c.in-Ok.ensures.opened disks held in
    let files = g.F.SpoolFiles in
    let holds = files.holds c.refused_in.new.files in
    let path = c.args.path.now in
    let before = g.W.Output.contents c.args.output.now in
    let shut = files.unopened c.args.files.now in
    let shut' = files.unopened c.refused_in.new.files in
    let failure = c.refused_in.result in
    let disk = g.F.File.Disk in
    leaves_as holds disks path c.in-Ok.disk d
    (λ x d'. (StaysShut shut shut' path x failure d' × (before ≡ before))
    ⊎ UpgradedIn {T = Unit {0}} disk x before before (Err failure) d') opened.0 is
    (leaves_again holds disks path None _ _ (c.refused_in.ensures.left _ opened.1) (λ d' reads. inr (record {
      now = c.upgrade.new.disk;
      answer = Err c.in-Err-upgrade.error;
      upgrades = assumption c.in-Err-upgrade.ensures;
      answers = (c.refused_in.ensures.fault ∙ c.from.ensures, refl);
      reads = reads;
    })))

pub returns-in-Err-upgrade-clause-io : goal.returns-in-Err-upgrade-clause-io
returns-in-Err-upgrade-clause-io g c =
    counts_none _ _ (never_io c.in-Err-upgrade.error _ (c.refused_in.ensures.fault ∙ c.from.ensures))
