use Rattle.std.proofs.Common.{◌≡◌, ◌⊎◌, inl, inr, refl}
use Rattle.gateway_outside.specs.Held.{leaves_as, leaves_more, leaves_same}
use Rattle.gateway_export.specs.Command.{ExportedIn, StaysOut}
use Rattle.gateway_export.proofs.command.export_into.Goals as goal

pub returns-in-Err-clause-exports : goal.returns-in-Err-clause-exports
returns-in-Err-clause-exports g c disks d held is =
    leaves_same (g.F.SpoolFiles.holds c.open_in.new.files) disks c.args.spool.now d _ is
    (c.in-Err.ensures.failed disks held)
    (inl (record { why = c.in-Err.ensures.noted; same = refl; unprinted = refl; unrefused = refl }, refl))

pub returns-in-Err-clause-tells : goal.returns-in-Err-clause-tells
returns-in-Err-clause-tells g c =
    inl (record { why = c.in-Err.ensures.noted; same = refl; unprinted = refl; unrefused = refl })

pub returns-clause-exports : goal.returns-clause-exports
returns-clause-exports g c disks d held is =
    let opened = c.in-Ok.ensures.opened disks held in
    let files = g.F.SpoolFiles in
    let spool = c.args.spool.now in
    let out = g.W.Output in
    let result = c.export_at.result in
    let found = c.args.found.now in
    let left = c.export_at.new.found in
    let before = out.refusals c.args.output.now in
    let after = out.refusals c.export_at.new.output in
    leaves_as (files.holds c.export_at.new.files) disks spool c.in-Ok.disk d
    (λ x d'. (StaysOut (files.unopened c.args.files.now) (files.unopened c.export_at.new.files) spool found left
    (out.contents c.args.output.now) (out.contents c.export_at.new.output) before after result × (d' ≡ x))
    ⊎ ExportedIn g.F.File.Disk g.G.Folder x found left c.args.all (out.contents c.args.output.now)
    (out.contents c.export_at.new.output) before after result d') opened.0 is
    (leaves_more (files.holds c.export_at.new.files) disks spool _ _ (c.export_at.ensures.exports disks opened.1)
    (λ d' so. inr so))

pub returns-clause-tells : goal.returns-clause-tells
returns-clause-tells g c = inr c.export_at.ensures.tells
