use Rattle.std.proofs.Common.{◌≡◌, None, refl, sym}
use Rattle.gateway_outside.specs.Held.{leaves_more, leaves_put, unread}
use Rattle.gateway_delete.proofs.Does.{does_but, does_refuse}
use Rattle.gateway_delete.proofs.incomplete.delete_unless.Goals as goal

pub returns-in-Some-clause-does : goal.returns-in-Some-clause-does
returns-in-Some-clause-does g c disks held =
    let disk = g.F.File.Disk in
    let d = c.args.disk in
    let before = g.W.Output.contents c.args.output.now in
    leaves_put (g.F.SpoolFiles.holds c.close.new.self) disks c.args.path.now None _ d (c.close.ensures.closed _ held)
    (does_refuse (Unit {0}) disk d d before c.advised.result c.args.found.now.unknown c.in-Some.number c.in-Some.is
    c.args.yes c.args.found.now.numbers.items (unread disk d) c.advised.ensures)

pub returns-in-None-clause-does : goal.returns-in-None-clause-does
returns-in-None-clause-does g c disks held =
    let does = rw c.deref-in-None.ensures.value at (c.delete_found.ensures.does disks held) in
    leaves_more (g.F.SpoolFiles.holds c.delete_found.new.files) disks c.args.path.now _ _ does
    (λ d' so. does_but g.F.File.Disk c.args.disk d' _ _ c.delete_found.result c.args.found.now.unknown c.in-None.is
    c.args.yes c.args.found.now.numbers.items so)
