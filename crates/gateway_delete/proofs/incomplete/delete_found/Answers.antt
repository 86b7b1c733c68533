use Rattle.std.proofs.Common.{◌≡◌, ◌∙◌, None, Ok, refl, rules, sym}
use Rattle.gateway_outside.specs.Held.{leaves_put, unread}
use Rattle.gateway_delete.proofs.Does.{does_delete, does_none, does_show, none_in, some_in}
use Rattle.gateway_delete.proofs.incomplete.delete_found.Goals as goal

pub returns-then-is_empty-clause-does : goal.returns-then-is_empty-clause-does
returns-then-is_empty-clause-does g c disks held =
    let disk = g.F.File.Disk in
    let d = c.args.disk in
    let before = g.W.Output.contents c.args.output.now in
    leaves_put (g.F.SpoolFiles.holds c.close.new.self) disks c.args.path.now None _ d (c.close.ensures.closed _ held)
    (does_none disk d d before before (Ok tt) c.args.yes c.args.numbers.now
    (none_in c.args.numbers.now (sym c.is_empty.ensures ∙ c.if-is_empty.true)) (unread disk d) (search rules) refl)

pub returns-clause-does : goal.returns-clause-does
returns-clause-does g c disks held =
    let disk = g.F.File.Disk in
    let d = c.args.disk in
    let before = g.W.Output.contents c.args.output.now in
    let after = g.W.Output.contents c.show_doomed.new.output in
    leaves_put (g.F.SpoolFiles.holds c.close-2.new.self) disks c.args.path.now None _ d (c.close-2.ensures.closed _ held)
    (does_show disk d d before after c.show_doomed.result c.args.yes c.args.numbers.now c.if-yes.false
    (some_in c.args.numbers.now (sym c.is_empty.ensures ∙ c.if-is_empty.false)) (unread disk d)
    c.show_doomed.ensures.refused c.show_doomed.ensures.lines)
