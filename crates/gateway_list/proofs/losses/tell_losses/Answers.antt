use Rattle.std.proofs.Common.{None, refl}
use Rattle.gateway_outside.specs.Held.{leaves_more, leaves_put, unread}
use Rattle.gateway_list.proofs.losses.tell_losses.Goals as goal

pub returns-then-asked-clause-tells : goal.returns-then-asked-clause-tells
returns-then-asked-clause-tells g c disks held =
    leaves_more (g.F.SpoolFiles.holds c.tell_losses_at.new.files) disks c.args.path.now _ _
    (c.tell_losses_at.ensures.tells disks held) (λ d' told. rw c.if-asked.true told)

pub returns-clause-tells : goal.returns-clause-tells
returns-clause-tells g c disks held =
    leaves_put (g.F.SpoolFiles.holds c.close.new.self) disks c.args.path.now None _ c.args.disk
    (c.close.ensures.closed _ held) (rw c.if-asked.false (unread g.F.File.Disk c.args.disk, refl))
