use Rattle.std.proofs.Common.{ap, sym}
use Rattle.gateway_outside.specs.Held.{unread}
use Rattle.gateway_up.specs.Stops.{fault_of}
use Rattle.gateway_up.proofs.stops.stopped_in.Goals as goal

pub returns-in-Outside : goal.returns-in-Outside
returns-in-Outside g c = record {
  fault = ap fault_of (sym c.in-Outside.is);
  left = λ disks held. record {
    disk = c.args.disk;
    held = c.close.ensures.closed disks held;
    is = unread g.F.File.Disk c.args.disk;
  };
}
