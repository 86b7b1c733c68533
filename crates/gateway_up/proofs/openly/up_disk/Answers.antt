use Rattle.std.proofs.Common.{refl}
use Rattle.gateway_up.specs.Serving.{opened, unopened}
use Rattle.gateway_up.proofs.openly.up_disk.Goals as goal

pub returns-in-Ok : goal.returns-in-Ok
returns-in-Ok g c =
    let e = c.in-Ok.ensures in
    let view = e.view in
    opened _ c.in-Ok.gateway (record {
      size = e.size;
      represents = e.opened;
      shows = e.shows;
      lasts = e.lasts;
      view = (view.0, view.1, view.3, e.represents_view view.0 view.1 view.3 view.2);
      exact = e.exact;
      unwritten = e.unwritten;
      counts = e.counts;
    }) c.up_gateway.ensures

pub returns-in-Err : goal.returns-in-Err
returns-in-Err g c =
    let e = c.in-Err.ensures in
    unopened _ c.in-Err.fault (refl, refl, refl, refl) (record {
      size = e.size;
      exact = e.exact;
      lasts = e.lasts;
      unwritten = e.unwritten;
      counts = e.counts;
    }) c.from.ensures
