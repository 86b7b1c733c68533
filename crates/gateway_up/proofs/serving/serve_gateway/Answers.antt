use Rattle.std.proofs.Common.{inl, inr, refl}
use Rattle.gateway_up.specs.Serving.{served, unheard, untold}
use Rattle.gateway_up.proofs.serving.serve_gateway.Goals as goal

pub returns-in-Err : goal.returns-in-Err
returns-in-Err g c =
    elim c.in-Err.ensures.failed [
      | inl not ↦ unheard _ not.0 refl not.1 (record {
        shows = c.into_disk.ensures.shows;
        quiet = c.into_disk.ensures.crash;
        counts = c.into_disk.ensures.counts;
      })
      | inr not ↦ untold _ not.0 refl not.1 (record {
        shows = c.into_disk.ensures.shows;
        quiet = c.into_disk.ensures.crash;
        counts = c.into_disk.ensures.counts;
      })
    ]

pub returns-in-Ok-served : goal.returns-in-Ok-served
returns-in-Ok-served g c =
    served _ c.serve_all-gateway.result.gateway c.serve_all-gateway.result.served c.in-Ok.ensures.heard
    c.serve_all-gateway.ensures (rw c.in-Ok-served.is (tt {0})) (record {
      shows = c.into_disk-disk.ensures.shows;
      quiet = c.into_disk-disk.ensures.crash;
      counts = c.into_disk-disk.ensures.counts;
    })

pub returns : goal.returns
returns g c =
    served _ c.serve_all-gateway.result.gateway c.serve_all-gateway.result.served c.in-Ok.ensures.heard
    c.serve_all-gateway.ensures (rw c.in-Err-served.is c.from.ensures) (record {
      shows = c.into_disk-disk.ensures.shows;
      quiet = c.into_disk-disk.ensures.crash;
      counts = c.into_disk-disk.ensures.counts;
    })
