use Rattle.std.proofs.Common.{sym}
use Rattle.gateway_up.specs.Watched.{gateway_under}
use Rattle.gateway_up.proofs.Under.{session_under}
use Rattle.gateway_up.proofs.openly.serve_logged.Goals as goal

pub returns : goal.returns
returns g c =
    rw (c.into_gateway.ensures, sym c.new-watched.ensures) (session_under gateway_under _ (λ logged. logged.stream) _ _
    _ _ _ _ _ _ _ c.serve_all-watched.ensures)
