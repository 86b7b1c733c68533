use Rattle.gateway_serve.proofs.Known.{known}
use Rattle.gateway_serve.proofs.laws.known_talks.Goals as goal

pub returns : goal.returns
returns c = known
