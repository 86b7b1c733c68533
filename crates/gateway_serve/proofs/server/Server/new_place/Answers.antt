use Rattle.std.proofs.Common.{is_ok}
use Rattle.gateway_serve.specs.Joined.{places_of}
use Rattle.gateway_serve.proofs.Counted.{pushed}
use Rattle.gateway_serve.proofs.server.Server.new_place.Goals as goal

pub returns-clause-open : goal.returns-clause-open
returns-clause-open g c = pushed (places_of c.args.self.now) _ (is_ok c.push.result) c.push.ensures.items
