use Rattle.tus_session.specs.History.{Opened}
use Rattle.gateway_engine.proofs.Sessions.{opens_does, opened_refused}
use Rattle.gateway_engine.proofs.gateway.GatewayConnections.opened.Goals as goal

pub returns-clause-does : goal.returns-clause-does
returns-clause-does g c = λ sure st represents.
    opens_does g.U.Uploads _ sure st (Opened c.args.conn) c.opened.result represents.up
    (opened_refused st c.args.conn) (c.opened.ensures.answer sure _ st represents.session)
