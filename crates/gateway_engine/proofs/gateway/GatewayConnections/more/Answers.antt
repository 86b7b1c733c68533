use Rattle.tus_session.specs.History.{More}
use Rattle.gateway_engine.proofs.Sessions.{result_gives, more_refused}
use Rattle.gateway_engine.proofs.gateway.GatewayConnections.more.Goals as goal

pub returns-clause-gives : goal.returns-clause-gives
returns-clause-gives g c = λ sure st represents.
    result_gives g.U.Uploads _ sure st (More c.args.conn) c.more-answer.result c.args.out.now.items
    c.more-answer.new.out.items
    c.failed-self.ensures (more_refused st c.args.conn) (c.more-answer.ensures.answer sure st represents.session)
