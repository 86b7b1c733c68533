use Rattle.tus_session.specs.History.{Ended}
use Rattle.gateway_engine.proofs.Sessions.{ends_does, ended_refused, shown_after}
use Rattle.gateway_engine.proofs.gateway.GatewayConnections.ended.Goals as goal

pub returns-clause-does : goal.returns-clause-does
returns-clause-does g c = λ sure st represents.
    ends_does g.U.Uploads _ sure st (Ended c.args.conn) c.ended-answer.result
    c.failed-self.ensures (ended_refused st c.args.conn) (c.ended-answer.ensures.answer sure st represents.session)

pub returns-clause-crash : goal.returns-clause-crash
returns-clause-crash g c = λ st represents.
    shown_after st (Ended c.args.conn) c.ended-answer.result (c.ended-answer.ensures.crash st represents.session)
    (λ none_left. c.ended-answer.ensures.unmade st represents.session none_left)
