use Rattle.tus_session.specs.History.{Came}
use Rattle.gateway_engine.proofs.Sessions.{result_gives, came_refused, shown_after}
use Rattle.gateway_engine.proofs.gateway.GatewayConnections.came.Goals as goal

pub returns-clause-gives : goal.returns-clause-gives
returns-clause-gives g c = λ sure st represents.
    result_gives g.U.Uploads _ sure st (Came c.args.conn c.args.bytes.now) c.came-answer.result c.args.out.now.items
    c.came-answer.new.out.items
    c.failed-self.ensures (came_refused st c.args.conn c.args.bytes.now)
    (c.came-answer.ensures.answer sure st represents.session)

pub returns-clause-crash : goal.returns-clause-crash
returns-clause-crash g c = λ st represents.
    shown_after st (Came c.args.conn c.args.bytes.now) c.came-answer.result
    (c.came-answer.ensures.crash st represents.session)
    (λ none_left. c.came-answer.ensures.unmade st represents.session none_left)
