use Rattle.tus_session.specs.History.{Ended}
use Rattle.gateway_script.proofs.Turns.{surely, falling, done_went, refused_went}
use Rattle.gateway_script.proofs.calls.cut.Goals as goal

pub returns-in-Ok-clause-does : goal.returns-in-Ok-clause-does
returns-in-Ok-clause-does g c = λ sure before st r prefix at.
    done_went _ _ r (Ended c.args.conn) at (λ known. c.in-Ok.ensures.crash r.state (surely at known))
    (c.in-Ok.ensures.does sure r.state at.represents)

pub returns-in-Err-clause-does : goal.returns-in-Err-clause-does
returns-in-Err-clause-does g c = λ sure before st r prefix at.
    refused_went _ _ _ r (Ended c.args.conn) c.in-Err.error c.refused.result at
    (λ known ms among. g.met.C.Connections.durable c.args.core.now r.state ms (surely at known) among)
    (λ known. c.in-Err.ensures.crash r.state (surely at known))
    (c.in-Err.ensures.does sure r.state at.represents) (falling _ _ c.in-Err.error c.in-Err.ensures.falls)
    c.refused.ensures.refuses
