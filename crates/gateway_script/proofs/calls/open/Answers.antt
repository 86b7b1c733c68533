use Rattle.tus_session.specs.History.{Opened}
use Rattle.tus_session.proofs.Limiting.{quiet_limits}
use Rattle.gateway_script.proofs.Turns.{surely, falling, done_went, refused_went}
use Rattle.gateway_script.proofs.calls.open.Goals as goal

pub returns-in-Ok-clause-does : goal.returns-in-Ok-clause-does
returns-in-Ok-clause-does g c = λ sure before st r prefix at.
    done_went _ _ r (Opened c.args.conn) at (λ known. quiet_limits _ _ c.opened.ensures.crash)
    (c.in-Ok.ensures.does sure r.state at.represents)

pub returns-in-Err-clause-does : goal.returns-in-Err-clause-does
returns-in-Err-clause-does g c = λ sure before st r prefix at.
    refused_went _ _ _ r (Opened c.args.conn) c.in-Err.error c.refused.result at
    (λ known ms among. g.met.C.Connections.durable c.args.core.now r.state ms (surely at known) among)
    (λ known. quiet_limits _ _ c.opened.ensures.crash)
    (c.in-Err.ensures.does sure r.state at.represents) (falling _ _ c.in-Err.error c.in-Err.ensures.falls)
    c.refused.ensures.refuses
