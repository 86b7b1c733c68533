use Rattle.std.proofs.Common.{◌≡◌, true}
use Rattle.gateway_script.proofs.Turns.{surely, falling}
use Rattle.gateway_script.proofs.Ending.{cut_done, cut_skipped, cut_refused}
use Rattle.gateway_script.proofs.runs.cut_open.Goals as goal

pub returns-in-Ok-clause-does : goal.returns-in-Ok-clause-does
returns-in-Ok-clause-does g c = λ sure before st r prefix k at.
    cut_done _ _ k c.args.conn r at (λ known. c.in-Ok.ensures.crash r.state (surely at known))
    (c.in-Ok.ensures.does sure r.state at.represents)

pub returns-in-Closed-clause-does : goal.returns-in-Closed-clause-does
returns-in-Closed-clause-does g c = λ sure before st r prefix k at.
    cut_skipped _ _ k c.args.conn r at
    (rw c.in-Closed.is at (λ (known : sure ≡ true). c.in-Err.ensures.crash r.state (surely at known)))
    (rw c.in-Closed.is at (c.in-Err.ensures.does sure r.state at.represents))

pub returns-in_default-clause-does : goal.returns-in_default-clause-does
returns-in_default-clause-does g c = λ sure before st r prefix k at.
    cut_refused _ _ _ k c.args.conn r c.in-Err.error c.refused.result at
    (λ known ms among. g.met.C.Connections.durable c.args.core.now r.state ms (surely at known) among)
    (λ known. c.in-Err.ensures.crash r.state (surely at known)) (c.in-Err.ensures.does sure r.state at.represents)
    (falling _ _ c.in-Err.error c.in-Err.ensures.falls) c.in_default.not-Closed c.refused.ensures.refuses
