use Rattle.std.proofs.Common.{Ok, Err}
use Rattle.std.proofs.lemmas.Result.{err_from_is_err_and}
use Rattle.tus_session.specs.History.{More}
use Rattle.tus_session.proofs.Limiting.{quiet_limits}
use Rattle.gateway_script.proofs.Turns.{surely, falling, written_called, refused_called}
use Rattle.gateway_script.proofs.calls.more.Goals as goal

pub returns-in-Ok-clause-does : goal.returns-in-Ok-clause-does
returns-in-Ok-clause-does g c = λ sure before st r prefix at.
    written_called _ _ _ r (More c.args.conn) at c.in-Ok.answer c.more.new.out.items
    (λ known. quiet_limits _ _ c.more.ensures.crash)
    (rw c.new-out.ensures.items at (c.in-Ok.ensures.gives sure r.state at.represents)) (Ok (tt {0}))
    (rw c.deref.ensures.value at c.in_ok-write_given-in-Ok.ensures.wrote_given)

pub returns-in_err-write_given-in-Ok-clause-does : goal.returns-in_err-write_given-in-Ok-clause-does
returns-in_err-write_given-in-Ok-clause-does g c = λ sure before st r prefix at.
    let p = err_from_is_err_and c.from_residual.result c.from_residual.ensures.1 in
    rw (p.1, p.2) (written_called _ _ _ r (More c.args.conn) at c.in-Ok.answer c.more.new.out.items
    (λ known. quiet_limits _ _ c.more.ensures.crash)
    (rw c.new-out.ensures.items at (c.in-Ok.ensures.gives sure r.state at.represents)) (Err _)
    (rw c.deref.ensures.value at c.in_err-write_given-in-Ok.ensures.wrote_given))

pub returns-clause-does : goal.returns-clause-does
returns-clause-does g c = λ sure before st r prefix at.
    refused_called _ _ _ r (More c.args.conn) at c.in-Err.error c.more.new.out.items
    (λ known. quiet_limits _ _ c.more.ensures.crash)
    (rw c.new-out.ensures.items at (c.in-Err.ensures.gives sure r.state at.represents))
    (λ known ms among. g.met.C.Connections.durable c.args.core.now r.state ms (surely at known) among)
    (falling _ _ c.in-Err.error c.in-Err.ensures.falls) (Ok (tt {0})) c.in_ok-refused-in-Err.ensures.refuses

pub returns-in_err-refused-in-Err-clause-does : goal.returns-in_err-refused-in-Err-clause-does
returns-in_err-refused-in-Err-clause-does g c = λ sure before st r prefix at.
    let p = err_from_is_err_and c.from_residual-in_err-refused-in-Err.result
    c.from_residual-in_err-refused-in-Err.ensures.1 in
    rw (p.1, p.2) (refused_called _ _ _ r (More c.args.conn) at c.in-Err.error c.more.new.out.items
    (λ known. quiet_limits _ _ c.more.ensures.crash)
    (rw c.new-out.ensures.items at (c.in-Err.ensures.gives sure r.state at.represents))
    (λ known ms among. g.met.C.Connections.durable c.args.core.now r.state ms (surely at known) among)
    (falling _ _ c.in-Err.error c.in-Err.ensures.falls) (Err _) c.in_err-refused-in-Err.ensures.refuses)
