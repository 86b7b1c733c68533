use Rattle.enc_feed.proofs.Feeding.{step_refused, step_rest, step_over}
use Rattle.enc_model.proofs.Sinks.{given_err}
use Rattle.enc_model.specs.Stream.{restored_bytes}
use Rattle.enc_feed.proofs.by_bytes.step.Goals as goal

pub returns-in_err-emit-clause-given : goal.returns-in_err-emit-clause-given
returns-in_err-emit-clause-given g c =
    let h = g.D.Decoder.handler c.args.tables.now in
    given_err g.S.Sink.takes g.S.Sink.refuses _ _ _ _ c.in_err-emit.field-0.0 c.from_residual.ensures.1
    (step_refused g.S.Sink.takes g.S.Sink.refuses g.met.S.Sink.is_sink h (g.met.D.Decoder.calm c.args.tables.now)
    c.args.state.now c.args.byte c.read-answer.result.0 c.args.sink.now c.emit.new.sink c.in_err-emit.field-0.0
    c.read-answer.ensures.answer c.in_err-emit.ensures)

pub returns-clause-given : goal.returns-clause-given
returns-clause-given g c =
    let h = g.D.Decoder.handler c.args.tables.now in
    step_rest g.S.Sink.takes g.S.Sink.refuses g.met.S.Sink.is_sink h (g.met.D.Decoder.calm c.args.tables.now)
    c.args.state.now c.args.byte c.read-answer.result.0 (restored_bytes c.read-answer.result.1) c.read-answer.new.self
    c.args.sink.now c.emit.new.sink c.reread.new.sink c.reread.result
    c.read-answer.ensures.answer c.read-answer.ensures.restored c.read-answer.ensures.state c.in_ok-emit.ensures
    c.reread.ensures.given

pub returns-clause-state : goal.returns-clause-state
returns-clause-state g c =
    let h = g.D.Decoder.handler c.args.tables.now in
    step_over h (g.met.D.Decoder.calm c.args.tables.now)
    c.args.state.now c.args.byte (restored_bytes c.read-answer.result.1) c.read-answer.new.self c.reread.new.state
    c.reread.result
    c.read-answer.ensures.restored c.read-answer.ensures.state c.reread.ensures.state
