use Rattle.std.proofs.Common.{◌-◌, ◌≡◌, suc, arith}
use Rattle.enc_model.specs.Stream.{points_of}
use Rattle.enc_feed.proofs.Feeding.{end_given, end_refused, end_state, on_ok_err}
use Rattle.enc_model.proofs.Sinks.{given_err}
use Rattle.enc_feed.proofs.by_bytes.+finish_within.Goals as goal

pub returns-in_err-emit : goal.returns-in_err-emit
returns-in_err-emit g t c =
    let why = c.in_err-emit.field-0.0 in
    let read = c.read-answer.ensures in
    let sink = g.met.S.Sink.is_sink in record {
      given = given_err g.S.Sink.takes g.S.Sink.refuses _ _ _ _ why c.from_residual.ensures.1
          (end_refused _ g.S.Sink.takes g.S.Sink.refuses sink c.args.calls (c.args.calls - 1) c.args.state.now
          c.read-answer.result.0 _ _ c.args.sink.now c.emit.new.sink why (omega (arith, c.if-calls-eq0.false))
          c.in_default.not-Finished read.answer read.restored read.state
          (sink.more c.args.sink.now c.emit.new.sink (points_of c.read-answer.result.0) _ why c.in_err-emit.ensures));
      state = on_ok_err _ _ c.from_residual.ensures.0;
    }

pub returns-in_err-reread : goal.returns-in_err-reread
returns-in_err-reread g t c =
    let why = c.in_err-reread.field-0.0 in
    let read = c.read-answer.ensures in
    let again = c.from_residual-in_err-reread in
    let sink = g.met.S.Sink.is_sink in record {
      given = given_err g.S.Sink.takes g.S.Sink.refuses _ _ _ _ why again.ensures.1
          (end_refused _ g.S.Sink.takes g.S.Sink.refuses sink c.args.calls (c.args.calls - 1) c.args.state.now
          c.read-answer.result.0 _ _ c.args.sink.now c.reread.new.sink why (omega (arith, c.if-calls-eq0.false))
          c.in_default.not-Finished read.answer read.restored read.state
          (sink.later c.args.sink.now c.emit.new.sink c.reread.new.sink (points_of c.read-answer.result.0) _ why
          c.in_ok-emit.ensures c.in_err-reread.ensures.given));
      state = on_ok_err _ _ again.ensures.0;
    }

pub returns : goal.returns
returns g t c =
    let h = g.D.Decoder.handler c.args.tables.now in
    let read = c.read-answer.ensures in
    let again = c.in_ok-reread.ensures in
    let step : c.args.calls ≡ suc (c.args.calls - 1) = omega (arith, c.if-calls-eq0.false) in record {
      given = end_given h g.S.Sink.takes g.S.Sink.refuses g.met.S.Sink.is_sink c.args.calls (c.args.calls - 1)
          c.args.state.now c.read-answer.result.0 _ _ c.reread.new.state c.args.sink.now c.emit.new.sink
          c.reread.new.sink c.finish_within.new.sink c.finish_within.result step c.in_default.not-Finished read.answer
          read.restored read.state again.state c.in_ok-emit.ensures again.given c.finish_within.ensures.given;
      state = end_state h c.args.calls (c.args.calls - 1) c.args.state.now c.read-answer.result.0 _ _
          c.reread.new.state c.finish_within.new.state c.finish_within.result step c.in_default.not-Finished
          read.answer read.restored read.state again.state c.finish_within.ensures.state;
    }
