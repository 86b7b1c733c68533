use Rattle.std.proofs.Common.{ap, sym, ◌+◌, Ok, Err, Result, ℕ}
use Rattle.enc_model.proofs.Steps.{steps_none}
use Rattle.enc_feed.proofs.Feeding.{feed_begins, feed_byte, feed_refused, state_byte}
use Rattle.enc_model.proofs.Sinks.{given_err}
use Rattle.enc_feed.proofs.by_bytes.feed_each.Goals as goal

pub loop-byte-init : goal.loop-byte-init
loop-byte-init g c =
    let h = g.D.Decoder.handler c.args.tables.now in (
      feed_begins g.S.Sink.takes g.S.Sink.refuses g.met.S.Sink.is_sink h (g.met.D.Decoder.calm c.args.tables.now)
          c.args.state.now c.args.sink.now,
      ap (λ run. run.state) (sym (steps_none h c.args.state.now)),
    )

pub returns-in_err-step-clause-given : goal.returns-in_err-step-clause-given
returns-in_err-step-clause-given g c =
    let h = g.D.Decoder.handler c.args.tables.now in
    let calm = g.met.D.Decoder.calm c.args.tables.now in
    let t = g.S.Sink.takes in
    let r = g.S.Sink.refuses in
    let is = g.met.S.Sink.is_sink in
    let refused : Result ℕ g.row.S-Refusal.Denot = Err c.in_err-step.field-0.0 in
    given_err t r _ _ _ _ c.in_err-step.field-0.0 c.from_residual.ensures.1
    (feed_refused t r is h calm c.args.state.now c.args.piece.now (c.loop-byte.byte-index + 1) c.args.sink.now
    c.step.new.sink c.in_err-step.field-0.0
    (feed_byte t r is h calm c.args.state.now c.loop-byte.state c.args.piece.now c.loop-byte.byte-index
    c.args.sink.now c.loop-byte.sink c.step.new.sink
    refused c.loop-byte-test.true c.loop-byte.invariant.1 c.loop-byte.invariant.0 c.in_err-step.ensures.given))

pub loop-byte-preserved : goal.loop-byte-preserved
loop-byte-preserved g c =
    let h = g.D.Decoder.handler c.args.tables.now in
    let calm = g.met.D.Decoder.calm c.args.tables.now in
    let t = g.S.Sink.takes in
    let r = g.S.Sink.refuses in
    let is = g.met.S.Sink.is_sink in
    let taken : Result ℕ g.row.S-Refusal.Denot = Ok 0 in (
      feed_byte t r is h calm c.args.state.now c.loop-byte.state c.args.piece.now c.loop-byte.byte-index c.args.sink.now
          c.loop-byte.sink c.step.new.sink
          taken c.loop-byte-test.true c.loop-byte.invariant.1 c.loop-byte.invariant.0 c.in_ok-step.ensures.given,
      state_byte h calm c.args.state.now c.loop-byte.state c.step.new.state c.args.piece.now c.loop-byte.byte-index
          c.loop-byte-test.true
          c.loop-byte.invariant.1 c.in_ok-step.ensures.state,
    )
