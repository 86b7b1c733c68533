use Rattle.std.proofs.Common.{refl}
use Rattle.lane_kernels.specs.Orders.{is_big}
use Rattle.enc_model.proofs.Calm.{utf16_calm}
use Rattle.enc_model.proofs.Sinks.{given_err}
use Rattle.enc_feed.proofs.Parts.{read_begins, read_more, read_refused}
use Rattle.enc_unicode.proofs.units.Units.feed_runs.Goals as goal

pub loop-at-init : goal.loop-at-init
loop-at-init g c =
    read_begins g.S.Sink.takes g.S.Sink.refuses g.met.S.Sink.is_sink _ (utf16_calm (is_big c.args.order))
    c.args.piece.now c.args.sink.now
    c.args.self.now

pub returns-in_err-at-clause-given : goal.returns-in_err-at-clause-given
returns-in_err-at-clause-given g c =
    given_err g.S.Sink.takes g.S.Sink.refuses c.args.sink.now c.advance.new.sink _ c.from_residual.result
    c.in_err-at.field-0.0 c.from_residual.ensures.1
    (read_refused g.S.Sink.takes g.S.Sink.refuses g.met.S.Sink.is_sink _ (utf16_calm (is_big c.args.order))
    c.args.piece.now _ c.args.sink.now
    c.loop-at.sink c.advance.new.sink c.args.self.now c.loop-at.self c.loop-at.at c.in_err-at.field-0.0 refl
    c.loop-at.invariant c.in_err-at.ensures.refused)

pub loop-at-preserved : goal.loop-at-preserved
loop-at-preserved g c =
    let e = c.in_ok-at.ensures in
    read_more g.S.Sink.takes g.S.Sink.refuses g.met.S.Sink.is_sink _ (utf16_calm (is_big c.args.order))
    c.args.piece.now _ c.args.sink.now
    c.loop-at.sink c.advance.new.sink c.args.self.now c.loop-at.self c.advance.new.self c.loop-at.at
    c.in_ok-at.field-0 refl c.loop-at.invariant e.some.1 e.taken e.state
