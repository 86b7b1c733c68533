use Rattle.std.proofs.Common.{subst, sym}
use Rattle.enc_model.specs.Sink.{Given}
use Rattle.enc_model.proofs.Steps.{steps_end}
use Rattle.enc_feed.proofs.Feeding.{end_over}
use Rattle.enc_feed.proofs.by_bytes.finish.Goals as goal

pub returns-clause-given : goal.returns-clause-given
returns-clause-given g c =
    let h = g.D.Decoder.handler c.args.tables.now in
    subst (λ run. Given g.S.Sink.takes g.S.Sink.refuses c.args.sink.now run.text c.finish_within.new.sink
    c.finish_within.result)
    (sym (steps_end h (g.met.D.Decoder.calm c.args.tables.now) c.args.state.now)) c.finish_within.ensures.given

pub returns-clause-state : goal.returns-clause-state
returns-clause-state g c =
    end_over (g.D.Decoder.handler c.args.tables.now) (g.met.D.Decoder.calm c.args.tables.now) c.args.state.now
    c.finish_within.new.state c.finish_within.result
    c.finish_within.ensures.state
