use Rattle.std.proofs.Common.{subst}
use Rattle.enc_model.specs.Indexes.{tables}
use Rattle.enc_model.specs.Sink.{Given}
use Rattle.enc_encode.specs.Sinks.{SinkTook, SinkRefused}
use Rattle.enc_encode.proofs.Given.{given_sink}
use Rattle.enc_encode.proofs.sink.EncoderSinkSink.ascii.Goals as goal

pub returns : goal.returns
returns c =
    let i = c.self.inside in
    let e = c.put_ascii.ensures in
    let t = tables i.set.now in
    let new = c.put_ascii.new in
    subst (λ z. Given SinkTook SinkRefused z c.args.run.now
    (record { encoder = new.self; set = i.set.now; out = new.out }) c.put_ascii.result) c.self.view_is
    (given_sink i.set.now i.encoder new.self i.out new.out c.args.run.now c.put_ascii.result (e.given t) e.settings
    (e.errors t) e.capacity)
