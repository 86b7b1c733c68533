use Rattle.std.proofs.Common.{true, [], append-nil}
use Rattle.enc_model.specs.Decode.{decoding_start}
use Rattle.enc_model.specs.Indexes.{tables}
use Rattle.enc_stream.specs.AnyDecoder.{decoding_of}
use Rattle.enc_stream.specs.Sniff.{held_bytes}
use Rattle.enc_stream.proofs.Fed.{fed_end_held}
use Rattle.enc_stream.proofs.Given.{given_both, given_refused}
use Rattle.enc_stream.proofs.stage.conclude_held.Goals as goal

pub returns-in_err-decoder : goal.returns-in_err-decoder
returns-in_err-decoder g c =
    rw (fed_end_held (tables c.args.set.now) c.args.from c.args.held, ← append-nil (held_bytes c.args.held))
    (given_refused g.S.Sink.takes g.S.Sink.refuses g.met.S.Sink.is_sink (tables c.args.set.now) true
    (decoding_start c.args.from) c.bytes_of.result.now (held_bytes c.args.held) []
    c.args.sink.now c.begin.new.sink c.in_err-decoder.field-0.0 c.from_residual.result c.from_residual.ensures.1
    c.bytes_of.ensures c.in_err-decoder.ensures.given)

pub returns : goal.returns
returns g c =
    rw (fed_end_held (tables c.args.set.now) c.args.from c.args.held, ← append-nil (held_bytes c.args.held))
    (given_both g.S.Sink.takes g.S.Sink.refuses g.met.S.Sink.is_sink (tables c.args.set.now) true
    (decoding_start c.args.from) c.bytes_of.result.now (held_bytes c.args.held) []
    (decoding_of c.in_ok-decoder.decoder) c.args.sink.now c.begin.new.sink c.finish.new.sink c.finish.result
    c.bytes_of.ensures c.in_ok-decoder.ensures.given c.in_ok-decoder.ensures.state
    c.finish.ensures)
