use Rattle.std.proofs.Common.{false, ℕ, Result, Ok}
use Rattle.enc_model.specs.Decode.{decoding_start}
use Rattle.enc_model.specs.Indexes.{tables}
use Rattle.enc_model.proofs.Sinks.{given_err}
use Rattle.enc_stream.specs.AnyDecoder.{decoding_of}
use Rattle.enc_stream.specs.Sniff.{held_bytes}
use Rattle.enc_stream.proofs.Given.{given_both, given_refused, state_both}
use Rattle.enc_stream.proofs.stage.begin_plain.Goals as goal

pub returns-in_err-decoder-clause-given : goal.returns-in_err-decoder-clause-given
returns-in_err-decoder-clause-given g c =
    given_refused g.S.Sink.takes g.S.Sink.refuses g.met.S.Sink.is_sink (tables c.args.set.now) false
    (decoding_start c.args.from) c.bytes_of.result.now (held_bytes c.args.held) c.args.piece.now
    c.args.sink.now c.begin.new.sink c.in_err-decoder.field-0.0 c.from_residual.result c.from_residual.ensures.1
    c.bytes_of.ensures c.in_err-decoder.ensures.given

pub returns-in_err-feed-clause-given : goal.returns-in_err-feed-clause-given
returns-in_err-feed-clause-given g c =
    let r = c.from_residual-in_err-feed in
    given_both g.S.Sink.takes g.S.Sink.refuses g.met.S.Sink.is_sink (tables c.args.set.now) false
    (decoding_start c.args.from) c.bytes_of.result.now (held_bytes c.args.held) c.args.piece.now
    (decoding_of c.in_ok-decoder.decoder) c.args.sink.now c.begin.new.sink c.feed.new.sink r.result c.bytes_of.ensures
    c.in_ok-decoder.ensures.given c.in_ok-decoder.ensures.state
    (given_err g.S.Sink.takes g.S.Sink.refuses c.begin.new.sink c.feed.new.sink _ r.result c.in_err-feed.field-0.0
    r.ensures.1 c.in_err-feed.ensures.given)

pub returns-clause-given : goal.returns-clause-given
returns-clause-given g c =
    let taken : Result ℕ g.row.S-Refusal.Denot = Ok 0 in
    given_both g.S.Sink.takes g.S.Sink.refuses g.met.S.Sink.is_sink (tables c.args.set.now) false
    (decoding_start c.args.from) c.bytes_of.result.now (held_bytes c.args.held) c.args.piece.now
    (decoding_of c.in_ok-decoder.decoder) c.args.sink.now c.begin.new.sink c.feed.new.sink taken c.bytes_of.ensures
    c.in_ok-decoder.ensures.given c.in_ok-decoder.ensures.state
    c.in_ok-feed.ensures.given

pub returns-clause-state : goal.returns-clause-state
returns-clause-state g c =
    state_both (tables c.args.set.now) (decoding_start c.args.from) (decoding_of c.in_ok-decoder.decoder)
    (decoding_of c.feed.new.self) c.bytes_of.result.now (held_bytes c.args.held) c.args.piece.now
    c.bytes_of.ensures c.in_ok-decoder.ensures.state c.in_ok-feed.ensures.state
