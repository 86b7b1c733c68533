use Rattle.std.proofs.Common.{refl}
use Rattle.enc_model.proofs.Calm.{utf8_calm}
use Rattle.enc_feed.proofs.Parts.{rest_given, rest_state}
use Rattle.enc_unicode.proofs.utf8.Utf8State.feed.Goals as goal

pub returns-clause-given : goal.returns-clause-given
returns-clause-given g c =
    let e = c.in_ok-prefix.ensures in
    rest_given _ utf8_calm g.S.Sink.takes g.S.Sink.refuses g.met.S.Sink.is_sink c.args.self.now c.args.self.now
    c.args.piece.now _ c.in_ok-prefix.prefix c.args.sink.now c.give_texts.new.sink c.feed_parts.new.sink
    c.feed_parts.result refl e.state e.taken c.feed_parts.ensures.given

pub returns-clause-state : goal.returns-clause-state
returns-clause-state g c =
    rest_state _ utf8_calm c.args.self.now c.args.self.now c.feed_parts.new.self c.args.piece.now _
    c.in_ok-prefix.prefix c.feed_parts.result refl c.in_ok-prefix.ensures.state c.feed_parts.ensures.state
