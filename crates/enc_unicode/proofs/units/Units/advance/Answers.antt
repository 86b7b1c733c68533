use Rattle.std.proofs.Common.{◌≡◌, ◌∙◌, ap, sym, subst, false, take}
use Rattle.std.specs.Str.{chars}
use Rattle.enc_model.specs.Stream.{DecoderRun, steps}
use Rattle.enc_model.specs.Utf16.{Utf16, utf16}
use Rattle.enc_model.proofs.Calm.{utf16_calm}
use Rattle.enc_feed.proofs.Feeding.{feed_refused}
use Rattle.enc_feed.proofs.Parts.{if_err}
use Rattle.lane_kernels.specs.Orders.{is_big}
use Rattle.enc_unicode.proofs.units.Units.advance.Goals as goal

pub returns-in_err-text-clause-refused : goal.returns-in_err-text-clause-refused
returns-in_err-text-clause-refused g c =
    let h = utf16 (is_big c.args.order) in
    let calm = utf16_calm (is_big c.args.order) in
    let r = g.S.Sink.refuses in
    let s = c.args.self.now in
    let rest = c.args.rest.now in
    let why = c.in_err-text.field-0.0 in
    let read = c.write_text-read.result.0 in
    let text : chars c.from_utf8_unchecked.result.now ≡ (steps h false s (take read rest)).text =
    ap chars c.from_utf8_unchecked.ensures
    ∙ sym (ap (λ (run : DecoderRun Utf16). run.text) (ap (λ z. steps h false z (take read rest)) c.if-is_empty.ensures
    ∙ c.write_text-read.ensures.run)) in
    if_err c.from_residual.result why _ c.from_residual.ensures.1
    (feed_refused g.S.Sink.takes r g.met.S.Sink.is_sink h calm s rest read c.args.sink.now c.text.new.self why
    (subst (λ z. r c.args.sink.now z why c.text.new.self) text c.in_err-text.ensures))

pub returns-in_err-feed-clause-refused : goal.returns-in_err-feed-clause-refused
returns-in_err-feed-clause-refused g c =
    let h = utf16 (is_big c.args.order) in
    let calm = utf16_calm (is_big c.args.order) in
    let why = c.in_err-feed.field-0.0 in
    if_err c.from_residual-in_err-feed.result why _ c.from_residual-in_err-feed.ensures.1
    (feed_refused g.S.Sink.takes g.S.Sink.refuses g.met.S.Sink.is_sink h calm c.args.self.now c.args.rest.now
    c.count-count.result c.args.sink.now c.feed.new.sink why c.in_err-feed.ensures.given)
