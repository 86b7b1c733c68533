use Rattle.std.proofs.Common.{◌<◌, refl, length, rules}
use Rattle.enc_model.specs.Utf8.{utf8}
use Rattle.enc_model.proofs.Calm.{utf8_calm}
use Rattle.enc_feed.proofs.Feeding.{feed_refused}
use Rattle.enc_feed.proofs.Parts.{if_err, read_begins, read_more, read_refused}
use Rattle.enc_unicode.proofs.Advances.{text_taken, text_refused, text_state, text_within_rest}
use Rattle.enc_unicode.proofs.utf8.Utf8State.give_texts.Goals as goal

pub by_windows-init : goal.by_windows-init
by_windows-init g c =
    read_begins g.S.Sink.takes g.S.Sink.refuses g.met.S.Sink.is_sink utf8 utf8_calm c.args.bytes.now c.args.sink.now
    c.args.self.now

pub returns-in_err-text-clause-refused : goal.returns-in_err-text-clause-refused
returns-in_err-text-clause-refused g c =
    let s = c.args.self.now in
    let text = c.text_at_start-found.result.now in
    let why = c.in_err-text.field-0.0 in
    let some : 0 < length text = search rules in
    let found = c.text_at_start-found.ensures in
    if_err c.from_residual.result why _ c.from_residual.ensures.1
    (read_refused g.S.Sink.takes g.S.Sink.refuses g.met.S.Sink.is_sink utf8 utf8_calm c.args.bytes.now _
    c.args.sink.now c.by_windows.sink c.text.new.self s s c.by_windows.at why refl c.by_windows.invariant
    (feed_refused g.S.Sink.takes g.S.Sink.refuses g.met.S.Sink.is_sink utf8 utf8_calm s _ (length text)
    c.by_windows.sink c.text.new.self why
    (text_refused g.S.Sink.refuses s _ text c.by_windows.sink c.text.new.self why (found.start some)
    c.text_at_start-found.utf8 found.prefix c.in_err-text.ensures)))

pub by_windows-preserved : goal.by_windows-preserved
by_windows-preserved g c =
    let s = c.args.self.now in
    let text = c.text_at_start-found.result.now in
    let some : 0 < length text = search rules in
    let start = c.text_at_start-found.ensures.start some in
    let prefix = c.text_at_start-found.ensures.prefix in
    let is_text = c.text_at_start-found.utf8 in
    read_more g.S.Sink.takes g.S.Sink.refuses g.met.S.Sink.is_sink utf8 utf8_calm c.args.bytes.now _ c.args.sink.now
    c.by_windows.sink c.text.new.self s s s c.by_windows.at (length text) refl c.by_windows.invariant
    (text_within_rest _ text prefix)
    (text_taken g.S.Sink.takes g.S.Sink.refuses g.met.S.Sink.is_sink s _ text c.by_windows.sink c.text.new.self start
    is_text prefix c.in_ok-text.ensures) (text_state s _ text start is_text prefix)
