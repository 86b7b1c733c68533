use Rattle.std.proofs.Common.{◌<◌, length, take, false, subst, rules}
use Rattle.enc_model.specs.Stream.{steps}
use Rattle.enc_model.specs.Utf8.{utf8}
use Rattle.enc_model.proofs.Calm.{utf8_calm}
use Rattle.enc_feed.proofs.Feeding.{feed_refused}
use Rattle.enc_feed.proofs.Gathered.{from_nothing}
use Rattle.enc_feed.proofs.Parts.{if_err}
use Rattle.enc_unicode.proofs.Advances.{text_taken, text_refused, text_state}
use Rattle.enc_unicode.proofs.utf8.Utf8State.advance.Goals as goal

pub returns-in_err-text-clause-refused : goal.returns-in_err-text-clause-refused
returns-in_err-text-clause-refused g c =
    let text = c.args.text.now in
    let why = c.in_err-text.field-0.0 in
    let some : 0 < length text = search rules in
    if_err c.from_residual.result why _ c.from_residual.ensures.1
    (feed_refused g.S.Sink.takes g.S.Sink.refuses g.met.S.Sink.is_sink utf8 utf8_calm c.args.self.now c.args.rest.now
    (length text) c.args.sink.now c.text.new.self why
    (text_refused g.S.Sink.refuses c.args.self.now c.args.rest.now text c.args.sink.now c.text.new.self why
    (c.requires.start some) c.utf8.text c.requires.prefix c.in_err-text.ensures))

pub returns-then-not-is_empty-clause-taken : goal.returns-then-not-is_empty-clause-taken
returns-then-not-is_empty-clause-taken g c =
    let some : 0 < length c.args.text.now = search rules in
    text_taken g.S.Sink.takes g.S.Sink.refuses g.met.S.Sink.is_sink c.args.self.now c.args.rest.now c.args.text.now
    c.args.sink.now c.text.new.self
    (c.requires.start some) c.utf8.text c.requires.prefix c.in_ok-text.ensures

pub returns-then-not-is_empty-clause-state : goal.returns-then-not-is_empty-clause-state
returns-then-not-is_empty-clause-state g c =
    let some : 0 < length c.args.text.now = search rules in
    text_state c.args.self.now c.args.rest.now c.args.text.now (c.requires.start some) c.utf8.text c.requires.prefix

pub returns-in_err-text-2-clause-refused : goal.returns-in_err-text-2-clause-refused
returns-in_err-text-2-clause-refused g c =
    let r = g.S.Sink.refuses in
    let why = c.in_err-text-2.field-0.0 in
    let count = c.count-count.result in
    let given = from_nothing c.clear.new.self (steps utf8 false c.args.self.now (take count c.args.rest.now)).text
    c.decode_block.new.batch c.clear.ensures c.decode_block.ensures.text in
    if_err c.from_residual-in_err-text-2.result why _ c.from_residual-in_err-text-2.ensures.1
    (feed_refused g.S.Sink.takes r g.met.S.Sink.is_sink utf8 utf8_calm c.args.self.now c.args.rest.now count
    c.args.sink.now c.text-2.new.self why
    (subst (λ z. r c.args.sink.now z why c.text-2.new.self) given (rw c.as_str.ensures at c.in_err-text-2.ensures)))

pub returns-clause-taken : goal.returns-clause-taken
returns-clause-taken g c =
    let count = c.count-count.result in
    let given = from_nothing c.clear.new.self (steps utf8 false c.args.self.now (take count c.args.rest.now)).text
    c.decode_block.new.batch c.clear.ensures c.decode_block.ensures.text in
    subst (λ z. g.S.Sink.takes c.args.sink.now z c.text-2.new.self) given
    (rw c.as_str.ensures at c.in_ok-text-2.ensures)
