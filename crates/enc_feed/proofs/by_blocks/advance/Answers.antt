use Rattle.std.proofs.Common.{ap, sym, subst, take, false}
use Rattle.enc_model.specs.Stream.{steps}
use Rattle.enc_feed.proofs.Feeding.{feed_refused}
use Rattle.enc_feed.proofs.Gathered.{from_nothing}
use Rattle.enc_feed.proofs.Parts.{if_err}
use Rattle.enc_feed.proofs.by_blocks.advance.Goals as goal

pub returns-in_err-ascii-clause-refused : goal.returns-in_err-ascii-clause-refused
returns-in_err-ascii-clause-refused g c =
    let h = g.D.Decoder.handler c.args.tables.now in
    let r = g.S.Sink.refuses in
    let why = c.in_err-ascii.field-0.0 in
    if_err c.from_residual.result why _ c.from_residual.ensures.1
    (feed_refused g.S.Sink.takes r g.met.S.Sink.is_sink h (g.met.D.Decoder.calm c.args.tables.now) c.args.state.now
    c.args.rest.now c.next_prefix-prefix.result c.args.sink.now c.ascii.new.self why
    (subst (λ z. r c.args.sink.now z why c.ascii.new.self) (ap (λ run. run.text) (sym c.next_prefix-prefix.ensures.own))
    c.in_err-ascii.ensures))

pub returns-in_err-text-clause-refused : goal.returns-in_err-text-clause-refused
returns-in_err-text-clause-refused g c =
    let h = g.D.Decoder.handler c.args.tables.now in
    let r = g.S.Sink.refuses in
    let why = c.in_err-text.field-0.0 in
    let end = c.min-end.result in
    let given = from_nothing c.clear.new.self (steps h false c.args.state.now (take end c.args.rest.now)).text
    c.decode_block.new.batch c.clear.ensures c.decode_block.ensures.text in
    if_err c.from_residual-in_err-text.result why _ c.from_residual-in_err-text.ensures.1
    (feed_refused g.S.Sink.takes r g.met.S.Sink.is_sink h (g.met.D.Decoder.calm c.args.tables.now) c.args.state.now
    c.args.rest.now end c.args.sink.now c.text.new.self why
    (subst (λ z. r c.args.sink.now z why c.text.new.self) given (rw c.as_str.ensures at c.in_err-text.ensures)))

pub returns-clause-taken : goal.returns-clause-taken
returns-clause-taken g c =
    let h = g.D.Decoder.handler c.args.tables.now in
    let end = c.min-end.result in
    let given = from_nothing c.clear.new.self (steps h false c.args.state.now (take end c.args.rest.now)).text
    c.decode_block.new.batch c.clear.ensures c.decode_block.ensures.text in
    subst (λ z. g.S.Sink.takes c.args.sink.now z c.text.new.self) given (rw c.as_str.ensures at c.in_ok-text.ensures)
