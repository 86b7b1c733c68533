use Rattle.std.proofs.Common.{ap, sym, refl, subst}
use Rattle.enc_feed.proofs.Feeding.{feed_refused}
use Rattle.enc_feed.proofs.Parts.{if_err, read_begins, read_more, read_refused}
use Rattle.enc_feed.proofs.by_blocks.give_prefixes.Goals as goal

pub returns-in_err-ascii-clause-refused : goal.returns-in_err-ascii-clause-refused
returns-in_err-ascii-clause-refused g c =
    let h = g.D.Decoder.handler c.args.tables.now in
    let calm = g.met.D.Decoder.calm c.args.tables.now in
    let r = g.S.Sink.refuses in
    let why = c.in_err-ascii.field-0.0 in
    let prefix = c.next_prefix-prefix in
    let s = c.args.state.now in
    if_err c.from_residual.result why _ c.from_residual.ensures.1
    (read_refused g.S.Sink.takes r g.met.S.Sink.is_sink h calm c.args.piece.now _ c.args.sink.now c.loop-at.sink
    c.ascii.new.self s s c.loop-at.at why refl c.loop-at.invariant
    (feed_refused g.S.Sink.takes r g.met.S.Sink.is_sink h calm s _ prefix.result c.loop-at.sink c.ascii.new.self why
    (subst (λ z. r c.loop-at.sink z why c.ascii.new.self) (ap (λ run. run.text) (sym prefix.ensures.own))
    c.in_err-ascii.ensures)))

pub loop-at-preserved : goal.loop-at-preserved
loop-at-preserved g c =
    let s = c.args.state.now in
    let prefix = c.next_prefix-prefix in
    read_more g.S.Sink.takes g.S.Sink.refuses g.met.S.Sink.is_sink _ (g.met.D.Decoder.calm c.args.tables.now)
    c.args.piece.now _ c.args.sink.now c.loop-at.sink c.ascii.new.self s s s c.loop-at.at prefix.result refl
    c.loop-at.invariant prefix.ensures.within
    (subst (λ z. g.S.Sink.takes c.loop-at.sink z c.ascii.new.self) (ap (λ run. run.text) (sym prefix.ensures.own))
    c.in_ok-ascii.ensures) (ap (λ run. run.state) (sym prefix.ensures.own))

pub loop-at-init : goal.loop-at-init
loop-at-init g c =
    read_begins g.S.Sink.takes g.S.Sink.refuses g.met.S.Sink.is_sink _ (g.met.D.Decoder.calm c.args.tables.now)
    c.args.piece.now c.args.sink.now c.args.state.now
