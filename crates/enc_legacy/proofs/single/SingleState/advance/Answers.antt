use Rattle.std.proofs.Common.{subst}
use Rattle.enc_model.specs.Indexes.{tables}
use Rattle.enc_feed.proofs.Feeding.{feed_refused}
use Rattle.enc_feed.proofs.Parts.{if_err}
use Rattle.enc_legacy.specs.Singles.{single_in}
use Rattle.enc_legacy.specs.SinglesCalm.{single_in_calm}
use Rattle.enc_legacy.proofs.SinglesSteps.{own_chars, singles_gathered}
use Rattle.enc_legacy.proofs.single.SingleState.advance.Goals as goal

pub push_bytes-requires-clause-own : goal.push_bytes-requires-clause-own
push_bytes-requires-clause-own g c =
    own_chars ((tables c.args.indexes.now).single c.args.self.now) c.args.chars.now c.requires.chars

pub returns-in_err-text-clause-refused : goal.returns-in_err-text-clause-refused
returns-in_err-text-clause-refused g c =
    let t = tables c.args.indexes.now in
    let r = g.S.Sink.refuses in
    let given = singles_gathered t c.args.self.now c.args.chars.now c.args.rest.now c.clear.new.self
    c.push_bytes.new.self c.min-end.result c.requires.chars c.type_inv.rest c.clear.ensures c.push_bytes.ensures in
    if_err c.from_residual.result _ _ c.from_residual.ensures.1
    (feed_refused g.S.Sink.takes r g.met.S.Sink.is_sink (single_in t) (single_in_calm t) c.args.self.now
    c.args.rest.now c.min-end.result c.args.sink.now c.text.new.self _
    (subst (λ z. r c.args.sink.now z c.in_err-text.field-0.0 c.text.new.self) given
    (rw c.as_str.ensures at c.in_err-text.ensures)))

pub returns-clause-taken : goal.returns-clause-taken
returns-clause-taken g c =
    subst (λ z. g.S.Sink.takes c.args.sink.now z c.text.new.self)
    (singles_gathered (tables c.args.indexes.now) c.args.self.now c.args.chars.now c.args.rest.now c.clear.new.self
    c.push_bytes.new.self c.min-end.result c.requires.chars c.type_inv.rest c.clear.ensures c.push_bytes.ensures)
    (rw c.as_str.ensures at c.in_ok-text.ensures)
