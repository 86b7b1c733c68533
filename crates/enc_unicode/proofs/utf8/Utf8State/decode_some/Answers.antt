use Rattle.std.proofs.Common.{false, length, take, subst, arith}
use Rattle.enc_feed.specs.Batches.{BatchTook}
use Rattle.enc_model.specs.Stream.{steps}
use Rattle.enc_model.specs.Utf8.{utf8}
use Rattle.enc_unicode.proofs.Advances.{at_start, text_gathered, text_state}
use Rattle.enc_unicode.proofs.utf8.Utf8State.decode_some.Goals as goal

pub returns-then-not-is_empty-clause-text : goal.returns-then-not-is_empty-clause-text
returns-then-not-is_empty-clause-text c =
    let i = c.self.inside in
    let s = c.args.self.now in
    let text = c.text_before_fault-text in
    let same = c.push_few-few.ensures.unchanged (omega (arith, c.if-few-gt0.false)) in
    subst (λ b. BatchTook b (steps utf8 false s (take (length text.result.now) c.args.rest.now)).text
    c.push_str.new.self)
    same
    (text_gathered s c.args.rest.now text.result.now c.push_few-few.new.batch c.push_str.new.self
    (at_start i.needed i.lower i.upper i.point i.current i.partial s c.self.view_is c.self.invariant.0
    c.if-self-ne0.false)
    text.utf8 text.ensures c.push_str.ensures)

pub returns-then-not-is_empty-clause-state : goal.returns-then-not-is_empty-clause-state
returns-then-not-is_empty-clause-state c =
    let i = c.self.inside in
    text_state c.args.self.now c.args.rest.now c.text_before_fault-text.result.now
    (at_start i.needed i.lower i.upper i.point i.current i.partial c.args.self.now c.self.view_is c.self.invariant.0
    c.if-self-ne0.false) c.text_before_fault-text.utf8 c.text_before_fault-text.ensures
