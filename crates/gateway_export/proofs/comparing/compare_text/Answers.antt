use Rattle.std.proofs.Common.{◌∙◌, arith, drop, refl, take}
use Rattle.gateway_export.proofs.Later.{more_on}
use Rattle.upload_rules.specs.Reading.{text_at}
use Rattle.upload_rules.specs.Store.{upload_of}
use Rattle.gateway_outside.specs.Counted.{unfailed}
use Rattle.gateway_texts.specs.Pieces.{quiet_both}
use Rattle.gateway_export.proofs.Compared.{like_other, like_same, same_more, same_read, whole_differs}
use Rattle.gateway_export.proofs.Compared.{whole_same}
use Rattle.gateway_export.proofs.comparing.compare_text.Goals as goal

pub returns-in_err-compare_piece-clause-reads : goal.returns-in_err-compare_piece-clause-reads
returns-in_err-compare_piece-clause-reads g c = more_on c.loop-at.invariant.8 c.in_err-compare_piece.ensures.reads

pub returns-in-Other-clause-same : goal.returns-in-Other-clause-same
returns-in-Other-clause-same g c sure w represents files bytes holds is long =
    let was = c.loop-at.invariant in
    let le = was.0 in
    let len = c.text_len.ensures sure w represents in
    let text = text_at w.store (upload_of w.store c.args.number) in
    whole_differs sure bytes text c.loop-at.at c.min-count.result (like_other sure
    (take c.min-count.result (drop c.loop-at.at bytes)) (take c.min-count.result (drop c.loop-at.at text))
    c.in_ok-compare_piece.field-0 c.in-Other.is
    (c.in_ok-compare_piece.ensures.same sure w (was.3 sure w represents) files bytes (was.4 files holds) is
    (omega (arith, le, len, c.if-len-text_len.false, c.loop-at-test.true, c.min-count.ensures))))

pub returns-in-Other-clause-reads : goal.returns-in-Other-clause-reads
returns-in-Other-clause-reads g c = more_on c.loop-at.invariant.8 c.in_ok-compare_piece.ensures.reads

pub returns-in-Unread-clause-reads : goal.returns-in-Unread-clause-reads
returns-in-Unread-clause-reads g c = more_on c.loop-at.invariant.8 c.in_ok-compare_piece.ensures.reads

pub returns-in_err-compare_piece-clause-names : goal.returns-in_err-compare_piece-clause-names
returns-in_err-compare_piece-clause-names g c = c.in_err-compare_piece.ensures.names ∙ c.loop-at.invariant.7

pub returns-in-Other-clause-names : goal.returns-in-Other-clause-names
returns-in-Other-clause-names g c = c.in_ok-compare_piece.ensures.names ∙ c.loop-at.invariant.7

pub returns-in-Unread-clause-names : goal.returns-in-Unread-clause-names
returns-in-Unread-clause-names g c = c.in_ok-compare_piece.ensures.names ∙ c.loop-at.invariant.7

pub loop-at-preserved : goal.loop-at-preserved
loop-at-preserved g c =
    let was = c.loop-at.invariant in
    let one = c.in_ok-compare_piece.ensures in
    let le = was.0 in (
      omega (arith, le, c.loop-at-test.true, c.min-count.ensures),
      unfailed _ _ _ (λ f. absurd (cc)) one.counts ∙ was.1,
      quiet_both _ _ _ _ _ _ was.2 one.crash,
      λ sure w represents. one.represents sure w (was.3 sure w represents),
      λ files holds. one.preserves files (was.4 files holds),
      λ name lasts. one.still name (was.5 name lasts),
      λ sure w represents files bytes holds is long.
          let len = c.text_len.ensures sure w represents in
          same_more sure bytes (text_at w.store (upload_of w.store c.args.number)) c.loop-at.at c.min-count.result
          (was.6 sure w represents files bytes holds is long)
          ((like_same sure (take c.min-count.result (drop c.loop-at.at bytes))
          (take c.min-count.result (drop c.loop-at.at (text_at w.store (upload_of w.store c.args.number))))
          c.in_ok-compare_piece.field-0 c.in-Same.is
          (one.same sure w (was.3 sure w represents) files bytes (was.4 files holds) is
          (omega (arith, le, len, c.if-len-text_len.false, c.loop-at-test.true, c.min-count.ensures)))).yes refl),
      one.names ∙ was.7,
      more_on was.8 one.reads,
      unfailed _ _ _ (λ e. same_read c.in_ok-compare_piece.field-0 c.in-Same.is e) one.unread ∙ was.9,
      one.refusals ∙ was.10,
    )

pub returns-clause-same : goal.returns-clause-same
returns-clause-same g c sure w represents files bytes holds is long =
    let len = c.text_len.ensures sure w represents in
    whole_same sure bytes (text_at w.store (upload_of w.store c.args.number)) c.loop-at.at
    (omega (arith, long, c.loop-at-test.false)) (omega (arith, len, c.if-len-text_len.false, c.loop-at-test.false))
    (c.loop-at.invariant.6 sure w represents files bytes holds is long)

pub returns-clause-names : goal.returns-clause-names
returns-clause-names g c = c.loop-at.invariant.7
