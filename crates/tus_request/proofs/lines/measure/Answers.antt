use Rattle.std.proofs.Common.{sym, arith, ◌∙◌}
use Rattle.tus_request.proofs.LineLemmas.{at_start, text_more, empty_more, ends_here, not_whole}
use Rattle.tus_request.proofs.lines.measure.Goals as goal

pub loop-last-init : goal.loop-last-init
loop-last-init c = at_start c.args.bytes.now

pub loop-last-preserved-then-not-is_empty : goal.loop-last-preserved-then-not-is_empty
loop-last-preserved-then-not-is_empty c =
    text_more _ _ _ _ _ _ _ c.loop-last.invariant (sym c.line_feed.ensures ∙ c.in-Some.is)
    c.split_at.ensures.front c.split_at.ensures.back (sym c.is_empty.ensures ∙ c.if-not-is_empty.true)

pub loop-last-preserved : goal.loop-last-preserved
loop-last-preserved c =
    empty_more _ _ _ _ _ _ _ c.loop-last.invariant (sym c.line_feed.ensures ∙ c.in-Some.is)
    c.split_at.ensures.front c.split_at.ensures.back (sym c.is_empty.ensures ∙ c.if-not-is_empty.false) (omega arith)

pub returns-then-texts-gt0-clause-extent : goal.returns-then-texts-gt0-clause-extent
returns-then-texts-gt0-clause-extent c =
    sym (ends_here _ _ _ _ _ _ c.loop-last.invariant (sym c.line_feed.ensures ∙ c.in-Some.is) c.split_at.ensures.front
    (sym c.is_empty.ensures ∙ c.if-not-is_empty.false) (omega arith))

pub returns-clause-extent : goal.returns-clause-extent
returns-clause-extent c =
    sym (not_whole _ _ _ _ c.loop-last.invariant (sym c.line_feed.ensures ∙ c.in_default.is))
