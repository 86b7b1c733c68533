use Rattle.std.proofs.Common.{◌≡◌, ◌-◌, suc, refl, ◌∙◌, arith, Some, None, true}
use Rattle.std.proofs.lemmas.Result.{err_from_is_err_and}
use Rattle.tus_session.proofs.Counting.{uncounted}
use Rattle.gateway_script.specs.Script.{flow, mores, most_calls}
use Rattle.gateway_script.proofs.Reaching.{reach_none, reach_both, no_mores, most_is, more_on, more_fails}
use Rattle.gateway_script.proofs.lines.give_text.Goals as goal

pub loop-left-init : goal.loop-left-init
loop-left-init g c =
    (refl, refl, λ sure before st r prefix at. (r, rw (← most_is) (reach_none (mores most_calls c.args.conn) r), at))

pub returns-in_err-answer-clause-does : goal.returns-in_err-answer-clause-does
returns-in_err-answer-clause-does g c = λ sure before st r prefix at.
    let i = c.loop-left.invariant.2 sure before st r prefix at in
    let step : c.loop-left.left ≡ suc (c.loop-left.left - 1) = omega (arith, c.loop-left-test.true) in
    let p = err_from_is_err_and c.from_residual.result c.from_residual.ensures.1 in
    rw (p.1, p.2) (more_fails _ (mores most_calls c.args.conn) c.args.conn (c.loop-left.left - 1) r i.0
    (rw step at i.1) _ (c.in_err-answer.ensures.does sure before st i.0 prefix i.2))

pub returns-in-Some-clause-does : goal.returns-in-Some-clause-does
returns-in-Some-clause-does g c = λ sure before st r prefix at.
    let i = c.loop-left.invariant.2 sure before st r prefix at in
    let step : c.loop-left.left ≡ suc (c.loop-left.left - 1) = omega (arith, c.loop-left-test.true) in
    more_on _ (mores most_calls c.args.conn) c.args.conn (c.loop-left.left - 1) r i.0 (rw step at i.1) _ (Some _)
    c.in-Some.ensures (c.in_ok-answer.ensures.does sure before st i.0 prefix i.2)

pub loop-left-preserved : goal.loop-left-preserved
loop-left-preserved g c = (
  uncounted (λ fails. absurd (cc)) c.in_ok-answer.ensures.counts ∙ c.loop-left.invariant.0,
  uncounted (λ fails. absurd (cc)) c.in_ok-answer.ensures.io ∙ c.loop-left.invariant.1,
  λ sure before st r prefix at.
      let i = c.loop-left.invariant.2 sure before st r prefix at in
      let step : c.loop-left.left ≡ suc (c.loop-left.left - 1) = omega (arith, c.loop-left-test.true) in
      more_on _ (mores most_calls c.args.conn) c.args.conn (c.loop-left.left - 1) r i.0 (rw step at i.1) _ None
      c.in_default.ensures (c.in_ok-answer.ensures.does sure before st i.0 prefix i.2),
)

pub returns-clause-does : goal.returns-clause-does
returns-clause-does g c = λ sure before st r prefix at.
    let i = c.loop-left.invariant.2 sure before st r prefix at in
    let none : c.loop-left.left ≡ 0 = omega (arith, c.loop-left-test.false) in (
      i.0,
      reach_both (mores most_calls c.args.conn) (mores 0 c.args.conn) (λ x. flow x true) r i.0 i.0 (rw none at i.1)
          (no_mores c.args.conn i.0),
      i.2,
    )
