use Rattle.std.proofs.Common.{◌≡◌, ◌+◌, ◌-◌, ℕ, suc, arith, Err, subst, ◌∙◌}
use Rattle.std.proofs.lemmas.Result.{err_from_is_err_and}
use Rattle.tus_session.proofs.Counting.{uncounted}
use Rattle.gateway_script.specs.Script.{cut_from}
use Rattle.gateway_script.specs.Runs.{Reaches}
use Rattle.gateway_script.proofs.Reaching.{reach_both, went_after}
use Rattle.gateway_script.proofs.Ending.{cut_none, cut_fails}
use Rattle.gateway_script.proofs.runs.cut_all.Goals as goal
use Rattle.tus_session.specs.declared.session.TheConstants.{MOST_OPEN}

pub returns-in_err-cut_open-clause-does : goal.returns-in_err-cut_open-clause-does
returns-in_err-cut_open-clause-does g c = λ sure before st r prefix at.
    let i = c.loop-left.invariant.3 sure before st r prefix at in
    let k : ℕ = c.loop-left.left - 1 in
    let n : ℕ = MOST_OPEN - c.loop-left.left in
    let step : c.loop-left.left ≡ suc k = omega (arith, c.loop-left-test.true) in
    let p = err_from_is_err_and c.from_residual.result c.from_residual.ensures.1 in
    rw (p.1, p.2) (went_after _ (Err _) (cut_from MOST_OPEN 0) (cut_from (suc k) n) r i.0
    (subst (λ k. Reaches (cut_from MOST_OPEN 0) r (cut_from k n) i.0) step i.1)
    (cut_fails _ _ k n i.0 (c.in_err-cut_open.ensures.does sure before st i.0 prefix k i.2)))

pub loop-left-preserved : goal.loop-left-preserved
loop-left-preserved g c = (
  omega (arith, c.loop-left.invariant.0),
  uncounted (λ fails. absurd (cc)) c.in_ok-cut_open.ensures.counts ∙ c.loop-left.invariant.1,
  uncounted (λ fails. absurd (cc)) c.in_ok-cut_open.ensures.io ∙ c.loop-left.invariant.2,
  λ sure before st r prefix at.
      let i = c.loop-left.invariant.3 sure before st r prefix at in
      let k : ℕ = c.loop-left.left - 1 in
      let n : ℕ = MOST_OPEN - c.loop-left.left in
      let step : c.loop-left.left ≡ suc k = omega (arith, c.loop-left-test.true) in
      let next : MOST_OPEN - k ≡ n + 1 = omega (arith, c.loop-left-test.true, c.loop-left.invariant.0) in
      let p = c.in_ok-cut_open.ensures.does sure before st i.0 prefix k i.2 in (
        p.0,
        reach_both (cut_from MOST_OPEN 0) (cut_from (suc k) n) (cut_from k (MOST_OPEN - k)) r i.0 p.0
            (subst (λ k. Reaches (cut_from MOST_OPEN 0) r (cut_from k n) i.0) step i.1) (rw next p.1),
        p.2,
      ),
)

pub returns-clause-does : goal.returns-clause-does
returns-clause-does g c = λ sure before st r prefix at.
    let i = c.loop-left.invariant.3 sure before st r prefix at in
    let none : c.loop-left.left ≡ 0 = omega (arith, c.loop-left-test.false) in (
      i.0,
      reach_both (cut_from MOST_OPEN 0) (cut_from 0 MOST_OPEN) (λ x. x) r i.0 i.0 (rw none at i.1)
          (cut_none MOST_OPEN i.0),
      i.2,
    )
