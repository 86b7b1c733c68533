use Rattle.std.proofs.Common.{◌≡◌, ◌-◌, suc, [], length, ◌∙◌, arith, Err}
use Rattle.std.proofs.lemmas.Result.{err_from_is_err_and}
use Rattle.tus_session.proofs.Counting.{uncounted}
use Rattle.gateway_script.specs.Script.{give_within}
use Rattle.gateway_script.proofs.Outputs.{some_list, no_list}
use Rattle.gateway_script.proofs.Reaching.{reach_both, went_after, once_fails, give_none, give_stop}
use Rattle.gateway_script.proofs.lines.give.Goals as goal

pub returns-in_err-taken-clause-does : goal.returns-in_err-taken-clause-does
returns-in_err-taken-clause-does g c = λ sure before st r prefix at.
    let i = c.loop-left.invariant.2 sure before st r prefix at in
    let rest = c.loop-left.rest.now in
    let step : c.loop-left.left ≡ suc (c.loop-left.left - 1) = omega (arith, c.loop-left-test.true) in
    let p = err_from_is_err_and c.from_residual.result c.from_residual.ensures.1 in
    rw (p.1, p.2) (went_after _ (Err _) (give_within (length c.args.bytes.now) c.args.conn c.args.bytes.now)
    (give_within (suc (c.loop-left.left - 1)) c.args.conn rest) r i.0 (rw step at i.1)
    (once_fails _ _ (c.loop-left.left - 1) c.args.conn rest i.0 (c.in_err-taken.ensures.does sure before st i.0 prefix _
    (some_list _ rest c.is_empty.ensures c.if-not-is_empty.true) i.2)))

pub returns-in_default-clause-does : goal.returns-in_default-clause-does
returns-in_default-clause-does g c = λ sure before st r prefix at.
    let i = c.loop-left.invariant.2 sure before st r prefix at in
    let rest = c.loop-left.rest.now in
    let step : c.loop-left.left ≡ suc (c.loop-left.left - 1) = omega (arith, c.loop-left-test.true) in
    let p = rw c.in_default.is at (c.in_ok-taken.ensures.does sure before st i.0 prefix (c.loop-left.left - 1)
    (some_list _ rest c.is_empty.ensures c.if-not-is_empty.true) i.2) in (
      p.0,
      reach_both (give_within (length c.args.bytes.now) c.args.conn c.args.bytes.now)
          (give_within (suc (c.loop-left.left - 1)) c.args.conn rest) (λ x. x) r i.0 p.0 (rw step at i.1) p.1,
      p.2,
    )

pub loop-left-preserved : goal.loop-left-preserved
loop-left-preserved g c = (
  uncounted (λ fails. absurd (cc)) c.in_ok-taken.ensures.counts ∙ c.loop-left.invariant.0,
  uncounted (λ fails. absurd (cc)) c.in_ok-taken.ensures.io ∙ c.loop-left.invariant.1,
  λ sure before st r prefix at.
      let i = c.loop-left.invariant.2 sure before st r prefix at in
      let rest = c.loop-left.rest.now in
      let step : c.loop-left.left ≡ suc (c.loop-left.left - 1) = omega (arith, c.loop-left-test.true) in
      let p = rw c.in-Some.is at (c.in_ok-taken.ensures.does sure before st i.0 prefix (c.loop-left.left - 1)
      (some_list _ rest c.is_empty.ensures c.if-not-is_empty.true) i.2) in rw c.untaken-rest.ensures (
        p.0,
        reach_both (give_within (length c.args.bytes.now) c.args.conn c.args.bytes.now)
            (give_within (suc (c.loop-left.left - 1)) c.args.conn rest)
            (give_within (c.loop-left.left - 1) c.args.conn _) r i.0 p.0 (rw step at i.1) p.1,
        p.2,
      ),
)

pub returns-else-not-is_empty-clause-does : goal.returns-else-not-is_empty-clause-does
returns-else-not-is_empty-clause-does g c = λ sure before st r prefix at.
    let i = c.loop-left.invariant.2 sure before st r prefix at in
    let none : c.loop-left.rest.now ≡ [] =
    no_list _ c.loop-left.rest.now c.is_empty.ensures c.if-not-is_empty.false in (
      i.0,
      reach_both (give_within (length c.args.bytes.now) c.args.conn c.args.bytes.now)
          (give_within c.loop-left.left c.args.conn []) (λ x. x) r i.0 i.0 (rw none at i.1)
          (give_none c.loop-left.left c.args.conn i.0),
      i.2,
    )

pub returns-after-loop-left-clause-does : goal.returns-after-loop-left-clause-does
returns-after-loop-left-clause-does g c = λ sure before st r prefix at.
    let i = c.loop-left.invariant.2 sure before st r prefix at in
    let none : c.loop-left.left ≡ 0 = omega (arith, c.loop-left-test.false) in (
      i.0,
      reach_both (give_within (length c.args.bytes.now) c.args.conn c.args.bytes.now)
          (give_within 0 c.args.conn c.loop-left.rest.now) (λ x. x) r i.0 i.0 (rw none at i.1)
          (give_stop c.args.conn c.loop-left.rest.now i.0),
      i.2,
    )
