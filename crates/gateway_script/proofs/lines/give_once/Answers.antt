use Rattle.std.proofs.lemmas.Result.{err_from_is_err_and}
use Rattle.gateway_script.proofs.Reaching.{came_fails, came_refused, text_fails, once_on, once_off}
use Rattle.gateway_script.proofs.lines.give_once.Goals as goal

pub returns-in_err-answer-clause-does : goal.returns-in_err-answer-clause-does
returns-in_err-answer-clause-does g c = λ sure before st r prefix k some at.
    let p = err_from_is_err_and c.from_residual.result c.from_residual.ensures.1 in
    rw (p.1, p.2) (came_fails _ _ k c.args.conn c.args.bytes.now r some
    (c.in_err-answer.ensures.does sure before st r prefix at))

pub returns-in_default-clause-does : goal.returns-in_default-clause-does
returns-in_default-clause-does g c = λ sure before st r prefix k some at.
    came_refused _ k c.args.conn c.args.bytes.now r some
    (rw c.in_default.is at (c.in_ok-answer.ensures.does sure before st r prefix at))

pub returns-then-branch-clause-does : goal.returns-then-branch-clause-does
returns-then-branch-clause-does g c = λ sure before st r prefix k some at.
    let called = rw c.in-Some.is at (c.in_ok-answer.ensures.does sure before st r prefix at) in
    once_on _ k c.args.conn c.args.bytes.now r called.0 called.1 c.in-Some.answer some called.2
    (rw c.if-branch.true at (c.in_ok-go_on.ensures.does sure before st called.0 prefix called.1 called.3))

pub returns-else-branch-clause-does : goal.returns-else-branch-clause-does
returns-else-branch-clause-does g c = λ sure before st r prefix k some at.
    let called = rw c.in-Some.is at (c.in_ok-answer.ensures.does sure before st r prefix at) in
    once_off _ k c.args.conn c.args.bytes.now r called.0 called.1 c.in-Some.answer some called.2
    (rw c.if-branch.false at (c.in_ok-go_on.ensures.does sure before st called.0 prefix called.1 called.3))

pub returns-in_err-go_on-clause-does : goal.returns-in_err-go_on-clause-does
returns-in_err-go_on-clause-does g c = λ sure before st r prefix k some at.
    let called = rw c.in-Some.is at (c.in_ok-answer.ensures.does sure before st r prefix at) in
    let p = err_from_is_err_and c.from_residual-in_err-go_on.result c.from_residual-in_err-go_on.ensures.1 in
    rw (p.1, p.2) (text_fails _ k c.args.conn c.args.bytes.now r called.0 called.1 c.in-Some.answer some called.2 _
    (c.in_err-go_on.ensures.does sure before st called.0 prefix called.1 called.3))
