use Rattle.std.proofs.Common.{◌≡◌, ◌||◌, ℕ, Bool, false, List, ap, sym, ◌∙◌, Ok, Err}
use Rattle.common.specs.Splits.{before}
use Rattle.std.proofs.lemmas.Bool.{or_left, or_right}
use Rattle.std.proofs.lemmas.Result.{err_from_is_err_and}
use Rattle.gateway_script.specs.Script.{Order, is_long, is_bad, order_of, bared, order_in}
use Rattle.gateway_script.proofs.Ending.{line_bad, line_wants, line_ran}
use Rattle.gateway_script.proofs.runs.run_line.Goals as goal

pub returns-then-too_long-clause-does : goal.returns-then-too_long-clause-does
returns-then-too_long-clause-does g c = λ sure before st r prefix lines at.
    line_bad _ c.args.number c.args.start c.args.line.now lines r at
    (or_left _ (is_bad (order_in c.args.line.now)) (sym c.too_long.ensures ∙ c.if-too_long.true))

pub returns-then-is_no_order-clause-does : goal.returns-then-is_no_order-clause-does
returns-then-is_no_order-clause-does g c = λ sure before st r prefix lines at.
    line_bad _ c.args.number c.args.start c.args.line.now lines r at
    (or_right (is_long c.args.start c.args.line.now) _
    (rw (← c.text_of.ensures, ← c.in_ok-order.ensures) (sym c.is_no_order.ensures ∙ c.if-is_no_order.true)))

-- what a line's text asks for is an order, and the line isn't too long
good : (line text : List ℕ) (start : ℕ) (o : Order) (long bad : Bool) → text ≡ before 10 line
    → o ≡ order_of (bared text) → long ≡ is_long start line → long ≡ false → bad ≡ is_bad o → bad ≡ false
    → (is_long start line || is_bad (order_in line)) ≡ false
good line text start o long bad is asks l fits b well =
    ap (λ x. x || is_bad (order_in line)) (sym l ∙ fits) ∙ (ap is_bad (rw (← is) (sym asks)) ∙ (sym b ∙ well))

pub returns-clause-does : goal.returns-clause-does
returns-clause-does g c = λ sure before st r prefix lines at.
    line_ran _ c.args.number c.args.start c.args.line.now lines r at.up
    (good c.args.line.now c.text_of.result.now c.args.start _ _ _ c.text_of.ensures c.in_ok-order.ensures
    c.too_long.ensures c.if-too_long.false c.is_no_order.ensures c.if-is_no_order.false) (Ok (tt {0}))
    (rw (c.in_ok-order.ensures, c.text_of.ensures) at (c.in_ok-obey.ensures.does sure before st r prefix at))

pub returns-in_err-obey-clause-does : goal.returns-in_err-obey-clause-does
returns-in_err-obey-clause-does g c = λ sure before st r prefix lines at.
    let p = err_from_is_err_and c.from_residual-in_err-obey.result c.from_residual-in_err-obey.ensures.1 in
    rw (p.1, p.2) (line_ran _ c.args.number c.args.start c.args.line.now lines r at.up
    (good c.args.line.now c.text_of.result.now c.args.start _ _ _ c.text_of.ensures c.in_ok-order.ensures
    c.too_long.ensures c.if-too_long.false c.is_no_order.ensures c.if-is_no_order.false) (Err _)
    (rw (c.in_ok-order.ensures, c.text_of.ensures) at (c.in_err-obey.ensures.does sure before st r prefix at)))

pub returns-in_err-order-clause-does : goal.returns-in_err-order-clause-does
returns-in_err-order-clause-does g c = λ sure before st r prefix lines at.
    let p = err_from_is_err_and c.from_residual.result c.from_residual.ensures.1 in
    rw (p.1, p.2) (line_wants _ c.args.number c.args.start c.args.line.now lines r at)
