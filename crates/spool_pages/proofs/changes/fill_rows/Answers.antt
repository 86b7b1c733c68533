use Rattle.std.proofs.Common.{arith}
use Rattle.spool_pages.proofs.Changed.{filled_changes}
use Rattle.spool_pages.proofs.changes.fill_rows.Goals as goal

pub returns-clause-changes : goal.returns-clause-changes
returns-clause-changes c v v' blocks changes rows =
    let i = c.loop-at.invariant in
    filled_changes c.args.pages.now c.loop-at.pages c.args.rows.now c.first_row_number-first.result i.long i.numbers
    i.others (λ k lt. i.rows k (omega (arith, lt))) v v'
    (rw blocks c.first_row_number-first.ensures.number) changes rows
