use Rattle.std.proofs.Common.{◌*◌, refl, rules, arith}
use Rattle.spool_pages.proofs.RowBytes.{all_free, free_there, free_only}
use Rattle.spool_pages.proofs.rows.are_free.Goals as goal

pub returns-clause-free : goal.returns-clause-free
returns-clause-free c = (
  λ free k lt.
      free_there c.args.page.now 0 (8 * k) _ (λ p from. (c.is_blank.ensures.0 free).each p) (omega arith) refl,
  λ rows. c.is_blank.ensures.1 (all_free c.args.page.now (search rules) rows),
)

pub returns-clause-only : goal.returns-clause-only
returns-clause-only c free k lt row fits are_at =
    free_only c.args.page.now (8 * k) row (c.is_blank.ensures.0 free) fits are_at
