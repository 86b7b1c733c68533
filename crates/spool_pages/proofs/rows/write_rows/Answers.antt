use Rattle.std.proofs.Common.{inl, inr, ◌*◌, length, arith}
use Rattle.std.proofs.Math.ListN.{get_or-eq_default}
use Rattle.std.proofs.lemmas.Bool.{cases_lt}
use Rattle.spool_pages.proofs.RowBytes.{free_there}
use Rattle.spool_pages.proofs.rows.write_rows.Goals as goal

pub returns : goal.returns
returns c k lt = elim (cases_lt k (length c.args.rows.now)) [
  | inl below ↦ c.loop-k.invariant.written k (omega (arith, below, c.loop-k-test.false))
  | inr from ↦ free_there c.loop-k.page (8 * c.loop-k.k) (8 * k) _ c.loop-k.invariant.blank
      (omega (arith, from, c.loop-k.auto.k-end)) (get_or-eq_default c.args.rows.now _ from)
]
